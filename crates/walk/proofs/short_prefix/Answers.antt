-- `walk::short_prefix` meets its contract: a prefix of up to 32 bits is in the range of both readings without an offset.
use mathlib.Core.Path.{subst, sym}
use mathlib.Core.Logic.{⊎_elim}
use Rattle.std.proofs.lemmas.Option.{IfSome_then}
use Rattle.choices.specs.declared.Reading.{Reading}
use Rattle.walk.specs.Turns.{Prefixed}
use Rattle.walk.proofs.Turns.{plain_short, ipv4_short}
use Rattle.walk.proofs.short_prefix.Goals as goal

pub returns-in-Plain : goal.returns-in-Plain
returns-in-Plain c =
    let g = c.args in
    IfSome_then c.short_octets.result c.short_octets.ensures
    (λ n f.
    ⊎_elim
    (λ e. subst (λ (r : Reading). Prefixed r g.s.now g.at n) (sym e) (plain_short g.s.now g.at n f.0 f.1.0 f.1.1))
    (λ e. subst (λ (r : Reading). Prefixed r g.s.now g.at n) (sym e) (ipv4_short g.s.now g.at n f.0 f.1.0 f.1.1))
    c.in-Plain.is)
