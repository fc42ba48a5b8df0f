-- `prefixes::clean_ipv6` meets its contract: nothing is left past the length, and with an offset nothing before it.
use Prim.Native.Nat.{ℕ}
use mathlib.Core.Path.{sym, ap, ◌∙◌}
use borrow.Author.Tests.{eq-eqb, ne_eqb}
use lib.Dec.{eqb}
use Rattle.prefixes.proofs.Addresses.{none_past, none_before, none_down}
use Rattle.prefixes.proofs.clean_ipv6.Goals as goal

pub returns-else-shl-eq0 : goal.returns-else-shl-eq0
returns-else-shl-eq0 c =
    let a = c.args in
    rw (sym (ap (λ (n : ℕ). eqb n 0) c.shl.ensures ∙ none_past a.len a.w c.requires.0), ne_eqb c.shl.result 0 c.if-shl-eq0.false)

pub returns-then-off-eq0 : goal.returns-then-off-eq0
returns-then-off-eq0 c =
    let a = c.args in
    let k = sym (ap (λ (n : ℕ). eqb n 0) c.shl.ensures ∙ none_past a.len a.w c.requires.0) ∙ eq-eqb c.shl.result 0 c.if-shl-eq0.true in
    rw c.if-off-eq0.true (sym k ∙ none_before 128 a.len a.w c.ranges.w.fits)

pub returns-else-off-eq0 : goal.returns-else-off-eq0
returns-else-off-eq0 c =
    let a = c.args in
    rw (sym (ap (λ (n : ℕ). eqb n 0) c.shl.ensures ∙ none_past a.len a.w c.requires.0), eq-eqb c.shl.result 0 c.if-shl-eq0.true) (ap (λ (n : ℕ). eqb n 0) c.shr.ensures ∙ none_down a.off a.w)
