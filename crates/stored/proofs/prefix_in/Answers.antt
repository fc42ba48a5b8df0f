-- `stored::prefix_in` meets its contract. The test is the definition's, since the prefix and its words are.
use mathlib.Core.Path.{sym, ap, ◌∙◌}
use mathlib.Core.Bool.{true, false}
use Rattle.stored.specs.Pieces.{same_quad}
use Rattle.stored.proofs.Words.{piece_prefix}
use Rattle.stored.proofs.prefix_in.Goals as goal

pub returns-then-eq : goal.returns-then-eq
returns-then-eq c =
    let a = c.args in
    piece_prefix a.q true a.tag c.requires.0 c.requires.1 c.requires.2 _ c.network.ensures (sym (c.eq.ensures ∙ ap (λ x. same_quad x a.q) c.from.ensures) ∙ c.if-eq.true)

pub returns-else-eq : goal.returns-else-eq
returns-else-eq c =
    let a = c.args in
    piece_prefix a.q false a.tag c.requires.0 c.requires.1 c.requires.2 _ c.network.ensures (sym (c.eq.ensures ∙ ap (λ x. same_quad x a.q) c.from.ensures) ∙ c.if-eq.false)
