-- `ranking::list_against` meets its contract: by the types, then by the lists.
use mathlib.Core.Path.{sym, ◌∙◌}
use Rattle.operators.specs.Lent.{operators_of}
use Rattle.ranking.specs.Ranks.{prefixed, listed, compared_list}
use Rattle.ranking.proofs.ComponentsInTurn.{by_tags, by_first, list_told, as_told}
use Rattle.ranking.proofs.list_against.Goals as goal

pub returns-in-Equal : goal.returns-in-Equal
returns-in-Equal c =
    let g = c.args in
    c.compare_lists.ensures
    ∙ list_told g.other.values.now g.other.octets.now g.other.first g.tag _ _ _ (operators_of g.list) _ _ _ c.kind_of.ensures (sym c.in-Equal.is ∙ c.cmp.ensures)
    c.operators.ensures (sym c.piece_at.ensures ∙ c.in-Operators.is)

pub returns-in_default : goal.returns-in_default
returns-in_default c =
    let g = c.args in
    by_first g.tag _ (listed _) (listed _) _ c.cmp.ensures c.in_default.not-Equal
    ∙ as_told g.other.values.now g.other.octets.now g.other.first (compared_list g.tag (operators_of g.list)) _ _ (sym c.piece_at.ensures ∙ c.in-Operators.is)

pub returns-in-Prefix : goal.returns-in-Prefix
returns-in-Prefix c =
    let g = c.args in
    c.then.ensures
    ∙ by_tags g.tag _ (listed _) (prefixed _) _ c.cmp-in-Prefix.ensures
    ∙ as_told g.other.values.now g.other.octets.now g.other.first (compared_list g.tag (operators_of g.list)) _ _ (sym c.piece_at.ensures ∙ c.in-Prefix.is)
