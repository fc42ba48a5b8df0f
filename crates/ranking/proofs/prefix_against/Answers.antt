-- `ranking::prefix_against` meets its contract: by the types, then by the prefixes.
use mathlib.Core.Path.{◌≡◌, ◌∙◌}
use borrow.Author.Rules.{rules}
use Rattle.ranking.specs.Ranks.{rank_prefix, prefixed, listed, compared}
use Rattle.ranking.proofs.ComponentsInTurn.{by_tags, by_tags_with, as_told}
use Rattle.ranking.proofs.prefix_against.Goals as goal

pub returns-in-Prefix : goal.returns-in-Prefix
returns-in-Prefix c =
    let g = c.args in
    λ values octets first.
    by_tags_with g.tag _ (prefixed g.prefix) (prefixed _) _ _ c.cmp.ensures c.then_with.ensures (λ e same. let told : c.then_with.result ≡ rank_prefix g.prefix c.in-Prefix.prefix2 = search rules in told ∙ by_tags g.tag _ (prefixed g.prefix) (prefixed _) _ e)
    ∙ as_told values octets first (compared g.tag (prefixed g.prefix)) g.other _ c.in-Prefix.is

pub returns-in-Operators : goal.returns-in-Operators
returns-in-Operators c =
    let g = c.args in
    λ values octets first.
    c.then.ensures
    ∙ by_tags g.tag _ (prefixed g.prefix) (listed _) _ c.cmp-in-Operators.ensures
    ∙ as_told values octets first (compared g.tag (prefixed g.prefix)) g.other _ c.in-Operators.is
