-- `ranking::compare_components` meets its contract: of lists of one type, as their views show them.
use mathlib.Core.Path.{◌∙◌}
use Rattle.stored.specs.Pieces.{piece_at}
use Rattle.ranking.proofs.ComponentsInTurn.{by_views}
use Rattle.ranking.proofs.compare_components.Goals as goal

pub returns-in-List-List : goal.returns-in-List-List
returns-in-List-List c =
    let g = c.args in
    let v = c.in-List-List in
    c.compare_lists.ensures
    ∙ by_views g.a.values.now g.a.octets.now g.a.first g.b.values.now g.b.octets.now g.b.first v.tag v.start v.count v.tag2 v.start2 v.count2 (piece_at g.a.words.now g.a.at) (piece_at g.b.words.now g.b.at) _ _ _
    v.ensures v.ensures' c.if-tag-tag2.true c.kind_of.ensures c.operators.ensures c.operators-in-List-List.ensures
