-- `ranking::compare_written` meets its contract.
use mathlib.Core.Path.{ap₂, ◌∙◌}
use Rattle.ranking.specs.Ranks.{lower, then_by, rank_op}
use Rattle.ranking.proofs.compare_written.Goals as goal

pub returns : goal.returns
unfolding rank_op
returns c =
    c.then.ensures
    ∙ ap₂ then_by
    (c.cmp.ensures ∙ ap₂ lower c.cleared.ensures c.cleared-2.ensures)
    (c.cmp-2.ensures ∙ ap₂ lower c.cut.ensures c.cut-2.ensures)
