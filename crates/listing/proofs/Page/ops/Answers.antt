-- `Page::ops` meets its contract: `LinesInTurn.antt` has what is left from a place on.
use Rattle.listing.proofs.TextsInTurn.{left_same, left_placeable, left_more, left_end}
use Rattle.listing.proofs.LinesInTurn.{ops_none, ops_more}
use Rattle.listing.proofs.Page.ops.Goals as goal
use borrow.Author.Rules.{rules}

pub op-requires : goal.op-requires
op-requires c = left_placeable _ _ (left_same (ops_more _ _ _ _ (search rules)) c.loop-i.invariant) c.requires

pub loop-i-preserved : goal.loop-i-preserved
loop-i-preserved c = left_more _ _ (left_same (ops_more _ _ _ _ (search rules)) c.loop-i.invariant) c.op.ensures

pub returns : goal.returns
returns c = left_end _ (ops_none _ _ _ _ (search rules)) c.loop-i.invariant
