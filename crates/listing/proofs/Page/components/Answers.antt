-- `Page::components` meets its contract: `LinesInTurn.antt` has what is left after so many components.
use mathlib.Core.Path.{refl}
use Rattle.listing.proofs.TextsInTurn.{left_same, left_placeable, left_more, left_end}
use Rattle.listing.proofs.LinesInTurn.{components_none, components_more, component_backed}
use Rattle.listing.proofs.Page.components.Goals as goal
use borrow.Author.Rules.{rules}

pub piece-requires-clause-backed : goal.piece-requires-clause-backed
piece-requires-clause-backed c =
    component_backed c.args.rule.values.now c.args.rule.octets.now c.args.rule.words.now _ c.loop-i.i (search rules) c.piece_at.ensures refl _ _ c.args.rule.listable.backed

pub piece-requires-clause-placeable : goal.piece-requires-clause-placeable
piece-requires-clause-placeable c =
    left_placeable _ _ (left_same (components_more _ _ c.args.rule.words.now _ c.loop-i.i (search rules) c.piece_at.ensures) c.loop-i.invariant) c.requires

pub loop-i-preserved : goal.loop-i-preserved
loop-i-preserved c =
    left_more _ _ (left_same (components_more _ _ c.args.rule.words.now _ c.loop-i.i (search rules) c.piece_at.ensures) c.loop-i.invariant) c.piece.ensures

pub returns : goal.returns
returns c = left_end _ (components_none _ _ _ _ _ (search rules)) c.loop-i.invariant
