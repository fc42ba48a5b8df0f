-- `walk::component_at` meets its contract: of its returns, those that the check does not find by itself: a prefix.
use native.Mathlib.Omega.{arith}
use Rattle.std.proofs.lemmas.Result.{err_from_is_err_and}
use Rattle.walk.proofs.Ways.{prefix_seen}
use Rattle.walk.proofs.component_at.Goals as goal

pub returns-in_err-extent : goal.returns-in_err-extent
returns-in_err-extent c =
    λ start.
    let p = err_from_is_err_and c.from_residual.result c.from_residual.ensures.1 in
    rw (p.1, p.2)
    (prefix_seen _ _ _ _ start c.if-s-at.false c.if-tag-previous.false (omega (arith, c.last_type.ensures, c.if-last_type-tag.false)) c.if-tag-le2.true c.in_err-extent.ensures)

pub returns-then-tag-le2 : goal.returns-then-tag-le2
returns-then-tag-le2 c =
    λ start.
    prefix_seen _ _ _ _ start c.if-s-at.false c.if-tag-previous.false (omega (arith, c.last_type.ensures, c.if-last_type-tag.false)) c.if-tag-le2.true c.in_ok-extent.ensures
