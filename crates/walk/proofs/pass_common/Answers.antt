-- `walk::pass_common` meets its contract. The invariant is that the walk stands at the next component; types rise.
use mathlib.Core.Path.{sym, ◌∙◌}
use native.Mathlib.Omega.{arith}
use Rattle.walk.proofs.Turns.{walking_lone, walking_prefix}
use Rattle.walk.proofs.pass_common.Goals as goal

pub loop-passed-preserved-then-found-lt3 : goal.loop-passed-preserved-then-found-lt3
loop-passed-preserved-then-found-lt3 c = (
  walking_prefix c.in-Some.k c.loop-passed.invariant.0 c.loop-passed-test.true (omega (arith, c.if-s-at-lt3.false)) c.if-found-passed.false (omega (arith, c.if-found-lt3.true)) c.in-Some.ensures,
  omega (arith, c.loop-passed.invariant.1, c.if-found-passed.false),
)

pub loop-passed-preserved : goal.loop-passed-preserved
loop-passed-preserved c = (
  walking_lone c.loop-passed.invariant.0 c.loop-passed-test.true (omega (arith, c.if-s-at-lt3.false)) c.if-found-passed.false (omega (arith, c.if-found-lt3.false)) (omega (arith, c.last_type.ensures, c.if-last_type-found.false))
      (sym c.alone.ensures ∙ c.if-not-alone.false),
  omega (arith, c.loop-passed.invariant.1, c.if-found-passed.false),
)
