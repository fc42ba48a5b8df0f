-- `choosing::ranked` meets its contract: two well-formed rules are such as ranking takes.
use Prim.Native.Nat.{◌*◌}
use native.Mathlib.Omega.{arith}
use Rattle.verdicts.proofs.WellFormed.{rankable}
use Rattle.choosing.proofs.ranked.Goals as goal

pub overflow_mul-i : goal.overflow_mul-i
overflow_mul-i c = let a = c.args in omega (arith, (rankable a.words.now a.values.now a.octets.now (64 * a.i) c.requires.formed).whole)

pub overflow_mul-best : goal.overflow_mul-best
overflow_mul-best c = let a = c.args in omega (arith, (rankable a.words.now a.values.now a.octets.now (64 * a.best) c.requires.best).whole)

pub compare_rules-order-requires-clause-first : goal.compare_rules-order-requires-clause-first
compare_rules-order-requires-clause-first c = rankable c.args.words.now c.args.values.now c.args.octets.now (64 * c.args.i) c.requires.formed

pub compare_rules-order-requires-clause-second : goal.compare_rules-order-requires-clause-second
compare_rules-order-requires-clause-second c = rankable c.args.words.now c.args.values.now c.args.octets.now (64 * c.args.best) c.requires.best
