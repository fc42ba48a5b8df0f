-- `lists::measure_run` meets its contract, which is the loop's invariant too.
use native.Mathlib.Omega.{arith}
use Rattle.lists.proofs.Runs.{width_by, on_more, on_last}
use Rattle.lists.proofs.measure_run.Goals as goal

pub returns-then-octet-ge128 : goal.returns-then-octet-ge128
returns-then-octet-ge128 c = on_last c.loop-i.invariant c.if-octet-code.false (width_by _ c.requires.w_value c.if-octet-code.false) (omega arith) (omega arith) c.if-octet-ge128.true

pub loop-i-preserved : goal.loop-i-preserved
loop-i-preserved c = on_more c.loop-i.invariant c.if-octet-code.false (width_by _ c.requires.w_value c.if-octet-code.false) (omega arith) (omega arith) c.if-octet-ge128.false
