-- No second answer meets a contract here: an answer can be read back from what is told of it, and the output afterwards is stated whole.
use Prim.Native.Nat.{ℕ}
use mathlib.Core.Path.{◌≡◌}
use Rattle.std.specs.declared.result.Result.{Result}
use Rattle.refusals.specs.declared.Fault.{Fault}
use Rattle.refusals.specs.Refusals.{answered}
use Rattle.refusals.proofs.Once.{answered_once}

pub written_once : (a b : Result ℕ Fault) → answered a ≡ answered b → a ≡ b
written_once a b h = answered_once a b h
