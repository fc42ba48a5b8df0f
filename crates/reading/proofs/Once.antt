-- No second answer meets a contract here: an answer can be read back from what is told of it, and every lent list afterwards is stated whole.
use Rattle.std.specs.Prelude.{◌≡◌}
use Rattle.std.specs.declared.result.Result.{Result}
use Rattle.refusals.specs.declared.Fault.{Fault}
use Rattle.refusals.specs.Refusals.{answered}
use Rattle.refusals.proofs.Once.{answered_once}
use Rattle.reading.specs.declared.Taken.{Taken}

pub into_once : (a b : Result Taken Fault) → answered a ≡ answered b → a ≡ b
into_once = answered_once
