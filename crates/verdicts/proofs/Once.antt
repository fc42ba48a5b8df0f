-- No second answer meets a contract here: an answer can be read back from what is told of it.
use mathlib.Core.Path.{◌≡◌}
use mathlib.Core.Bool.{Bool}
use Rattle.std.specs.declared.result.Result.{Result}
use Rattle.refusals.specs.declared.Fault.{Fault}
use Rattle.refusals.specs.Refusals.{answered}
use Rattle.refusals.proofs.Once.{answered_once}
use Rattle.ranking.specs.Ranks.{Ordering}

pub matched_once : (a b : Result Bool Fault) → answered a ≡ answered b → a ≡ b
matched_once a b h = answered_once a b h

pub ranked_once : (a b : Result Ordering Fault) → answered a ≡ answered b → a ≡ b
ranked_once a b h = answered_once a b h
