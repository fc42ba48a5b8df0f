-- No second answer meets the chooser's contract: an answer can be read back from what is told of it.
use Prim.Native.Nat.{ℕ}
use mathlib.Core.Path.{◌≡◌, refl, sym, ap, ◌∙◌}
use Rattle.std.specs.declared.option.Option.{Option}
use Rattle.std.specs.declared.option.Option.TheVariants.{Some, None}
use Rattle.std.specs.declared.result.Result.{Result}
use Rattle.std.specs.declared.result.Result.TheVariants.{Ok, Err}
use Rattle.ground.specs.Answers.{Answer, accepts, declines}
use Rattle.refusals.specs.declared.Fault.{Fault}
use Rattle.refusals.proofs.Once.{fault_from, fault_back}
use Rattle.choosing.specs.Choosing.{Choice, place, none, told_chosen}

abbrev chosen_of : Answer Choice → Result (Option ℕ) Fault
chosen_of (accepts (place i)) = Ok (Some i)
chosen_of (accepts none) = Ok None
chosen_of (declines f) = Err (fault_from f)

chosen_back : (a : Result (Option ℕ) Fault) → chosen_of (told_chosen a) ≡ a
chosen_back (Ok (Some i)) = refl
chosen_back (Ok None) = refl
chosen_back (Err f) = ap Err (fault_back f)

pub chosen_once : (a b : Result (Option ℕ) Fault) → told_chosen a ≡ told_chosen b → a ≡ b
chosen_once a b h = sym (chosen_back a) ∙ ap chosen_of h ∙ chosen_back b
