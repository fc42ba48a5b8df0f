-- A list put to some numbers, by the library's word for one of them.
use Prim.Native.Nat.{ℕ}
use mathlib.Core.Path.{◌≡◌, refl, ap}
use mathlib.Core.Bool.{Bool, ◌||◌}
use mathlib.Core.List.{List, [], ◌∷◌}
use Rattle.std.specs.List.{list_any}
use Rattle.operators.specs.Ops.{Op}
use Rattle.satisfying.specs.declared.Test.{Test}
use Rattle.satisfying.specs.Lists.{truth_of, any, list_matches}
use Rattle.matching.specs.Rules.{some_matches}

one_of : {A : Type 0} (p : A → Bool) (xs : List A) → list_any p xs ≡ any p xs
unfolding any
one_of p [] = refl
one_of p (x ∷ xs) = ap (λ (b : Bool). p x || b) (one_of p xs)

pub some_is : (test : Test) (ops : List Op) (numbers : List ℕ) → list_any (λ n. list_matches (truth_of test n) ops) numbers ≡ some_matches test ops numbers
unfolding some_matches
some_is test ops numbers = one_of (λ n. list_matches (truth_of test n) ops) numbers
