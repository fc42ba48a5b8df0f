-- `choosing::first_other` meets its contract, by the test of each place.
use Prim.Native.Nat.{ℕ, ◌≤◌, ◌<◌}
use mathlib.Core.Path.{◌≡◌, sym}
use mathlib.Core.Bool.{Bool, true, false}
use mathlib.Core.List.{[]}
use native.Mathlib.Omega.{arith}
use Rattle.std.specs.Prelude.{MatchOption}
use Rattle.std.specs.declared.option.Option.{Option}
use Rattle.std.specs.declared.option.Option.TheVariants.{Some, None}
use Rattle.std.proofs.Common.{rules, tests}
use Rattle.std.proofs.lemmas.Iterator.{first_from_Range}
use Rattle.choosing.specs.Choosing.{table, like_first, first_failing, choice_of}
use Rattle.choosing.proofs.Demand3.{no_first, the_first}
use Rattle.choosing.proofs.first_other.Goals as goal

-- what is found, as the definition has it
found_first : (f : ℕ → Bool) (n : ℕ) (r : Option ℕ)
    → MatchOption r ((k : ℕ) → 0 ≤ k → k < n → f k ≡ true) (λ i. (0 ≤ i) × (i < n) × (f i ≡ false) × ((k : ℕ) → 0 ≤ k → k < i → f k ≡ true))
    → choice_of r ≡ first_failing f n
found_first f n None h = sym (no_first f n (λ i. h i (omega arith)))
found_first f n (Some i) h = sym (the_first f n i (record { below = h.1; failed = h.2; earlier = λ j. h.3 j (omega arith) }))

pub returns : goal.returns
returns c =
    let a = c.args in
    let f = like_first (table a.words.now [] []) in
    found_first f a.n c.find.result
    (first_from_Range _ _ _ _ (λ i. f i ≡ false) (λ i. f i ≡ true) c.find.ensures.ran
    (λ x q k. search (rules, tests))
    (λ x q k. (search rules, search (rules, tests))))
