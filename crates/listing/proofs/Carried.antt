-- What a refusal carries, by how much it is: two numbers at most, so the four numbers that tell a refusal have all of them.
use Prim.Native.Nat.{ℕ, zero, suc, ◌≤◌}
use mathlib.Core.Path.{◌≡◌, refl, ap, ◌∙◌, subst}
use mathlib.Core.List.{List, [], ◌∷◌, ◌++◌}
use native.Mathlib.Omega.{arith}
use lib.ListN.{length}
use Rattle.refusals.specs.declared.Numbers.{Numbers}
use Rattle.refusals.specs.declared.OuterError.{OuterError}
use Rattle.refusals.specs.declared.OuterError.TheVariants.{BadAttribute, ShortPacket, BadHeader, TooManyHeaders, ShortDistinguisher, MixedDistinguisher, TableFull, NotStored, BadLine, NoOldForm, UnknownAction, BadRate, PastEnd}
use Rattle.refusals.specs.declared.FlowSpecError.{FlowSpecError}
use Rattle.refusals.specs.declared.FlowSpecError.TheVariants.{InsufficientData, InvalidComponentOrder, InvalidComponentType, InvalidPrefix, InvalidOperator, InvalidValueLength, ValueTooLarge, InputTooLong, NoRoom, BadRecord, BadFamily, TooManyRules, BadPacket, MixedFamily, Outer}
use Rattle.refusals.specs.Refusals.{number_of, outer_carried, carried_of, numbers_of}
use Rattle.listing.specs.Texts.{ascii, decimal, commas}
use Rattle.listing.specs.declared.Page.{Page}
use Rattle.listing.specs.Puts.{Placeable, carried_in}
use Rattle.listing.proofs.TextsInTurn.{placeable_first}

outer_most : (e : OuterError) → length (outer_carried e) ≤ 2
outer_most BadAttribute = omega arith
outer_most ShortPacket = omega arith
outer_most BadHeader = omega arith
outer_most TooManyHeaders = omega arith
outer_most ShortDistinguisher = omega arith
outer_most (MixedDistinguisher a) = omega arith
outer_most TableFull = omega arith
outer_most NotStored = omega arith
outer_most (BadLine a) = omega arith
outer_most NoOldForm = omega arith
outer_most UnknownAction = omega arith
outer_most BadRate = omega arith
outer_most PastEnd = omega arith

pub carried_most : (e : FlowSpecError) → length (carried_of e) ≤ 2
carried_most InsufficientData = omega arith
carried_most (InvalidComponentOrder a b) = omega arith
carried_most (InvalidComponentType a) = omega arith
carried_most InvalidPrefix = omega arith
carried_most (InvalidOperator a) = omega arith
carried_most (InvalidValueLength a) = omega arith
carried_most (ValueTooLarge a) = omega arith
carried_most (InputTooLong a) = omega arith
carried_most (NoRoom a) = omega arith
carried_most BadRecord = omega arith
carried_most (BadFamily a) = omega arith
carried_most (TooManyRules a) = omega arith
carried_most BadPacket = omega arith
carried_most (MixedFamily a) = omega arith
carried_most (Outer e) = outer_most e

in_four : (number : ℕ) (ns : List ℕ) → length ns ≤ 2 → carried_in (numbers_of number ns) ≡ ns
in_four number [] h = refl
in_four number (a ∷ []) h = refl
in_four number (a ∷ b ∷ []) h = refl
in_four number (a ∷ b ∷ c ∷ ns) h = absurd (omega arith)

pub carried_in_lem : (e : FlowSpecError) {n : Numbers} → n ≡ numbers_of (number_of e) (carried_of e) → carried_in n ≡ carried_of e
carried_in_lem e is = ap carried_in is ∙ in_four (number_of e) (carried_of e) (carried_most e)

-- ---- joined by commas
module _ (n : Numbers) where
  by_count : (k : ℕ) → n.count ≡ k → carried_in n ≡ carried_in (record { number = n.number; count = k; first = n.first; second = n.second })
  by_count k e = rw e

  pub commas_none : n.count ≡ 0 → commas (carried_in n) ≡ []
  commas_none e = ap commas (by_count 0 e)

  pub commas_one : n.count ≡ 1 → commas (carried_in n) ≡ decimal n.first
  commas_one e = ap commas (by_count 1 e)

  two_by : (k : ℕ) → n.count ≡ k → (k ≡ 0 → ⊥) → (k ≡ 1 → ⊥) → commas (carried_in n) ≡ decimal n.first ++ ascii "," ++ decimal n.second
  two_by zero e a b = absurd (a refl)
  two_by (suc zero) e a b = absurd (b refl)
  two_by (suc (suc zero)) e a b = ap commas (by_count 2 e)
  two_by (suc (suc (suc k))) e a b = ap commas (by_count (suc (suc (suc k))) e)

  pub commas_two : (n.count ≡ 0 → ⊥) → (n.count ≡ 1 → ⊥) → commas (carried_in n) ≡ decimal n.first ++ ascii "," ++ decimal n.second
  commas_two a b = two_by n.count refl a b

  first_by : {page : Page} (k : ℕ) → n.count ≡ k → (k ≡ 0 → ⊥) → Placeable page (commas (carried_in n)) → Placeable page (decimal n.first)
  first_by zero e a r = absurd (a refl)
  first_by {page} (suc zero) e a r = subst (Placeable page) (commas_one e) r
  first_by {page} (suc (suc k)) e a r =
      placeable_first (decimal n.first) (ascii ",")
      (placeable_first (decimal n.first ++ ascii ",") (decimal n.second) (subst (Placeable page) (two_by (suc (suc k)) e (λ z. omega arith) (λ z. omega arith)) r))

  pub commas_first : {page : Page} → (n.count ≡ 0 → ⊥) → Placeable page (commas (carried_in n)) → Placeable page (decimal n.first)
  commas_first a r = first_by n.count refl a r
