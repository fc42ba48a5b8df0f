-- The table of less, greater and equal as RFC 8955, 4.2.1.1, prints it. What a numeric operator promises is `compared` in Lists.antt, document
-- 01's sentence; that the two say the same is `as_printed` in proofs/Meanings.antt.
use Rattle.std.specs.Prelude.{ℕ, ◌%◌, List, [], ◌∷◌, Bool, true, false, not, ltb, leb, eqb, get_or}

-- a meaning: what is asked of a number and the operator's value
abbrev pub Meaning : Type 0
Meaning = ℕ → ℕ → Bool

-- by the bits less, greater and equal
unfoldable pub meanings : List Meaning
meanings =
    (λ datum value. false)  -- 0 0 0: false
    ∷ (λ datum value. eqb datum value)  -- 0 0 1: ==
    ∷ (λ datum value. ltb value datum)  -- 0 1 0: >
    ∷ (λ datum value. leb value datum)  -- 0 1 1: >=
    ∷ (λ datum value. ltb datum value)  -- 1 0 0: <
    ∷ (λ datum value. leb datum value)  -- 1 0 1: <=
    ∷ (λ datum value. not (eqb datum value))  -- 1 1 0: !=
    ∷ (λ datum value. true)  -- 1 1 1: true
    ∷ []

-- there is no other row
abbrev pub never : Meaning
never datum value = false

-- an operator's meaning: the three low bits of its octet, as a number, are the row
abbrev pub meant : ℕ → Meaning
meant octet = get_or meanings (octet % 8) never
