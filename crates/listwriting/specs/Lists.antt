-- One list of operators in a writing: how many octets write it, and whether the standard writing takes it. The octets themselves are
-- `list_octets` of `operators`. Document 01, "Writing"; RFC 8955, 4.2.1.1 and 4.2.1.2.
use Rattle.std.specs.Prelude.{ℕ, zero, suc, ◌+◌, ◌*◌, ◌/◌, ◌%◌, ◌^◌, List, [], ◌∷◌, Bool, true, false, not, ◌&&◌, get_or, eqb, leb, ltb, None, Some, Option}
use Rattle.octets.specs.Widths.{code_in, width_of}
use Rattle.ground.specs.Picks.{pick}
use Rattle.choices.specs.Choices.{codes_by}
use Rattle.operators.specs.Ops.{Op, op, ops_in}

-- the octets of n operators from a place on: one each, and its value's width (`length_list` in proofs/ has the law)
unfoldable pub size_in : List ℕ → ℕ → ℕ → ℕ
size_in octets at zero = 0
size_in octets at (suc n) = 1 + width_of (get_or octets at 0) + size_in octets (at + 1) n

-- not "a value too large for its width"
abbrev pub fits_in : ℕ → ℕ → Bool
fits_in octet value = ltb value (2 ^ (8 * width_of octet))

-- each value fits, and no "end mark missing on the last operator or set on another"
unfoldable pub ends : List Op → Bool
ends [] = false
ends (o ∷ []) = fits_in o.octet o.value && leb 128 o.octet
ends (o ∷ p ∷ os) = fits_in o.octet o.value && (not (leb 128 o.octet) && ends (p ∷ os))

-- what the standard writing takes: not "an empty list", and no "AND on the first"
unfoldable pub takes : List Op → Bool
takes [] = false
takes (o ∷ os) = not (eqb (o.octet % 128 / 64) 1) && ends (o ∷ os)

-- all width codes are below a bound
unfoldable pub narrow : ℕ → List Op → Bool
narrow codes [] = true
narrow codes (o ∷ os) = ltb (code_in o.octet) codes && narrow codes os

-- what it takes in a component of a type: no "width that the standard reading refuses for the type" either
abbrev pub takes_in : ℕ → List Op → Bool
takes_in type os = takes os && narrow (codes_by type) os

-- the octets of the operators at so many places, where the standard writing takes them
abbrev pub taken_size : ℕ → List ℕ → List ℕ → ℕ → ℕ → Option ℕ
taken_size type values octets from count = pick (takes_in type (ops_in values octets from count)) (Some (size_in octets from count)) None

-- the octets of a component whose list is one operator, its type octet too
abbrev pub one_size : ℕ → ℕ → ℕ → Option ℕ
one_size type octet value = pick (takes_in type (op octet value ∷ [])) (Some (2 + width_of octet)) None

-- and of one whose list is two
abbrev pub pair_size : ℕ → ℕ → ℕ → ℕ → ℕ → Option ℕ
pair_size type octet value octet₂ value₂ = pick (takes_in type (op octet value ∷ op octet₂ value₂ ∷ [])) (Some (3 + width_of octet + width_of octet₂)) None
