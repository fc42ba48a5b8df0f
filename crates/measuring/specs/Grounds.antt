-- Which components each writing takes; the others are BadRecord: document 01, "Writing". A width that is none of the four can't be named by
-- an operator octet, and "at most 13 components" is tested where the rule is (`stored`).
use Rattle.std.specs.Prelude.{ℕ, ◌+◌, List, [], ◌∷◌, Bool, true, false, ◌&&◌, ◌||◌, length, eqb, leb, ltb, Option}
use Rattle.ground.specs.Answers.{Answer, accepts, refuses, declines}
use Rattle.ground.specs.Picks.{pick}
use Rattle.choices.specs.declared.Reading.{Reading}
use Rattle.choices.specs.declared.Reading.TheVariants.{Plain, Ipv4, Ipv6}
use Rattle.choices.specs.Choices.{last_type}
use Rattle.operators.specs.Ops.{Op}
use Rattle.rules.specs.declared.NetworkPrefix.{NetworkPrefix}
use Rattle.prefixes.specs.Forms.{in_range, valid_in}
use Rattle.stored.specs.declared.Piece.{Piece}
use Rattle.stored.specs.declared.Piece.TheVariants.{Prefix, Operators, NoRecord}
use Rattle.stored.specs.Pieces.{type_of}
use Rattle.listwriting.specs.Lists.{takes_in}
use Rattle.measuring.specs.Bodies.{Lent, ops_of, whole_octets}

-- "and, their counts summed, 2,047 operators"
abbrev pub operators_in : Piece → ℕ
operators_in (Prefix t p) = 0
operators_in (Operators t start count) = count
operators_in NoRecord = 0

unfoldable pub all_operators : List Piece → ℕ
all_operators [] = 0
all_operators (p ∷ ps) = operators_in p + all_operators ps

-- "a component naming operators outside the lent list"; unequal lists count as the shorter. A count of 0 names none, wherever it starts
abbrev pub inside_of : Lent → ℕ → ℕ → Bool
inside_of l start count =
    eqb count 0 || (leb (l.first + start + count) (length l.values) && leb (l.first + start + count) (length l.octets))

-- plain: "a prefix length over its address's". Standard: "a prefix of the wrong form (family 4: IPv4, no offset; 6: IPv6 with one) or range, or
-- with other bits set"
abbrev pub prefix_taken : Reading → NetworkPrefix → Bool
prefix_taken Plain p = in_range p
prefix_taken Ipv4 p = valid_in 4 p
prefix_taken Ipv6 p = valid_in 6 p

-- standard: "an empty list; an end mark missing on the last operator or set on another; AND on the first; a value too large for its width;
-- a width that the standard reading refuses for the type"
abbrev pub list_taken : Reading → ℕ → List Op → Bool
list_taken Plain t os = true
list_taken Ipv4 t os = takes_in t os
list_taken Ipv6 t os = takes_in t os

-- four words that are no component are taken by no writing
unfoldable pub piece_taken : Reading → Lent → Piece → Bool
piece_taken w l (Prefix t p) = prefix_taken w p
piece_taken w l (Operators t start count) = inside_of l start count && list_taken w t (ops_of l start count)
piece_taken w l NoRecord = false

unfoldable pub all_taken : Reading → Lent → List Piece → Bool
all_taken w l [] = true
all_taken w l (p ∷ ps) = piece_taken w l p && all_taken w l ps

-- standard: "types not rising or unknown in the family"
abbrev pub rises_in : Reading → ℕ → ℕ → Bool
rises_in Plain previous t = true
rises_in Ipv4 previous t = ltb previous t && leb t (last_type Ipv4)
rises_in Ipv6 previous t = ltb previous t && leb t (last_type Ipv6)

unfoldable pub in_order : Reading → ℕ → List Piece → Bool
in_order w previous [] = true
in_order w previous (p ∷ ps) = rises_in w previous (type_of p) && in_order w (type_of p) ps

-- what a writing takes, with so many operators left and after a type
unfoldable pub taken_after : Reading → Lent → ℕ → ℕ → List Piece → Bool
taken_after w l left previous ps = leb (all_operators ps) left && (all_taken w l ps && in_order w previous ps)

abbrev pub body_taken : Reading → Lent → List Piece → Bool
body_taken w l ps = taken_after w l 2047 0 ps

-- the body, or why there is none: BadRecord; then "Bodies over 4095 octets are ValueTooLarge", with the body's length, in which a distinguisher counts
abbrev pub sized_body : List ℕ → Answer (List ℕ)
sized_body body = pick (ltb 4095 (length body)) (refuses 7 (length body ∷ [])) (accepts body)

unfoldable pub body_of : Reading → Lent → Option ℕ → List Piece → Answer (List ℕ)
body_of w l d ps = pick (body_taken w l ps) (sized_body (whole_octets w l d ps)) (refuses 10 [])

-- how many octets an answer has
abbrev pub counted : Answer (List ℕ) → Answer ℕ
counted (accepts xs) = accepts (length xs)
counted (declines f) = declines f
