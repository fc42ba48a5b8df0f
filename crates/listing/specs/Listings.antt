-- What flowlist prints: document 01, "The program flowlist reads standard input by the IPv4 reading". Each line ends in a newline, the last too.
use Rattle.std.specs.Prelude.{ℕ, false, List, [], ◌∷◌, ◌++◌, map, ltb, length}
use Rattle.ground.specs.Answers.{Place, nowhere, at_octet, Refused, Answer, accepts, refuses, declines}
use Rattle.ground.specs.Picks.{pick}
use Rattle.choices.specs.declared.Reading.TheVariants.{Ipv4}
use Rattle.operators.specs.Ops.{Op, octet_of, number_of, ops_in}
use Rattle.rules.specs.declared.NetworkPrefix.{NetworkPrefix}
use Rattle.rules.specs.declared.NetworkPrefix.TheVariants.{Ipv4 as V4, Ipv6 as V6, Ipv4Offset, Ipv6Offset}
use Rattle.stored.specs.declared.Piece.{Piece}
use Rattle.stored.specs.declared.Piece.TheVariants.{Prefix, Operators, NoRecord}
use Rattle.reading.specs.Readings.{ReadRule, read_at}
use Rattle.listing.specs.Texts.{ascii, hex, decimal, commas, dotted}

-- a line of a key and a number
unfoldable pub number_line : List ℕ → ℕ → List ℕ
number_line key n = key ++ decimal n ++ ascii "\n"

abbrev pub reading_line : List ℕ
reading_line = ascii "reading=ipv4\n"

abbrev pub status_line : ℕ → List ℕ
status_line n = number_line (ascii "status=") n

abbrev pub used_line : ℕ → List ℕ
used_line n = number_line (ascii "used=") n

abbrev pub components_line : ℕ → List ℕ
components_line n = number_line (ascii "components=") n

abbrev pub type_line : ℕ → List ℕ
type_line n = number_line (ascii "type=") n

abbrev pub ops_line : ℕ → List ℕ
ops_line n = number_line (ascii "ops=") n

-- "An op is the octet in upper-case hex, a colon, the decimal value"
abbrev pub op_line : Op → List ℕ
op_line o = ascii "op=" ++ hex o.octet ++ ascii ":" ++ decimal o.value ++ ascii "\n"

unfoldable pub op_lines : List Op → List ℕ
op_lines [] = []
op_lines (o ∷ os) = op_line o ++ op_lines os

-- "`prefix=192.0.2.0/24`". The IPv4 reading gives no other form, so none has a line
abbrev pub prefix_line : NetworkPrefix → List ℕ
prefix_line (V4 len a) = ascii "prefix=" ++ dotted a ++ ascii "/" ++ decimal len ++ ascii "\n"
prefix_line (V6 len h l) = []
prefix_line (Ipv4Offset len off a) = []
prefix_line (Ipv6Offset len off h l) = []

-- "detail" with "the carried numbers"
abbrev pub detail_line : List ℕ → List ℕ
detail_line ns = ascii "detail=" ++ commas ns ++ ascii "\n"

-- "then `place`, empty for 8"
abbrev pub place_line : Place → List ℕ
place_line nowhere = ascii "place=\n"
place_line (at_octet at) = number_line (ascii "place=") at

-- a component, of which the operators stand in the two lists; "A prefix component has `prefix=` .. for its ops lines"
abbrev pub piece_lines : List ℕ → List ℕ → Piece → List ℕ
piece_lines values octets (Prefix t p) = type_line t ++ prefix_line p
piece_lines values octets (Operators t start n) = type_line t ++ ops_line n ++ op_lines (ops_in values octets start n)
piece_lines values octets NoRecord = []

unfoldable pub component_lines : List ℕ → List ℕ → List Piece → List ℕ
component_lines values octets [] = []
component_lines values octets (p ∷ ps) = piece_lines values octets p ++ component_lines values octets ps

-- the listing of a rule that used so many octets, and of a refusal
unfoldable pub rule_lines : ℕ → List Piece → List ℕ → List ℕ → List ℕ
rule_lines used ps values octets =
    reading_line ++ status_line 0 ++ used_line used ++ components_line (length ps) ++ component_lines values octets ps

unfoldable pub refusal_lines : Refused → List ℕ
refusal_lines f = reading_line ++ status_line f.number ++ detail_line f.carried ++ place_line f.place

abbrev pub answer_lines : Answer ReadRule → List ℕ
answer_lines (accepts r) = rule_lines r.used r.pieces (map number_of r.operators) (map octet_of r.operators)
answer_lines (declines f) = refusal_lines f

-- "Over 4,097 octets of input prints status 8 with detail 4098, since it stops reading there"
unfoldable pub listed_at : List ℕ → Answer ReadRule
listed_at s = pick (ltb 4097 (length s)) (refuses 8 (4098 ∷ [])) (read_at Ipv4 false s)

-- the listing of an input
abbrev pub listing_of : List ℕ → List ℕ
listing_of s = answer_lines (listed_at s)

-- what is answered with so much room lent: the listing, or NoRoom with "octets needed"
unfoldable pub listed_into : List ℕ → ℕ → Answer (List ℕ)
listed_into s room = pick (ltb room (length (listing_of s))) (refuses 9 (length (listing_of s) ∷ [])) (accepts (listing_of s))

abbrev pub counted_in : Answer (List ℕ) → Answer ℕ
counted_in (accepts xs) = accepts (length xs)
counted_in (declines f) = declines f

-- "A refusal changes no lent octet or place"
abbrev pub octets_in : Answer (List ℕ) → List ℕ
octets_in (accepts xs) = xs
octets_in (declines f) = []
