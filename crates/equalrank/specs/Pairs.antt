-- Two rules as they are lent: what ranking and the standard writing answer of them, and where they differ first. Document 01, "Matching and ranking".
use Rattle.std.specs.Prelude.{ℕ, ◌≤◌, ◌≡◌, true, List, [], ◌∷◌, length, Option}
use Rattle.ground.specs.Answers.{Answer, accepts}
use Rattle.choices.specs.declared.Reading.{Reading}
use Rattle.reading.specs.Readings.{ReadRule}
use Rattle.stored.specs.declared.Piece.{Piece}
use Rattle.stored.specs.declared.Piece.TheVariants.{Prefix, Operators, NoRecord}
use Rattle.stored.specs.Distinguishers.{distinguisher_at}
use Rattle.stored.specs.Stored.{family_at, first_at, stored_at}
use Rattle.measuring.specs.Bodies.{Lent, lent, piece_octets}
use Rattle.writing.specs.Writings.{body_in, written_in}
use Rattle.ranking.specs.Ranks.{Ordering, Precedes, Follows, front_of, rank_of}
use Rattle.verdicts.specs.Verdicts.{well_formed, rank_verdict}

-- a rule as a caller lends it: its words, and the two lists with its operators
pub record Lending : Type 0 where
  pub words : List ℕ
  pub values : List ℕ
  pub octets : List ℕ

-- its components, its operators and its distinguisher
abbrev pub pieces_of : Lending → List Piece
pieces_of a = (stored_at a.words 0).pieces

abbrev pub lent_of : Lending → Lent
lent_of a = lent a.values a.octets (first_at a.words 0)

abbrev pub distinguisher_of : Lending → Option ℕ
distinguisher_of a = distinguisher_at a.words 0

-- what `verdicts::rank` and `krubbadin_rank` answer of two, and the order of the rules that stand in their words
abbrev pub ranked_as : Lending → Lending → Answer Ordering
ranked_as a b = rank_verdict a.words a.values a.octets b.words b.values b.octets

abbrev pub rank_by : Lending → Lending → Ordering
rank_by a b = rank_of a.values a.octets (stored_at a.words 0) b.values b.octets (stored_at b.words 0)

-- what `writing::write` and `krubbadin_write` answer and put, told the rule's own family, in so much room; and the body of it, which follows the length
abbrev pub written_as : Lending → ℕ → Answer (List ℕ)
written_as a room = written_in (family_at a.words 0) a.words a.values a.octets room

abbrev pub body_as : Lending → Answer (List ℕ)
body_as a = body_in (family_at a.words 0) a.words a.values a.octets

abbrev pub IsFormed : Lending → Type 0
IsFormed a = well_formed a.words a.values a.octets 0 ≡ true

-- "any two well-formed rules of one family and one distinguisher"
pub record Comparable (a b : Lending) : Type 0 where
  pub formed : IsFormed a
  pub formed2 : IsFormed b
  pub of_family : family_at a.words 0 ≡ family_at b.words 0
  pub of_one : distinguisher_of a ≡ distinguisher_of b

-- "the standard writing, with room, gives" these octets; 4,097 is room for any
pub record Gives (a : Lending) : Type 0 where
  pub out : List ℕ
  pub most : length out ≤ 4097
  pub in_room : (room : ℕ) → length out ≤ room → written_as a room ≡ accepts out

-- two that do not rank equal: one precedes, and the other is preceded
pub data OnePrecedes (a b : Lending) : Type 0 where
  first : ranked_as a b ≡ accepts Precedes → ranked_as b a ≡ accepts Follows → OnePrecedes a b
  second : ranked_as a b ≡ accepts Follows → ranked_as b a ≡ accepts Precedes → OnePrecedes a b

-- what two readings gave is "the same rule": the same components with the same operators
abbrev pub SameRule : ReadRule → ReadRule → Type 0
SameRule r s = (r.pieces ≡ s.pieces) × (r.operators ≡ s.operators)

-- ---- where two rules differ first

-- "not a prefix in both, or .. one of equal length (and offset) in both". Less is asked: of two types the type octets tell, and of two offsets the octets that
-- follow those of equal lengths
abbrev pub AlikeLong : Piece → Piece → Type 0
AlikeLong (Prefix t p) (Prefix u q) = t ≡ u → (front_of p).length ≡ (front_of q).length
AlikeLong (Prefix t p) (Operators u start n) = Unit {0}
AlikeLong (Prefix t p) NoRecord = Unit {0}
AlikeLong (Operators t start n) q = Unit {0}
AlikeLong NoRecord q = Unit {0}

-- "the first component in which two rules differ" is so, or one rule has ended before it; a component is what its octets are in the rule's own writing
pub data DifferByOctets (x y : Piece → List ℕ) : List Piece → List Piece → Type 0 where
  first_ended : {q : Piece} {qs : List Piece} → DifferByOctets x y [] (q ∷ qs)
  second_ended : {p : Piece} {ps : List Piece} → DifferByOctets x y (p ∷ ps) []
  here : {p q : Piece} {ps qs : List Piece} → (x p ≡ y q → ⊥) → AlikeLong p q → DifferByOctets x y (p ∷ ps) (q ∷ qs)
  later : {p q : Piece} {ps qs : List Piece} → x p ≡ y q → DifferByOctets x y ps qs → DifferByOctets x y (p ∷ ps) (q ∷ qs)

abbrev pub ByOctets : Reading → Lending → Lending → Type 0
ByOctets w a b = DifferByOctets (piece_octets w (lent_of a)) (piece_octets w (lent_of b)) (pieces_of a) (pieces_of b)
