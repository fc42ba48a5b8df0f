-- What each reading gives: document 01, "The length and the component walk", "The plain reading", "The standard reading", "Rules of virtual
-- networks" and "What comes back"; RFC 8955, 4.1 and 8. `read_at` is what an input is to a reading, by itself; `read_into` what it is with so much room lent. All that an
-- entry point answers and leaves behind is told from that one answer.
use Rattle.std.specs.Prelude.{ℕ, ◌+◌, ◌-◌, Bool, false, List, [], ◌∷◌, length, take, drop, ltb, leb, eqb, None, Some, Option}
use Rattle.ground.specs.Answers.{Answer, accepts, refuses, refuses_at, answer_by, declines}
use Rattle.ground.specs.Picks.{pick}
use Rattle.octets.specs.declared.Length.{Length}
use Rattle.octets.specs.Lengths.{length_at}
use Rattle.octets.specs.Spell.{value_of}
use Rattle.choices.specs.declared.Reading.{Reading}
use Rattle.choices.specs.declared.Reading.TheVariants.{Plain, Ipv4, Ipv6}
use Rattle.choices.specs.Choices.{bound_of, front_of, family_of, standard_of}
use Rattle.operators.specs.Ops.{Op}
use Rattle.stored.specs.declared.Piece.{Piece}
use Rattle.stored.specs.Stored.{head, rule_words}
use Rattle.walk.specs.Walks.{Body, walk_at}
use Rattle.reading.specs.declared.Taken.{Taken}

-- a rule that was read: its pieces and operators, its family (0 is a plain rule), its distinguisher, and the octets that it used
pub record ReadRule : Type 0 where
  pub pieces : List Piece
  pub operators : List Op
  pub family : ℕ
  pub distinguisher : Option ℕ
  pub used : ℕ

abbrev pub read_rule : Body → ℕ → Option ℕ → ℕ → ReadRule
read_rule b family d used = record { pieces = b.pieces; operators = b.operators; family = family; distinguisher = d; used = used }

abbrev pub ruled : ℕ → Option ℕ → ℕ → Answer Body → Answer ReadRule
ruled family d used (accepts b) = accepts (read_rule b family d used)
ruled family d used (declines f) = declines f

-- the octets from a place up to another
abbrev pub part : List ℕ → ℕ → ℕ → List ℕ
part s from to = take (to - from) (drop from s)

-- what so many octets before the first component, none or eight, tell: "eight octets before its first component", high octet first
unfoldable pub front_at : ℕ → List ℕ → ℕ → Option ℕ
front_at front s at = pick (eqb front 0) None (Some (value_of (take 8 (drop at s))))

-- the components behind so many octets: "The component walk sees only the octets between the length and the stated end", in the plain reading those
-- up to "the end of the input", and none of the distinguisher: its places are counted from there on. "Used" is "1 or 2 plus the length"
abbrev pub components_at : Reading → ℕ → List ℕ → ℕ → ℕ → Answer ReadRule
components_at reading front s start size =
    ruled (family_of reading) (front_at front s start) (start + size)
    (answer_by (start + front) (walk_at reading (part s (start + front) (bound_of reading (length s) (start + size))) (size - front)))

-- after the length: "a stated end past the input is 1, before the walk"; "A body of fewer than eight octets is then ShortDistinguisher, after the
-- stated length is found to fit and before the first type", at the stated end
unfoldable pub stated_at : Reading → Bool → List ℕ → ℕ → ℕ → Answer ReadRule
stated_at reading expected s start size =
    pick (ltb (length s) (start + size)) (refuses_at 1 [] (length s))
    (pick (ltb size (front_of reading expected)) (refuses_at 19 [] (start + size))
    (components_at reading (front_of reading expected) s start size))

abbrev pub after_length : Reading → Bool → List ℕ → Answer Length → Answer ReadRule
after_length reading expected s (accepts l) = stated_at reading expected s l.next.at l.size
after_length reading expected s (declines f) = declines f

-- the plain reading: "Input: at most 4,097 octets"
abbrev pub too_long : Reading → ℕ → Bool
too_long Plain n = ltb 4097 n
too_long Ipv4 n = false
too_long Ipv6 n = false

-- "Reading order: 8 or 11, then the walk's first fault"
unfoldable pub read_at : Reading → Bool → List ℕ → Answer ReadRule
read_at reading expected s = pick (too_long reading (length s)) (refuses 8 (length s ∷ [])) (after_length reading expected s (length_at s 0))

-- "unequal lists count as the shorter"
abbrev pub shorter : ℕ → ℕ → ℕ
shorter m n = pick (leb m n) m n

-- "then NoRoom, given exactly when all else is accepted and places are too few": a rule takes one place of 64 words, and an operator one of
-- the lists. It carries the rule places, or the operator places, that the rule needs
abbrev pub roomed : Answer ReadRule → ℕ → ℕ → ℕ → Answer ReadRule
roomed (declines f) words values octets = declines f
roomed (accepts r) words values octets =
    pick (ltb words 64) (refuses 9 (1 ∷ []))
    (pick (ltb (shorter values octets) (length r.operators)) (refuses 9 (length r.operators ∷ [])) (accepts r))

unfoldable pub read_into : Reading → Bool → List ℕ → ℕ → ℕ → ℕ → Answer ReadRule
read_into reading expected s words values octets = roomed (read_at reading expected s) words values octets

abbrev pub by_reading : Answer Reading → Bool → List ℕ → ℕ → ℕ → ℕ → Answer ReadRule
by_reading (accepts reading) expected s words values octets = read_into reading expected s words values octets
by_reading (declines f) expected s words values octets = declines f

unfoldable pub standard_into : ℕ → Bool → List ℕ → ℕ → ℕ → ℕ → Answer ReadRule
standard_into family expected s words values octets = by_reading (standard_of family) expected s words values octets

-- what is answered: the octets used and the operators
abbrev pub taken : ℕ → ℕ → Taken
taken used operators = record { used = used; operators = operators }

abbrev pub taken_of : Answer ReadRule → Answer Taken
taken_of (accepts r) = accepts (taken r.used (length r.operators))
taken_of (declines f) = declines f

-- what is written, "A refusal changes no lent octet or place": the rule's 64 words, and the operators
abbrev pub words_of : Answer ReadRule → List ℕ
words_of (accepts r) = rule_words r.pieces (head r.family 0 r.distinguisher)
words_of (declines f) = []

abbrev pub operators_of : Answer ReadRule → List Op
operators_of (accepts r) = r.operators
operators_of (declines f) = []
