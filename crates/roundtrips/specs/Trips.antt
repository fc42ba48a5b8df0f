-- What a round trip is. A lent rule may name the places of its operators in any order, and reserved bits in their octets are written 0; a
-- reading counts places from 0 on, one component after the other. So what comes back of a written rule is its canonical form: the same
-- components with the same operators, counted so, reserved bits 0. What comes back of a rule that was read is that rule (`Again`).
use Rattle.std.specs.Prelude.{ℕ, ◌+◌, ◌^◌, ◌≤◌, ◌<◌, ◌≡◌, Bool, true, false, List, [], ◌∷◌, ◌++◌, map, length, get_or, None, Some, Option}
use Rattle.ground.specs.Answers.{Answer, accepts}
use Rattle.operators.specs.Ops.{kind_of, Op}
use Rattle.stored.specs.declared.Piece.{Piece}
use Rattle.stored.specs.declared.Piece.TheVariants.{Prefix, Operators, NoRecord}
use Rattle.stored.specs.Pieces.{type_of}
use Rattle.stored.specs.Stored.{StoredRule}
use Rattle.lists.specs.Lists.{cleared_op}
use Rattle.measuring.specs.Bodies.{Lent, lent, ops_of}
use Rattle.measuring.specs.Grounds.{operators_in}
use Rattle.walk.specs.Walks.{Body, body}
use Rattle.reading.specs.Readings.{ReadRule, read_rule}

-- the same component, its operators from a place on
abbrev pub placed_at : ℕ → Piece → Piece
placed_at start (Prefix t p) = Prefix t p
placed_at start (Operators t from count) = Operators t start count
placed_at start NoRecord = NoRecord

-- the same components, each one's operators after those of the one before
unfoldable pub placed : ℕ → List Piece → List Piece
placed start [] = []
placed start (p ∷ ps) = placed_at start p ∷ placed (start + operators_in p) ps

-- the operators of a component as they stand in the lent lists, and of all components one after the other
abbrev pub named_by : Lent → Piece → List Op
named_by l (Prefix t p) = []
named_by l (Operators t start count) = ops_of l start count
named_by l NoRecord = []

unfoldable pub named : Lent → List Piece → List Op
named l [] = []
named l (p ∷ ps) = named_by l p ++ named l ps

-- and with reserved bits 0: "Reserved operator bits are written 0"
abbrev pub cleared_by : Lent → Piece → List Op
cleared_by l p = map (cleared_op (kind_of (type_of p))) (named_by l p)

unfoldable pub cleared : Lent → List Piece → List Op
cleared l [] = []
cleared l (p ∷ ps) = cleared_by l p ++ cleared l ps

abbrev pub canonical : StoredRule → List ℕ → List ℕ → Body
canonical s values octets =
    body (placed 0 s.pieces) (cleared (lent values octets s.head.first) s.pieces)

-- a rule that counts its places so, with no reserved bit set, as every reading leaves it
pub record Canonical (s : StoredRule) (values octets : List ℕ) : Type 0 where
  pub counted : placed 0 s.pieces ≡ s.pieces
  pub clear : cleared (lent values octets s.head.first) s.pieces ≡ named (lent values octets s.head.first) s.pieces

-- a reading of what was written of a rule is told whether the rule has a distinguisher
abbrev pub expected : Option ℕ → Bool
expected None = false
expected (Some n) = true

-- what every lent word is
abbrev pub Words : List ℕ → Type 0
Words ws = (i : ℕ) → get_or ws i 0 < 2 ^ 64

-- places for a rule that is read: 64 words, and for each operator one of both lists
pub record Room (rule : ReadRule) (words values octets : ℕ) : Type 0 where
  pub for_rule : 64 ≤ words
  pub in_values : length rule.operators ≤ values
  pub in_octets : length rule.operators ≤ octets

-- a rule that was read, written again in no more octets wherever they have room; read again, with anything after them, they give the same rule
pub record Again (write : ℕ → Answer (List ℕ)) (read : List ℕ → Answer ReadRule) (rule : ReadRule) : Type 0 where
  pub out : List ℕ
  pub no_longer : length out ≤ rule.used
  pub written : (room : ℕ) → length out ≤ room → write room ≡ accepts out
  pub back : (ys : List ℕ) → read (out ++ ys) ≡ accepts (read_rule (body rule.pieces rule.operators) rule.family rule.distinguisher (length out))
