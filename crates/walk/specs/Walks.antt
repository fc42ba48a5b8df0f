-- One component at a place of a body, and the walk over all of them: document 01, "The length and the component walk"; RFC 8955, 4.2. Every
-- reading walks so. They part in the choices (`last_type`, and what `list_at` and `recorded_ops` take from them) and in how a prefix is read.
use Rattle.std.specs.Prelude.{ℕ, zero, suc, ◌+◌, List, [], ◌∷◌, ◌++◌, length, get_or, ltb, leb}
use Rattle.ground.specs.Answers.{Answer, accepts, refuses_at, declines}
use Rattle.ground.specs.Picks.{pick}
use Rattle.choices.specs.declared.Reading.{Reading}
use Rattle.choices.specs.Choices.{last_type}
use Rattle.operators.specs.Ops.{Op}
use Rattle.stored.specs.declared.Piece.{Piece}
use Rattle.stored.specs.declared.Piece.TheVariants.{Prefix, Operators}
use Rattle.prefixes.specs.declared.PrefixAt.{PrefixAt}
use Rattle.prefixes.specs.Prefixes.{prefix_at}
use Rattle.lists.specs.declared.Tally.{Tally}
use Rattle.lists.specs.Lists.{tally, list_at, ops_at, recorded_ops}

-- what is found of a component: its piece, the operators that are recorded of it, and the place after it
pub record FoundAt : Type 0 where
  pub piece : Piece
  pub operators : List Op
  pub next : ℕ

abbrev pub found_at : Piece → List Op → ℕ → FoundAt
found_at p os next = record { piece = p; operators = os; next = next }

abbrev pub prefix_found : ℕ → Answer PrefixAt → Answer FoundAt
prefix_found type (accepts p) = accepts (found_at (Prefix type p.prefix) [] p.next.at)
prefix_found type (declines f) = declines f

-- a list's operators go to the places from `start` on
abbrev pub list_found : ℕ → ℕ → List Op → Answer Tally → Answer FoundAt
list_found type start os (accepts l) = accepts (found_at (Operators type start l.count) os l.next.at)
list_found type start os (declines f) = declines f

-- "Types 1 and 2 are prefixes, 9 and 12 bitmask lists, the others numeric lists": what follows a type octet
unfoldable pub typed_at : Reading → ℕ → List ℕ → ℕ → ℕ → Answer FoundAt
typed_at reading type s at start =
    pick (leb type 2) (prefix_found type (prefix_at reading s at))
    (list_found type start (recorded_ops reading type (ops_at s at)) (list_at reading type s at))

-- "Each component starts with a type octet. Checks: the type must exceed the previous one (0 at first), then it must be known (1 to 13; in
-- the standard IPv4 reading 1 to 12)"; "any octet missing before its bound" is 1. Order and type are refused at the type octet
unfoldable pub component_at : Reading → List ℕ → ℕ → ℕ → ℕ → Answer FoundAt
component_at reading s at previous start =
    pick (leb (length s) at) (refuses_at 1 [] (length s))
    (pick (leb (get_or s at 0) previous) (refuses_at 2 (previous ∷ get_or s at 0 ∷ []) at)
    (pick (ltb (last_type reading) (get_or s at 0)) (refuses_at 3 (get_or s at 0 ∷ []) at) (typed_at reading (get_or s at 0) s (at + 1) start)))

-- the pieces of a body, and their operators one after the other
pub record Body : Type 0 where
  pub pieces : List Piece
  pub operators : List Op

abbrev pub body : List Piece → List Op → Body
body ps os = record { pieces = ps; operators = os }

abbrev pub joined : FoundAt → Answer Body → Answer Body
joined p (accepts b) = accepts (body (p.piece ∷ b.pieces) (p.operators ++ b.operators))
joined p (declines f) = declines f

-- what follows from a component, of which the type is given and the operators start at a place
abbrev pub turn : ℕ → ℕ → Answer FoundAt → (ℕ → ℕ → ℕ → Answer Body) → Answer Body
turn type start (accepts p) go = joined p (go p.next type (start + length p.operators))
turn type start (declines f) go = declines f

-- from a place on: components start before `stop`, "a last component may overrun it" where the octets go on. The first number bounds the
-- components: their types rise from 1 to 13
unfoldable pub walk_from : ℕ → Reading → List ℕ → ℕ → ℕ → ℕ → ℕ → Answer Body
walk_from zero reading s stop at previous start = refuses_at 1 [] (length s)
walk_from (suc k) reading s stop at previous start =
    pick (leb stop at) (accepts (body [] [])) (turn (get_or s at 0) start (component_at reading s at previous start) (walk_from k reading s stop))

unfoldable pub walk_at : Reading → List ℕ → ℕ → Answer Body
walk_at reading s stop = walk_from 14 reading s stop 0 0 0

-- what the first walk sees of a component: how many operators it has, and the place after it
abbrev pub seen : Answer FoundAt → Answer Tally
seen (accepts p) = accepts (tally (length p.operators) p.next)
seen (declines f) = declines f

-- and of all of them: how many operators they have
abbrev pub counted : Answer Body → Answer ℕ
counted (accepts b) = accepts (length b.operators)
counted (declines f) = declines f
