-- What the functions within promise each other: what one piece adds to a body, 0 where the writing does not take it. A piece that is taken adds its
-- type octet at least. No public promise rests on this but through `Grounds`.
use Rattle.std.specs.Prelude.{ℕ, ◌+◌, Bool, ◌&&◌, length, leb, None, Some, Option}
use Rattle.ground.specs.Picks.{pick}
use Rattle.choices.specs.declared.Reading.{Reading}
use Rattle.rules.specs.declared.NetworkPrefix.{NetworkPrefix}
use Rattle.stored.specs.declared.Piece.{Piece}
use Rattle.stored.specs.declared.Piece.TheVariants.{Prefix, Operators, NoRecord}
use Rattle.stored.specs.Pieces.{type_of}
use Rattle.listwriting.specs.Lists.{size_in, takes_in}
use Rattle.measuring.specs.declared.Weight.{Weight}
use Rattle.measuring.specs.Bodies.{Lent, ops_of, prefix_octets, piece_octets}
use Rattle.measuring.specs.Grounds.{operators_in, inside_of, prefix_taken, piece_taken, rises_in}

-- the tests of one piece, with so many operators left and after a type
unfoldable pub fits_after : Reading → Lent → ℕ → ℕ → Piece → Bool
fits_after w l left previous p = leb (operators_in p) left && (piece_taken w l p && rises_in w previous (type_of p))

unfoldable pub weight_of : Reading → Lent → ℕ → ℕ → Piece → ℕ
weight_of w l left previous p = pick (fits_after w l left previous p) (length (piece_octets w l p)) 0

-- a prefix: no lent list and no count of operators bears on it
unfoldable pub prefix_weight : Reading → ℕ → ℕ → NetworkPrefix → ℕ
prefix_weight w previous t p = pick (prefix_taken w p && rises_in w previous t) (1 + length (prefix_octets w p)) 0

-- a list, by the writing, where its type may stand and enough operators are left
unfoldable pub plain_weight : Lent → ℕ → ℕ → ℕ
plain_weight l start count = pick (inside_of l start count) (1 + size_in l.octets (l.first + start) count) 0

-- in the standard writing what it adds where it is taken
unfoldable pub standard_weight : ℕ → Lent → ℕ → ℕ → Option ℕ
standard_weight type l start count =
    pick (inside_of l start count && takes_in type (ops_of l start count)) (Some (1 + size_in l.octets (l.first + start) count)) None

-- what is no list
abbrev pub other_weight : Reading → ℕ → Piece → ℕ
other_weight w previous (Prefix t p) = prefix_weight w previous t p
other_weight w previous (Operators t start count) = 0
other_weight w previous NoRecord = 0

-- a weight with what the next piece is tested by
abbrev pub weighing : ℕ → Piece → Weight
weighing n p = record { octets = n; tag = type_of p; operators = operators_in p }
