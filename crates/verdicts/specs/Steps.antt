-- What the functions within promise each other: what one component tells of a rule, as the walk over its words takes it. No promise of an entry point
-- rests on these but through `Verdicts`.
use Rattle.std.specs.Prelude.{ℕ, Bool, ◌&&◌, eqb}
use Rattle.std.specs.declared.option.Option.{Option}
use Rattle.std.specs.declared.option.Option.TheVariants.{Some, None}
use Rattle.ground.specs.Picks.{pick}
use Rattle.choices.specs.declared.Reading.{Reading}
use Rattle.rules.specs.declared.NetworkPrefix.{NetworkPrefix}
use Rattle.stored.specs.declared.Piece.{Piece}
use Rattle.stored.specs.declared.Piece.TheVariants.{Prefix, Operators, NoRecord}
use Rattle.stored.specs.Pieces.{type_of}
use Rattle.packets.specs.Packets.{Packet}
use Rattle.packets.specs.Shown.{address_of}
use Rattle.matching.specs.Rules.{prefix_matches, piece_matches}
use Rattle.measuring.specs.Bodies.{Lent}
use Rattle.measuring.specs.Grounds.{operators_in}
use Rattle.measuring.specs.Weights.{weight_of, prefix_weight}
use Rattle.verdicts.specs.declared.Step.{Step}

-- so many octets, a type, so many operators, and whether it is met: a component of no octets is not taken
abbrev pub step_in : ℕ → ℕ → ℕ → Bool → Option Step
step_in n type count met = pick (eqb n 0) None (Some (record { octets = n; tag = type; operators = count; met = met }))

-- a component with so many operators left and after a type, all before it being met or not
unfoldable pub step_of : Reading → Lent → ℕ → ℕ → Packet → Bool → Piece → Option Step
step_of w l left previous p met x =
    step_in (weight_of w l left previous x) (type_of x) (operators_in x) (met && piece_matches l.values l.octets l.first p x)

-- a prefix: no lent list and no count of operators bears on it
unfoldable pub prefix_step : Reading → ℕ → Packet → Bool → ℕ → NetworkPrefix → Option Step
prefix_step w previous p met type x = step_in (prefix_weight w previous type x) type 0 (met && prefix_matches x (address_of p type))

-- what is no list
abbrev pub other_step : Reading → ℕ → Packet → Bool → Piece → Option Step
other_step w previous p met (Prefix type x) = prefix_step w previous p met type x
other_step w previous p met (Operators type start count) = None
other_step w previous p met NoRecord = None
