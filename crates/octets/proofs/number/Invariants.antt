-- `octets::number` meets its contract. The invariant: the whole number is what the octets from a place on spell after v, and v is below 2 ^ (8 * place).
use Prim.Native.Nat.{◌*◌, ◌^◌, ◌≤◌, ◌<◌}
use mathlib.Core.Path.{◌≡◌}
use lib.ListN.{length, drop}
use Rattle.octets.specs.Spell.{spell}
use Rattle.octets.proofs.number.Given as goal

abbrev pub invariant-loop-octet : goal.invariant-loop-octet
invariant-loop-octet l = (l.octet-index ≤ length l.s) × (l.v < 2 ^ (8 * l.octet-index)) × (spell 0 l.s ≡ spell l.v (drop l.octet-index l.s))
