-- An operator of a list: its octet with its value. Where operators stand in the lent lists, and the octets that write them: document 01,
-- "Writing"; RFC 8955, 4.2.1.1 and 4.2.1.2.
use Rattle.std.specs.Prelude.{ℕ, zero, suc, ◌+◌, ◌*◌, ◌/◌, ◌%◌, List, [], ◌∷◌, ◌++◌, Bool, not, get_or, eqb}
use Rattle.octets.specs.Spell.{spelled}
use Rattle.octets.specs.Widths.{width_of}
use Rattle.ground.specs.Picks.{pick}
use Rattle.operators.specs.declared.Kind.{Kind}
use Rattle.operators.specs.declared.Kind.TheVariants.{Numeric, Bitmask}

-- "Types 1 and 2 are prefixes, 9 and 12 bitmask lists, the others numeric lists"
unfoldable pub kind_of : ℕ → Kind
kind_of type = pick (eqb type 9) Bitmask (pick (eqb type 12) Bitmask Numeric)

-- whether a reserved bit is set: 0x08 of a numeric operator, 0x0C of a bitmask operator
abbrev pub reserved_in : Kind → ℕ → Bool
reserved_in Numeric octet = eqb (octet / 8 % 2) 1
reserved_in Bitmask octet = not (eqb (octet / 4 % 4) 0)

-- the octet with its reserved bits 0
abbrev pub cleared_in : Kind → ℕ → ℕ
cleared_in Numeric octet = octet / 16 * 16 + octet % 8
cleared_in Bitmask octet = octet / 16 * 16 + octet % 4

-- the reserved bits as a bound on an octet's low four bits: `Limits` in `choices` has the law
abbrev pub limit_by : Kind → ℕ
limit_by Numeric = 8
limit_by Bitmask = 4

pub record Op : Type 0 where
  pub octet : ℕ
  pub value : ℕ

abbrev pub op : ℕ → ℕ → Op
op x v = record { octet = x; value = v }

abbrev pub octet_of : Op → ℕ
octet_of o = o.octet

abbrev pub number_of : Op → ℕ
number_of o = o.value

-- the operators at n places of the lent lists, from a place on
unfoldable pub ops_in : List ℕ → List ℕ → ℕ → ℕ → List Op
ops_in values octets at zero = []
ops_in values octets at (suc n) = op (get_or octets at 0) (get_or values at 0) ∷ ops_in values octets (at + 1) n

-- "Reserved operator bits are written 0"; "a value is cut to its width"
abbrev pub op_octets : Kind → Op → List ℕ
op_octets kind o = cleared_in kind o.octet ∷ spelled (width_of o.octet) o.value

unfoldable pub list_octets : Kind → List Op → List ℕ
list_octets kind [] = []
list_octets kind (o ∷ os) = op_octets kind o ++ list_octets kind os
