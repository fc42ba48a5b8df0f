-- The octets of a rule's body by each writing, its distinguisher and then one component after the other: document 01, "Writing" and "Rules of virtual
-- networks"; RFC 8955, 4.2 and 8. What is written of a prefix stands in `prefixwriting`, of a list in `operators`.
use Rattle.std.specs.Prelude.{ℕ, ◌+◌, List, [], ◌∷◌, ◌++◌, None, Some, Option}
use Rattle.octets.specs.Spell.{spelled}
use Rattle.choices.specs.declared.Reading.{Reading}
use Rattle.choices.specs.declared.Reading.TheVariants.{Plain, Ipv4, Ipv6}
use Rattle.operators.specs.Ops.{kind_of, Op, ops_in, list_octets}
use Rattle.rules.specs.declared.NetworkPrefix.{NetworkPrefix}
use Rattle.prefixwriting.specs.Writings.{plain_octets, standard_octets}
use Rattle.stored.specs.declared.Piece.{Piece}
use Rattle.stored.specs.declared.Piece.TheVariants.{Prefix, Operators, NoRecord}
use Rattle.measuring.specs.declared.Lent.{Lent as Borrowed}

-- the lent lists, and the place in them where the rule's operators begin
pub record Lent : Type 0 where
  pub values : List ℕ
  pub octets : List ℕ
  pub first : ℕ

abbrev pub lent : List ℕ → List ℕ → ℕ → Lent
lent values octets first = record { values = values; octets = octets; first = first }

abbrev pub lent_of : Borrowed → Lent
lent_of l = lent l.values.now l.octets.now l.first

abbrev pub ops_of : Lent → ℕ → ℕ → List Op
ops_of l start count = ops_in l.values l.octets (l.first + start) count

-- the table of what the writings write otherwise: prefixes alone
abbrev pub prefix_octets : Reading → NetworkPrefix → List ℕ
prefix_octets Plain p = plain_octets p
prefix_octets Ipv4 p = standard_octets p
prefix_octets Ipv6 p = standard_octets p

-- "the plain writing does not look at it", "The standard writing writes it before the components"
abbrev pub front_in : Reading → Option ℕ → Option ℕ
front_in Plain d = None
front_in Ipv4 d = d
front_in Ipv6 d = d

abbrev pub eight_of : Option ℕ → List ℕ
eight_of None = []
eight_of (Some n) = spelled 8 n

abbrev pub distinguisher_octets : Reading → Option ℕ → List ℕ
distinguisher_octets w d = eight_of (front_in w d)

-- "Each component starts with a type octet."
unfoldable pub piece_octets : Reading → Lent → Piece → List ℕ
piece_octets w l (Prefix t p) = t ∷ prefix_octets w p
piece_octets w l (Operators t start count) = t ∷ list_octets (kind_of t) (ops_of l start count)
piece_octets w l NoRecord = []

-- "in the given order"
unfoldable pub body_octets : Reading → Lent → List Piece → List ℕ
body_octets w l [] = []
body_octets w l (p ∷ ps) = piece_octets w l p ++ body_octets w l ps

abbrev pub whole_octets : Reading → Lent → Option ℕ → List Piece → List ℕ
whole_octets w l d ps = distinguisher_octets w d ++ body_octets w l ps
