-- The choices by which the three readings part. Everything else is one walk for all of them, so this table is the list of the places
-- where the Rust and the RFCs part (docs/DIFFERENCES.md goes by it); how a prefix is read, the eighth choice, stands in `prefixes`.
--
--                     plain               IPv4                IPv6
--   bound_of           the input's end     the stated end      the stated end      "bounded by the end of the input, not by the stated end"
--   front_of           0                   0, or 8             0, or 8             "The standard reading is told whether one is expected", "The plain reading knows none"
--   last_type          13                  12                  13                  "1 to 13; in the standard IPv4 reading 1 to 12"
--   codes_in           all four            by the type         by the type         "TCP flags (type 9) take values of one octet or two, DSCP (11) and fragments (12) of one"
--   refused_in         reserved bits       nothing             nothing             "0x08 in numeric, 0x0C in bitmask lists give InvalidOperator"
--   cleared_in         (none are set)      recorded as 0       recorded as 0       "ignored and recorded as 0"
--   first_in           AND kept            recorded as 0       recorded as 0       "So is AND on a list's first operator"
--
-- Document 01, "The plain reading" and "The standard reading"; RFC 8955, 4.2.1.1, 4.2.1.2, 4.2.2.9, 4.2.2.11 and 4.2.2.12.
use Rattle.std.specs.Prelude.{ℕ, ◌+◌, ◌*◌, ◌/◌, ◌%◌, [], ◌∷◌, Bool, false, eqb}
use Rattle.ground.specs.Answers.{Answer, accepts, refuses}
use Rattle.ground.specs.Picks.{pick}
use Rattle.operators.specs.declared.Kind.{Kind}
use Rattle.operators.specs.Ops.{reserved_in, limit_by}
use Rattle.choices.specs.declared.Reading.{Reading}
use Rattle.choices.specs.declared.Reading.TheVariants.{Plain, Ipv4, Ipv6}

abbrev pub bound_of : Reading → ℕ → ℕ → ℕ
bound_of Plain input stated = input
bound_of Ipv4 input stated = stated
bound_of Ipv6 input stated = stated

-- "The standard reading is told whether one is expected": by the number 2
abbrev pub expects : ℕ → Bool
expects mode = eqb mode 2

-- the octets of a distinguisher before the first component, where one is expected: RFC 8955, 8
abbrev pub front_of : Reading → Bool → ℕ
front_of Plain expected = 0
front_of Ipv4 expected = pick expected 8 0
front_of Ipv6 expected = pick expected 8 0

abbrev pub last_type : Reading → ℕ
last_type Plain = 13
last_type Ipv4 = 12
last_type Ipv6 = 13

-- the table of widths by type, as a bound that a list's width codes stay below: codes 0 and 1 for TCP flags, 0 for DSCP and fragments, all four
-- for the others
abbrev pub codes_by : ℕ → ℕ
codes_by type = pick (eqb type 9) 2 (pick (eqb type 11) 1 (pick (eqb type 12) 1 4))

abbrev pub codes_in : Reading → ℕ → ℕ
codes_in Plain type = 4
codes_in Ipv4 type = codes_by type
codes_in Ipv6 type = codes_by type

unfoldable pub refused_in : Reading → Kind → ℕ → Bool
refused_in Plain kind octet = reserved_in kind octet
refused_in Ipv4 kind octet = false
refused_in Ipv6 kind octet = false

-- the octet without 0x40, AND, in the standard readings
abbrev pub first_in : Reading → ℕ → ℕ
first_in Plain octet = octet
first_in Ipv4 octet = octet / 128 * 128 + octet % 64
first_in Ipv6 octet = octet / 128 * 128 + octet % 64

-- the reserved bits as a bound on an octet's low four bits: `Limits` in proofs/ has the law
abbrev pub limit_of : Reading → Kind → ℕ
limit_of Plain kind = limit_by kind
limit_of Ipv4 kind = 16
limit_of Ipv6 kind = 16

-- "The standard reading (family 4 or 6 given)"; "BadFamily (not 4 or 6)"
unfoldable pub standard_of : ℕ → Answer Reading
standard_of family = pick (eqb family 4) (accepts Ipv4) (pick (eqb family 6) (accepts Ipv6) (refuses 11 (family ∷ [])))

-- the family that a rule bears; 0 is a plain rule
abbrev pub family_of : Reading → ℕ
family_of Plain = 0
family_of Ipv4 = 4
family_of Ipv6 = 6
