-- What `rule_matches` says of a rule by its components, for crates that do not look into its definition; and the prefixes that match every address.
use Prim.Native.Nat.{ℕ}
use mathlib.Core.Path.{◌≡◌, refl}
use mathlib.Core.Bool.{true, ◌&&◌}
use mathlib.Core.List.{List, [], ◌∷◌}
use native.Mathlib.Omega.{arith}
use Rattle.wide.specs.Numbers.{wide}
use Rattle.rules.specs.declared.NetworkPrefix.TheVariants.{Ipv4, Ipv6Offset}
use Rattle.stored.specs.declared.Piece.{Piece}
use Rattle.stored.specs.declared.Piece.TheVariants.{Prefix}
use Rattle.stored.specs.Stored.{Head, stored_rule}
use Rattle.packets.specs.Packets.{Packet}
use Rattle.packets.specs.Shown.{address_of}
use Rattle.satisfying.specs.Lists.{all}
use Rattle.matching.specs.Rules.{prefix_matches, piece_matches, rule_matches}
use Rattle.matching.proofs.Patterns.{no_bits}

-- "`03 01 00 00`: every address"
pub every_address : (h l a : ℕ) → prefix_matches (Ipv6Offset 0 0 h l) a ≡ true
every_address h l a = no_bits 128 0 0 (wide h l) a (omega arith)

pub every_ipv4_address : (x a : ℕ) → prefix_matches (Ipv4 0 x) a ≡ true
every_ipv4_address x a = no_bits 32 0 0 x a (omega arith)

module _ (values octets : List ℕ) (p : Packet) (head : Head) where
  -- "`00`: no components .. It matches every packet."
  pub no_components : rule_matches values octets p (stored_rule [] head) ≡ true
  unfolding rule_matches all
  no_components = refl

  -- "A rule matches if every component does."
  pub one_more : (x : Piece) (xs : List Piece)
      → rule_matches values octets p (stored_rule (x ∷ xs) head) ≡ piece_matches values octets head.first p x && rule_matches values octets p (stored_rule xs head)
  unfolding rule_matches all
  one_more x xs = refl

  -- so a prefix of no bits asks for nothing, whichever address it is about
  pub no_bits_more : (type h l : ℕ) (xs : List Piece)
      → rule_matches values octets p (stored_rule (Prefix type (Ipv6Offset 0 0 h l) ∷ xs) head) ≡ rule_matches values octets p (stored_rule xs head)
  unfolding rule_matches all piece_matches
  no_bits_more type h l xs = rw (every_address h l (address_of p type))
