-- What a mask finds in TCP flags, which are header octets 13 and 14 with the data offset taken as 0 (RFC 8955, 4.2.2.9): a mask counts whole
-- (`by_mask`), and each of its two octets meets one of the header's (`by_octets`). So a mask of one octet meets octet 14 alone, whatever octet 13
-- holds (`one_octet`, of a whole list `one_octet_list`), and bits above the twelve meet 0: before NOT, a mask with one is false where match is
-- set (`above_all`), and where it is unset they do nothing (`above_some`).
use Prim.Native.Nat.{ℕ, ◌+◌, ◌*◌, ◌%◌, ◌^◌, ◌<◌}
use mathlib.Core.Path.{◌≡◌, sym, ap, ◌∙◌}
use mathlib.Core.Bool.{true, false, not}
use mathlib.Core.List.{List}
use native.Mathlib.Nat.{mod-eq_of_lt}
use native.Mathlib.Omega.{arith}
use lib.Bits.{bit_and, and_mask, and_mod, and_block, and_le_l, and_zero_r}
use lib.Dec.{ltb}
use borrow.Author.Tests.{ne_eqb, ltb-true}
use Rattle.ground.specs.Picks.{pick}
use Rattle.operators.specs.Ops.{kind_of, Op, op}
use Rattle.packets.specs.Packets.{Packet, present, most_flags, header_flags, packet_ok}
use Rattle.packets.proofs.Laws.{flags_fit}
use Rattle.satisfying.specs.Lists.{bit0x02, bit0x01, met, masked, truth_of, all, list_matches}
use Rattle.satisfying.proofs.Groups.{agrees}
use Rattle.matching.specs.Rules.{test_of}

-- no bit of a mask is cut off
pub by_mask : (family n octet value : ℕ) → value < 2 ^ 64
    → truth_of (test_of family 9) n (op octet value) ≡ pick (bit0x02 octet) (not (met octet value n)) (met octet value n)
unfolding kind_of masked
by_mask family n octet value h = ap (λ (v : ℕ). pick (bit0x02 octet) (not (met octet v n)) (met octet v n)) (and_mask value 64 ∙ mod-eq_of_lt h)

-- the flags of a packet in range
module _ (p : Packet) (ok : packet_ok p ≡ true) (n : ℕ) (has : p.flags ≡ present n) (octet value : ℕ) where
  pub above_all : most_flags < value → bit0x01 octet ≡ true → met octet value n ≡ false
  above_all h e = rw (e, ne_eqb (bit_and n value) value (λ z. omega (arith, z, and_le_l n value, flags_fit p n ok has)))

  twelve : bit_and n value ≡ bit_and n (value % 2 ^ 12)
  twelve =
      let low : n < 2 ^ 12 = omega (arith, flags_fit p n ok has) in
      let few : bit_and n value < 2 ^ 12 = omega (arith, low, and_le_l n value) in
      sym (mod-eq_of_lt few) ∙ and_mod n value 12 ∙ ap (λ (m : ℕ). bit_and m (value % 2 ^ 12)) (mod-eq_of_lt low)

  pub above_some : bit0x01 octet ≡ false → met octet value n ≡ met octet (value % 2 ^ 12) n
  above_some e = rw (e, twelve)

-- a mask of the octets h and l on header octets a and b
pub by_octets : (a b h l : ℕ) → b < 256 → l < 256 → bit_and (header_flags a b) (h * 256 + l) ≡ bit_and (a % 16) h * 256 + bit_and b l
by_octets a b h l = and_block 8 (a % 16) h b l

module _ (family a b : ℕ) (is-octet : b < 256) where
  alone : (v : ℕ) → v < 256 → bit_and (header_flags a b) v ≡ bit_and b v
  alone v h =
      let e : 0 * 256 + v ≡ v = omega arith in
      ap (bit_and (header_flags a b)) (sym e) ∙ by_octets a b 0 v is-octet h ∙ omega (arith, and_zero_r (a % 16))

  pub one_octet : (o : Op) → o.value < 256 → truth_of (test_of family 9) (header_flags a b) o ≡ truth_of (test_of family 9) b o
  unfolding kind_of masked
  one_octet o h = rw (and_mask o.value 64, alone (o.value % 2 ^ 64) (omega arith))

  pub one_octet_list : (os : List Op) → all (λ o. ltb o.value 256) os ≡ true
      → list_matches (truth_of (test_of family 9) (header_flags a b)) os ≡ list_matches (truth_of (test_of family 9) b) os
  one_octet_list = agrees _ _ _ (λ o e. one_octet o (ltb-true _ _ e))
