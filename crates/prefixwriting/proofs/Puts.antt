-- How many octets a prefix's writing stores, which prefixes it takes, and the octets of a number in halves.
use mathlib.Core.Path.{◌≡◌, refl, sym, ap, ◌∙◌}
use mathlib.Core.Bool.{true, ◌&&◌}
use Prim.Native.Nat.{ℕ, ◌+◌, ◌-◌, ◌*◌, ◌/◌, ◌%◌, ◌^◌, ◌≤◌}
use native.Mathlib.Omega.{arith}
use lib.Dec.{eqb, leb}
use lib.ListN.{length}
use lib.Pow.{split}
use Rattle.ground.proofs.Cases.{both}
use Rattle.wide.specs.Numbers.{wide}
use Rattle.octets.specs.Spell.{spelled}
use Rattle.octets.proofs.Spells.{spelled_above, length_spelled}
use Rattle.rules.specs.declared.NetworkPrefix.{NetworkPrefix}
use Rattle.rules.specs.declared.NetworkPrefix.TheVariants.{Ipv4, Ipv6, Ipv4Offset, Ipv6Offset}
use Rattle.prefixes.specs.Prefixes.{octets_of, offset_fits}
use Rattle.prefixes.specs.Forms.{clean, valid_in}
use Rattle.prefixwriting.specs.Writings.{plain_octets, octets_in_plain, standard_octets, octets_in_standard, standard_range}

-- as many octets as are counted
pub length_plain : (p : NetworkPrefix) → length (plain_octets p) ≡ octets_in_plain p
length_plain (Ipv4 len a) = omega (arith, length_spelled (octets_of len) (a / 2 ^ (32 - 8 * octets_of len)))
length_plain (Ipv6 len h l) = omega (arith, length_spelled (octets_of len) (wide h l / 2 ^ (128 - 8 * octets_of len)))
length_plain (Ipv4Offset len off a) = refl
length_plain (Ipv6Offset len off h l) = omega (arith, length_spelled (octets_of len) (wide h l / 2 ^ (128 - 8 * octets_of len)))

pub length_standard : (p : NetworkPrefix) → length (standard_octets p) ≡ octets_in_standard p
length_standard (Ipv4 len a) = omega (arith, length_spelled (octets_of len) (a / 2 ^ (32 - 8 * octets_of len)))
length_standard (Ipv6 len h l) = refl
length_standard (Ipv4Offset len off a) = refl
length_standard (Ipv6Offset len off h l) =
    omega (arith, length_spelled (octets_of (len - off)) (wide h l / 2 ^ (128 - len) * 2 ^ (8 * octets_of (len - off) - (len - off))))

-- what is valid in a family is of a form and range that the standard writing takes
pub valid_ranged : (family : ℕ) (p : NetworkPrefix) → valid_in family p ≡ true → standard_range p ≡ true
valid_ranged family (Ipv4 len a) e = (both (leb len 32) (clean 32 len 0 a) (both (eqb family 4) (leb len 32 && clean 32 len 0 a) e).1).0
valid_ranged family (Ipv6Offset len off h l) e =
    (both (offset_fits len off) (clean 128 len off (wide h l)) (both (eqb family 6) (offset_fits len off && clean 128 len off (wide h l)) e).1).0
valid_ranged family (Ipv6 len h l) e = e
valid_ranged family (Ipv4Offset len off a) e = e

-- a cut at 128 digits does not show in 16 octets
pub spelled_128 : (k v : ℕ) → k ≤ 16 → spelled k (v % 2 ^ 128) ≡ spelled k v
spelled_128 k v p =
    let e : 8 * (k + (16 - k)) ≡ 128 = omega arith in
    sym (spelled_above k (16 - k) (v / 2 ^ 128) (v % 2 ^ 128))
    ∙ ap (λ (j : ℕ). spelled k (v / 2 ^ 128 * 2 ^ j + v % 2 ^ 128)) e
    ∙ ap (λ (n : ℕ). spelled k n) (split v 128)
