-- What the standard writing wrote, the standard reading of that family reads back as the same prefix, wherever it stands: the octets spell
-- the number that was cut from the address, and a valid address has nothing else.
use mathlib.Core.Path.{◌≡◌, refl, sym, ap, ap₂, ◌∙◌, subst}
use mathlib.Core.List.{List, ◌∷◌, ◌++◌}
use mathlib.Core.Bool.{true, false}
use Prim.Native.Nat.{ℕ, suc, ◌+◌, ◌-◌, ◌*◌, ◌/◌, ◌^◌, ◌≤◌, ◌<◌}
use native.Mathlib.Nat.{mod-eq_of_lt, lt-div-mul-add}
use native.Mathlib.Omega.{arith}
use borrow.Author.Tests.{leb-true, eqb-true, le-leb}
use lib.Dec.{eqb, leb}
use lib.ListN.{length, get_or, take, drop, length-append}
use lib.Pow.{pow_pos, shr-shr, shl-shr, shr_lt, shl_lt, high, low}
use lib.Seq.{get_or-append_seam, get_or-append-add, drop-append-add, take_at}
use Rattle.ground.proofs.Cases.{both}
use Rattle.ground.specs.Answers.{accepts}
use Rattle.ground.proofs.Powers.{up_down}
use Rattle.choices.specs.declared.Reading.TheVariants.{Ipv4, Ipv6}
use Rattle.wide.specs.Numbers.{wide}
use Rattle.octets.specs.Addresses.{first_bits}
use Rattle.octets.specs.Spell.{value_of, spelled}
use Rattle.octets.proofs.Spells.{length_spelled, value_spelled}
use Rattle.rules.specs.declared.NetworkPrefix.{NetworkPrefix}
use Rattle.rules.specs.declared.NetworkPrefix.TheVariants.{Ipv4 as V4, Ipv6 as V6, Ipv4Offset as V4Offset, Ipv6Offset as V6Offset}
use Rattle.prefixes.specs.Prefixes.{octets_of, offset_fits, front_address, offset_address, ipv6_offset, whole_prefix, prefix_at}
use Rattle.prefixes.specs.Forms.{clean, valid_in}
use Rattle.prefixes.proofs.Laws.{fits_le, prefix_named}
use Rattle.prefixwriting.specs.Writings.{standard_octets}
use Rattle.prefixwriting.proofs.Puts.{length_standard}

-- a clean address is its first bits, and below its first one
pub clean_is : (width len off a : ℕ) → clean width len off a ≡ true → (first_bits width len a ≡ a) × (a < 2 ^ (width - off))
clean_is width len off a e =
    let t = both (eqb (first_bits width len a) a) (eqb (first_bits width off a) 0) e in
    let z : first_bits width off a ≡ 0 = eqb-true (first_bits width off a) 0 t.1 in
    let l = lt-div-mul-add {a = a} (pow_pos (width - off)) in
    (eqb-true (first_bits width len a) a t.0, omega arith)

-- k octets of a number v below 2 ^ (8 * k), at a place
value_back : (s : List ℕ) (from k v : ℕ) (ys : List ℕ) → drop from s ≡ spelled k v ++ ys → v < 2 ^ (8 * k) → value_of (take k (drop from s)) ≡ v
value_back s from k v ys d b =
    ap (λ (t : List ℕ). value_of (take k t)) d ∙ ap value_of (take_at (spelled k v) ys k (length_spelled k v)) ∙ value_spelled k v ∙ mod-eq_of_lt b

-- the addresses come back
front_back : (len a : ℕ) → len ≤ 32 → first_bits 32 len a ≡ a → first_bits 32 len (front_address 32 len (a / 2 ^ (32 - 8 * octets_of len))) ≡ a
front_back len a p e =
    let j = 32 - 8 * octets_of len in
    let m = 8 * octets_of len - len in
    let f : j + m ≡ 32 - len = omega arith in
    ap (λ (i : ℕ). a / 2 ^ j * 2 ^ j / 2 ^ i * 2 ^ (32 - len)) (sym f)
    ∙ ap (λ (x : ℕ). x * 2 ^ (32 - len)) (up_down (a / 2 ^ j) j m ∙ shr-shr a j m ∙ ap (λ (i : ℕ). a / 2 ^ i) f)
    ∙ e

offset_back : (len off a : ℕ) → first_bits 128 len a ≡ a → offset_address len off (a / 2 ^ (128 - len) * 2 ^ (8 * octets_of (len - off) - (len - off))) ≡ a
offset_back len off a e = ap (λ (x : ℕ). x * 2 ^ (128 - len)) (shl-shr (a / 2 ^ (128 - len)) (8 * octets_of (len - off) - (len - off))) ∙ e

no_form : {A : Type 0} → false ≡ true → A
no_form e = let z : ◌≡◌ {A = ℕ} 0 1 = cc in absurd (omega arith)

-- the lower half of an address is a word
abbrev pub LowWord : NetworkPrefix → Type 0
LowWord (V4 len a) = Unit {0}
LowWord (V6 len h l) = l < 2 ^ 64
LowWord (V4Offset len off a) = Unit {0}
LowWord (V6Offset len off h l) = l < 2 ^ 64

module _ (xs ys : List ℕ) where
  back_ipv4 : (len a : ℕ) → len ≤ 32 → clean 32 len 0 a ≡ true
      → prefix_at Ipv4 (xs ++ (standard_octets (V4 len a) ++ ys)) (length xs) ≡ accepts (whole_prefix (V4 len a) (length xs + length (standard_octets (V4 len a))))
  back_ipv4 len a l q =
      let t = clean_is 32 len 0 a q in
      let k = octets_of len in
      let v = a / 2 ^ (32 - 8 * octets_of len) in
      let s = xs ++ (len ∷ (spelled k v ++ ys)) in
      let g : get_or s (length xs) 0 ≡ len = get_or-append_seam xs len (spelled k v ++ ys) 0 in
      let n : length s ≡ length xs + suc (k + length ys) = length-append xs (len ∷ (spelled k v ++ ys)) ∙ ap (λ (m : ℕ). length xs + suc m) (length-append (spelled k v) ys ∙ ap (λ (m : ℕ). m + length ys) (length_spelled k v)) in
      let e : 8 * k + (32 - 8 * k) ≡ 32 = omega arith in
      let b : v < 2 ^ (8 * k) = shr_lt (8 * k) (32 - 8 * k) (subst (λ (j : ℕ). a < 2 ^ j) (sym e) t.1) in
      let o : length xs + 1 + octets_of (len - 0) ≡ length xs + length (standard_octets (V4 len a)) = omega (arith, length_standard (V4 len a)) in
      let z : len - 0 ≡ len = omega arith in
      let w = ap (λ (j : ℕ). value_of (take (octets_of j) (drop (length xs + 1) s))) z ∙ value_back s (length xs + 1) k v ys (drop-append-add xs (len ∷ (spelled k v ++ ys)) 1) b in
      prefix_named Ipv4 s (length xs) len 0 v g refl (le-leb len 32 l) (omega arith) w
      ∙ ap₂ (λ (x j : ℕ). accepts (whole_prefix (V4 len x) j)) (front_back len a l t.0) o

  back_ipv6 : (len off h l : ℕ) → l < 2 ^ 64 → offset_fits len off ≡ true → clean 128 len off (wide h l) ≡ true
      → prefix_at Ipv6 (xs ++ (standard_octets (V6Offset len off h l) ++ ys)) (length xs) ≡ accepts (whole_prefix (V6Offset len off h l) (length xs + length (standard_octets (V6Offset len off h l))))
  back_ipv6 len off h l hl f q =
      let a = wide h l in
      let r = fits_le len off f in
      let t = clean_is 128 len off a q in
      let c = len - off in
      let k = octets_of (len - off) in
      let v = a / 2 ^ (128 - len) * 2 ^ (8 * octets_of (len - off) - (len - off)) in
      let s = xs ++ (len ∷ off ∷ (spelled k v ++ ys)) in
      let g : get_or s (length xs) 0 ≡ len = get_or-append_seam xs len (off ∷ (spelled k v ++ ys)) 0 in
      let i : get_or s (length xs + 1) 0 ≡ off = get_or-append-add xs (len ∷ off ∷ (spelled k v ++ ys)) 1 0 in
      let n : length s ≡ length xs + suc (suc (k + length ys)) = length-append xs (len ∷ off ∷ (spelled k v ++ ys)) ∙ ap (λ (m : ℕ). length xs + suc (suc m)) (length-append (spelled k v) ys ∙ ap (λ (m : ℕ). m + length ys) (length_spelled k v)) in
      let e : c + (128 - len) ≡ 128 - off = omega arith in
      let d : c + (8 * k - c) ≡ 8 * k = omega arith in
      let u : a / 2 ^ (128 - len) < 2 ^ c = shr_lt c (128 - len) (subst (λ (j : ℕ). a < 2 ^ j) (sym e) t.1) in
      let b : v < 2 ^ (8 * k) = subst (λ (j : ℕ). v < 2 ^ j) d (shl_lt c (8 * k - c) u) in
      let o : length xs + 2 + k ≡ length xs + length (standard_octets (V6Offset len off h l)) = omega (arith, length_standard (V6Offset len off h l)) in
      prefix_named Ipv6 s (length xs) len off v g i f (omega arith) (value_back s (length xs + 2) k v ys (drop-append-add xs (len ∷ off ∷ (spelled k v ++ ys)) 2) b)
      ∙ ap₂ (λ (x j : ℕ). accepts (whole_prefix (ipv6_offset len off x) j)) (offset_back len off a t.0) o
      ∙ ap₂ (λ (x y : ℕ). accepts (whole_prefix (V6Offset len off x y) (length xs + length (standard_octets (V6Offset len off h l))))) (high h 64 hl) (low h 64 hl)

  pub ipv4_back : (p : NetworkPrefix) → valid_in 4 p ≡ true → prefix_at Ipv4 (xs ++ (standard_octets p ++ ys)) (length xs) ≡ accepts (whole_prefix p (length xs + length (standard_octets p)))
  ipv4_back (V4 len a) e = let t = both (leb len 32) (clean 32 len 0 a) e in back_ipv4 len a (leb-true len 32 t.0) t.1
  ipv4_back (V6 len h l) e = no_form e
  ipv4_back (V4Offset len off a) e = no_form e
  ipv4_back (V6Offset len off h l) e = no_form e

  pub ipv6_back : (p : NetworkPrefix) → LowWord p → valid_in 6 p ≡ true → prefix_at Ipv6 (xs ++ (standard_octets p ++ ys)) (length xs) ≡ accepts (whole_prefix p (length xs + length (standard_octets p)))
  ipv6_back (V4 len a) w e = no_form e
  ipv6_back (V6 len h l) w e = no_form e
  ipv6_back (V4Offset len off a) w e = no_form e
  ipv6_back (V6Offset len off h l) w e = let t = both (offset_fits len off) (clean 128 len off (wide h l)) e in back_ipv6 len off h l w t.0 t.1
