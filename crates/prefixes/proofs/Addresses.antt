-- Addresses from the number that a prefix's octets spell: they fit, and moving the halves moves the number.
use mathlib.Core.Path.{◌≡◌, sym, ap, ◌∙◌, subst}
use mathlib.Core.List.{List}
use mathlib.Core.Bool.{Bool, ◌&&◌, and-true}
use Prim.Native.Nat.{ℕ, ◌+◌, ◌-◌, ◌*◌, ◌/◌, ◌%◌, ◌^◌, ◌≤◌, ◌<◌}
use native.Mathlib.Nat.{lt_of_lt_of_le, mod-eq_of_lt, div-eq_of_lt, div-add-mod', sub-add_cancel, zero-mul}
use native.Mathlib.Omega.{arith}
use lib.Dec.{eqb}
use lib.ListN.{take, drop}
use lib.Pow.{pow_mono, pow_pos, shr_lt, shl_lt, shl-shr}
use borrow.Author.Tests.{eq-eqb, le-leb, lt-leb}
use Rattle.ground.proofs.Cases.{eqb_iff}
use Rattle.ground.proofs.Powers.{cut}
use Rattle.octets.specs.Addresses.{first_bits}
use Rattle.octets.specs.Spell.{value_of}
use Rattle.rules.specs.declared.NetworkPrefix.TheVariants.{Ipv4 as V4}
use Rattle.prefixes.specs.declared.Extent.{Extent}
use Rattle.prefixes.specs.Prefixes.{octets_of, front_address, offset_address, ipv6, plain_prefix, spelled_at}
use Rattle.prefixes.specs.Forms.{clean}

pub front_lt : (width len v : ℕ) → 8 * octets_of len ≤ width → v < 2 ^ (8 * octets_of len) → front_address width len v < 2 ^ width
front_lt width len v p b =
    let e : 8 * octets_of len + (width - 8 * octets_of len) ≡ width = omega arith in
    subst (λ (j : ℕ). front_address width len v < 2 ^ j) e (shl_lt (8 * octets_of len) (width - 8 * octets_of len) b)

-- with an offset no bit before it is set, either
pub offset_lt : (len off v : ℕ) → off ≤ len → len ≤ 128 → v < 2 ^ (8 * octets_of (len - off)) → offset_address len off v < 2 ^ (128 - off)
offset_lt len off v p q b =
    let n = len - off in
    let k = 8 * octets_of (len - off) in
    let e : n + (k - n) ≡ k = omega arith in
    let f : n + (128 - len) ≡ 128 - off = omega arith in
    subst (λ (j : ℕ). offset_address len off v < 2 ^ j) f (shl_lt n (128 - len) (shr_lt n (k - n) (subst (λ (j : ℕ). v < 2 ^ j) (sym e) b)))

-- up to 32 bits the plain prefix is IPv4, above IPv6
pub plain_short : (len v : ℕ) → len ≤ 32 → V4 len (front_address 32 len v) ≡ plain_prefix len v
plain_short len v h = simp (le-leb len 32 h)

pub plain_long : (len v : ℕ) → 32 < len → ipv6 len (front_address 128 len v) ≡ plain_prefix len v
plain_long len v h = simp (lt-leb len 32 h)

-- no cut at 128 digits shows
module _ (v len k : ℕ) (q : len ≤ 128) where
  pub front_ipv6 : k ≡ octets_of len → v < 2 ^ (8 * octets_of len) → v * 2 ^ (128 - 8 * k) % 2 ^ 128 ≡ front_address 128 len v
  front_ipv6 e b =
      let g : 8 * octets_of len ≤ 128 = omega arith in
      ap (λ (j : ℕ). v * 2 ^ (128 - 8 * j) % 2 ^ 128) e ∙ mod-eq_of_lt (front_lt 128 len v g b)

  pub offset_ipv6 : (off : ℕ) → off ≤ len → k ≡ octets_of (len - off) → v < 2 ^ (8 * octets_of (len - off))
      → v / 2 ^ (8 * k - (len - off)) * 2 ^ (128 - len) % 2 ^ 128 ≡ offset_address len off v
  offset_ipv6 off p e b =
      let g : 128 - off ≤ 128 = omega arith in
      ap (λ (j : ℕ). v / 2 ^ (8 * j - (len - off)) * 2 ^ (128 - len) % 2 ^ 128) e
      ∙ mod-eq_of_lt (lt_of_lt_of_le (offset_lt len off v p q b) (pow_mono g))

-- an address that begins after n bits has none set among them
pub none_first : (width n a : ℕ) → a < 2 ^ (width - n) → first_bits width n a ≡ 0
none_first width n a b = ap (λ (x : ℕ). x * 2 ^ (width - n)) (div-eq_of_lt b) ∙ zero-mul (2 ^ (width - n))

-- so within its width it is clean if it is its first bits
pub none_before : (width len a : ℕ) → a < 2 ^ width → eqb (first_bits width len a) a ≡ clean width len 0 a
none_before width len a b =
    let w : width - 0 ≡ width = omega arith in
    let z : first_bits width 0 a ≡ 0 = none_first width 0 a (subst (λ (j : ℕ). a < 2 ^ j) (sym w) b) in
    sym (ap (λ (t : Bool). eqb (first_bits width len a) a && t) (eq-eqb _ _ z) ∙ and-true (eqb (first_bits width len a) a))

-- what is 0 after a move up was 0
none_of : (x n : ℕ) → x * 2 ^ n ≡ 0 → x ≡ 0
none_of x n z = sym (shl-shr x n) ∙ ap (λ (q : ℕ). q / 2 ^ n) z ∙ div-eq_of_lt (pow_pos n)

-- an address is its first n bits if nothing is left of it past them, and has none set before a bit if nothing is left that far down
pub none_past : (n a : ℕ) → n ≤ 128 → eqb (a * 2 ^ n % 2 ^ 128) 0 ≡ eqb (first_bits 128 n a) a
none_past n a h =
    let k = 128 - n in
    let c : a * 2 ^ n % 2 ^ 128 ≡ a % 2 ^ k * 2 ^ n = subst (λ (w : ℕ). a * 2 ^ n % 2 ^ w ≡ a % 2 ^ k * 2 ^ n) (sub-add_cancel h) (cut a k n) in
    let d : a / 2 ^ k * 2 ^ k + a % 2 ^ k ≡ a = div-add-mod' a (2 ^ k) in
    eqb_iff (a * 2 ^ n % 2 ^ 128) 0 (first_bits 128 n a) a
    (λ z. let r : a % 2 ^ k ≡ 0 = none_of (a % 2 ^ k) n (sym c ∙ z) in omega arith)
    (λ z. let r : a % 2 ^ k ≡ 0 = omega arith in c ∙ ap (λ (q : ℕ). q * 2 ^ n) r ∙ zero-mul (2 ^ n))

pub none_down : (n a : ℕ) → eqb (a / 2 ^ (128 - n)) 0 ≡ eqb (first_bits 128 n a) 0
none_down n a =
    let k = 128 - n in
    eqb_iff (a / 2 ^ k) 0 (first_bits 128 n a) 0 (λ z. ap (λ (q : ℕ). q * 2 ^ k) z ∙ zero-mul (2 ^ k)) (λ z. none_of (a / 2 ^ k) k z)

-- the number that the octets of an extent with no offset spell
pub flat_spelled : (s : List ℕ) (e : Extent) → e.offset ≡ 0 → value_of (take (octets_of e.length) (drop e.from s)) ≡ spelled_at s e
flat_spelled s e z =
    let n : e.length ≡ e.length - e.offset = omega arith in
    ap (λ (j : ℕ). value_of (take (octets_of j) (drop e.from s))) n

-- the number that octets spell, and its bound
module _ (s : List ℕ) (from k K : ℕ) (e : k ≡ K) (v : ℕ) (i : v ≡ value_of (take k (drop from s))) where
  pub value_is : v ≡ value_of (take K (drop from s))
  value_is = i ∙ ap (λ (j : ℕ). value_of (take j (drop from s))) e

  pub value_below : value_of (take k (drop from s)) < 2 ^ (8 * k) → v < 2 ^ (8 * K)
  value_below b = subst (λ (j : ℕ). v < 2 ^ (8 * j)) e (rw i b)
