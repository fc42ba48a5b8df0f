-- What is stored of a prefix and of a piece.
use Prim.Native.Nat.{ℕ, zero, suc, ◌+◌, ◌-◌, ◌*◌, ◌/◌, ◌^◌, ◌≤◌}
use mathlib.Core.Path.{◌≡◌, refl, sym, ap, ap₂, ◌∙◌}
use mathlib.Core.Bool.{true, false≢true}
use mathlib.Core.List.{List, ◌∷◌, ◌++◌}
use native.Mathlib.Omega.{arith}
use native.Mathlib.Numerals.{add-one}
use borrow.Author.Tests.{leb-true}
use lib.Dec.{leb}
use lib.ListN.{length, set}
use lib.Pow.{shr-shr}
use lib.Seq.{sets, length-sets}
use Rattle.ground.proofs.Cases.{both}
use Rattle.ground.proofs.Overlays.{sets_append}
use Rattle.octets.specs.Spell.{spelled}
use Rattle.octets.proofs.Spells.{spelled_parts, length_spelled}
use Rattle.choices.specs.declared.Reading.{Reading}
use Rattle.choices.specs.declared.Reading.TheVariants.{Plain, Ipv4, Ipv6}
use Rattle.operators.specs.Ops.{kind_of, list_octets}
use Rattle.rules.specs.declared.NetworkPrefix.{NetworkPrefix}
use Rattle.rules.specs.declared.NetworkPrefix.TheVariants.{Ipv4 as V4}
use Rattle.prefixes.specs.Prefixes.{octets_of}
use Rattle.prefixes.specs.Forms.{clean}
use Rattle.prefixwriting.specs.Writings.{front_octets}
use Rattle.listwriting.specs.Lists.{size_in}
use Rattle.stored.specs.declared.Piece.{Piece}
use Rattle.stored.specs.declared.Piece.TheVariants.{Prefix, Operators, NoRecord}
use Rattle.measuring.specs.Bodies.{Lent, ops_of, prefix_octets, piece_octets}
use Rattle.measuring.specs.Grounds.{inside_of, prefix_taken, list_taken, piece_taken}
use Rattle.measuring.proofs.Weights.{length_operators}

-- the arms of `put_high`
pub high_none : (l : List ℕ) (at k v : ℕ) → k ≡ 0 → l ≡ sets l at (spelled k (v / 2 ^ (32 - 8 * k)))
unfolding spelled
high_none l at k v e = rw e

pub high_three : (l : List ℕ) (at v : ℕ) {m r : List ℕ} → m ≡ sets l at (spelled 2 (v / 65536)) → r ≡ sets m (at + 2) (spelled 1 (v / 256)) → r ≡ sets l at (spelled 3 (v / 2 ^ (32 - 8 * 3)))
high_three l at v {m} {r} e f =
    let p : spelled 3 (v / 256) ≡ spelled 2 (v / 65536) ++ spelled 1 (v / 256) = spelled_parts 2 1 (v / 256) ∙ ap (λ (x : ℕ). spelled 2 x ++ spelled 1 (v / 256)) (shr-shr v 8 8) in
    f ∙ ap₂ (λ (x : List ℕ) (n : ℕ). sets x (at + n) (spelled 1 (v / 256))) e (sym (length_spelled 2 (v / 65536)))
    ∙ sym (sets_append l at (spelled 2 (v / 65536)) (spelled 1 (v / 256)))
    ∙ ap (λ (x : List ℕ). sets l at x) (sym p)

pub four : (k : ℕ) → k ≤ 4 → (k ≡ 0 → ⊥) → (k ≡ 1 → ⊥) → (k ≡ 2 → ⊥) → (k ≡ 3 → ⊥) → 4 ≡ k
four zero h a b c d = absurd (a refl)
four (suc zero) h a b c d = absurd (b refl)
four (suc (suc zero)) h a b c d = absurd (c refl)
four (suc (suc (suc zero))) h a b c d = absurd (d refl)
four (suc (suc (suc (suc k)))) h a b c d = omega arith

-- an IPv4 prefix that a writing takes
taken_ipv4 : (w : Reading) (len a : ℕ) → prefix_taken w (V4 len a) ≡ true → len ≤ 32
taken_ipv4 Plain len a e = leb-true len 32 e
taken_ipv4 Ipv4 len a e = leb-true len 32 (both (leb len 32) (clean 32 len 0 a) e).0
taken_ipv4 Ipv6 len a e = absurd (false≢true e)

octets_ipv4 : (w : Reading) (len a : ℕ) → prefix_octets w (V4 len a) ≡ len ∷ front_octets 32 len a
octets_ipv4 Plain len a = refl
octets_ipv4 Ipv4 len a = refl
octets_ipv4 Ipv6 len a = refl

length_ipv4 : (w : Reading) (len a : ℕ) → length (prefix_octets w (V4 len a)) ≡ 1 + octets_of len
length_ipv4 w len a =
    let n = octets_ipv4 w len a in
    let e : length (prefix_octets w (V4 len a)) ≡ suc (length (front_octets 32 len a)) = ap length n in
    omega (arith, e, length_spelled (octets_of len) (a / 2 ^ (32 - 8 * octets_of len)))

-- stores keep the length
pub kept : (l : List ℕ) (at : ℕ) (xs : List ℕ) {r : List ℕ} → r ≡ sets l at xs → length r ≡ length l
kept l at xs e = ap length e ∙ length-sets l at xs

-- the first octet, and the others after it
pub first_then : (l : List ℕ) (at t : ℕ) (xs : List ℕ) {r : List ℕ} → r ≡ sets (set l at t) (at + 1) xs → r ≡ sets l at (t ∷ xs)
first_then l at t xs f = f ∙ ap (λ (j : ℕ). sets (set l at t) j xs) (add-one at)

module _ (w : Reading) (l : Lent) (x : Piece) (t : ℕ) where
  module _ (p : NetworkPrefix) (is : x ≡ Prefix t p) where
    pub prefix_taken_lem : piece_taken w l x ≡ true → prefix_taken w p ≡ true
    unfolding piece_taken
    prefix_taken_lem e = sym (ap (piece_taken w l) is) ∙ e

    pub prefix_long : length (piece_octets w l x) ≡ 1 + length (prefix_octets w p)
    unfolding piece_octets
    prefix_long = ap (λ y. length (piece_octets w l y)) is ∙ omega arith

    pub prefix_put : (out : List ℕ) (at : ℕ) {r : List ℕ} → r ≡ sets out at (t ∷ prefix_octets w p) → r ≡ sets out at (piece_octets w l x)
    unfolding piece_octets
    prefix_put out at f = f ∙ ap (λ y. sets out at (piece_octets w l y)) (sym is)

  -- the same of an IPv4 prefix
  module _ (len a : ℕ) (is : x ≡ Prefix t (V4 len a)) where
    pub ipv4_taken : piece_taken w l x ≡ true → len ≤ 32
    ipv4_taken e = taken_ipv4 w len a (prefix_taken_lem (V4 len a) is e)

    pub ipv4_long : length (piece_octets w l x) ≡ 2 + octets_of len
    ipv4_long = omega (arith, prefix_long (V4 len a) is, length_ipv4 w len a)

    pub ipv4_put : (out : List ℕ) (at : ℕ) {r : List ℕ} → r ≡ sets (set out at t) (at + 1) (len ∷ front_octets 32 len a) → r ≡ sets out at (piece_octets w l x)
    ipv4_put out at f = prefix_put (V4 len a) is out at (first_then out at t (len ∷ front_octets 32 len a) f ∙ ap (λ xs. sets out at (t ∷ xs)) (sym (octets_ipv4 w len a)))

  module _ (start n : ℕ) (is : x ≡ Operators t start n) where
    pub list_inside : piece_taken w l x ≡ true → inside_of l start n ≡ true
    unfolding piece_taken
    list_inside e = (both (inside_of l start n) (list_taken w t (ops_of l start n)) (sym (ap (piece_taken w l) is) ∙ e)).0

    pub list_long : length (piece_octets w l x) ≡ 1 + size_in l.octets (l.first + start) n
    list_long = ap (λ y. length (piece_octets w l y)) is ∙ length_operators w l t start n

    pub list_put : (out : List ℕ) (at : ℕ) {r : List ℕ} → r ≡ sets (set out at t) (at + 1) (list_octets (kind_of t) (ops_of l start n)) → r ≡ sets out at (piece_octets w l x)
    unfolding piece_octets
    list_put out at f = first_then out at t (list_octets (kind_of t) (ops_of l start n)) f ∙ ap (λ y. sets out at (piece_octets w l y)) (sym is)

  -- no record is never taken
  pub never_taken : x ≡ NoRecord → piece_taken w l x ≡ true → ⊥
  unfolding piece_taken
  never_taken is e = false≢true (sym (ap (piece_taken w l) is) ∙ e)
