-- What a piece adds: how many octets it can be, what a weight says of the tests, and the weight by each form of a piece.
use Prim.Native.Nat.{ℕ, suc, ◌+◌, ◌*◌, ◌^◌, ◌≤◌, ◌<◌}
use mathlib.Core.Path.{◌≡◌, refl, sym, ap, ap₂, ◌∙◌}
use mathlib.Core.List.{[], ◌∷◌}
use mathlib.Core.Bool.{Bool, true, false, ◌&&◌, and-true, false≢true}
use native.Mathlib.Omega.{arith}
use borrow.Author.Tests.{le-leb, leb-true}
use lib.Dec.{eqb, leb}
use lib.ListN.{length, get_or}
use Rattle.std.specs.Option.{unwrap_or}
use Rattle.std.specs.Prelude.{None, Some, Option, is_some}
use Rattle.ground.specs.Picks.{pick}
use Rattle.ground.proofs.Cases.{by_test, both}
use Rattle.choices.specs.declared.Reading.{Reading}
use Rattle.choices.specs.declared.Reading.TheVariants.{Plain, Ipv4, Ipv6}
use Rattle.octets.specs.Addresses.{first_bits}
use Rattle.octets.specs.Widths.{width_of}
use Rattle.operators.specs.Ops.{kind_of, op, ops_in}
use Rattle.rules.specs.declared.NetworkPrefix.{NetworkPrefix}
use Rattle.rules.specs.declared.NetworkPrefix.TheVariants.{Ipv4 as V4, Ipv6 as V6, Ipv4Offset, Ipv6Offset}
use Rattle.prefixes.specs.Forms.{in_range}
use Rattle.prefixes.proofs.Addresses.{none_before}
use Rattle.prefixes.proofs.Laws.{fits_le}
use Rattle.prefixwriting.specs.Writings.{octets_in_plain, octets_in_standard, standard_range}
use Rattle.prefixwriting.proofs.Puts.{length_plain, length_standard, valid_ranged}
use Rattle.listwriting.specs.Lists.{size_in, takes_in, taken_size, one_size, pair_size}
use Rattle.listwriting.proofs.Laws.{takes_none}
use Rattle.listwriting.proofs.Sizes.{length_list, size_most, size_one, ops_one, size_two, ops_two}
use Rattle.stored.specs.declared.Piece.{Piece}
use Rattle.stored.specs.declared.Piece.TheVariants.{Prefix, Operators, NoRecord}
use Rattle.stored.specs.Pieces.{type_of}
use Rattle.stored.specs.Views.{NoList}
use Rattle.measuring.specs.Bodies.{Lent, ops_of, prefix_octets, piece_octets}
use Rattle.measuring.specs.Grounds.{operators_in, inside_of, prefix_taken, list_taken, piece_taken, rises_in}
use Rattle.measuring.specs.Weights.{fits_after, weight_of, prefix_weight, plain_weight, standard_weight, other_weight}
use Rattle.measuring.proofs.Laws.{Standard, standard_list}

-- a prefix that is taken has at most 18 octets
plain_most : (p : NetworkPrefix) → in_range p ≡ true → octets_in_plain p ≤ 18
plain_most (V4 len a) e = omega (arith, leb-true len 32 e)
plain_most (V6 len h l) e = omega (arith, leb-true len 128 e)
plain_most (Ipv4Offset len off a) e = omega arith
plain_most (Ipv6Offset len off h l) e = omega (arith, leb-true len 128 e)

standard_most : (p : NetworkPrefix) → standard_range p ≡ true → octets_in_standard p ≤ 18
standard_most (V4 len a) e = omega (arith, leb-true len 32 e)
standard_most (Ipv6Offset len off h l) e = omega (arith, (fits_le len off e).1)
standard_most (V6 len h l) e = omega arith
standard_most (Ipv4Offset len off a) e = omega arith

pub prefix_most : (w : Reading) (p : NetworkPrefix) → prefix_taken w p ≡ true → length (prefix_octets w p) ≤ 18
prefix_most Plain p e = omega (arith, length_plain p, plain_most p e)
prefix_most Ipv4 p e = omega (arith, length_standard p, standard_most p (valid_ranged 4 p e))
prefix_most Ipv6 p e = omega (arith, length_standard p, standard_most p (valid_ranged 6 p e))

-- how long a list's piece is
pub length_operators : (w : Reading) (l : Lent) (t start n : ℕ) → length (piece_octets w l (Operators t start n)) ≡ 1 + size_in l.octets (l.first + start) n
unfolding piece_octets
length_operators w l t start n = omega (arith, length_list (kind_of t) l.values l.octets (l.first + start) n)

piece_most : (w : Reading) (l : Lent) (p : Piece) → piece_taken w l p ≡ true → length (piece_octets w l p) ≤ 19 + 9 * operators_in p
unfolding piece_octets piece_taken
piece_most w l (Prefix t p) e = omega (arith, prefix_most w p e)
piece_most w l (Operators t start n) e = omega (arith, length_list (kind_of t) l.values l.octets (l.first + start) n, size_most l.octets (l.first + start) n)
piece_most w l NoRecord e = omega arith

-- ---- any piece

-- a piece that is taken has its type octet
piece_least : (w : Reading) (l : Lent) (p : Piece) → piece_taken w l p ≡ true → 0 < length (piece_octets w l p)
unfolding piece_octets piece_taken
piece_least w l (Prefix t p) e = omega arith
piece_least w l (Operators t start n) e = omega arith
piece_least w l NoRecord e = absurd (false≢true e)

module _ (w : Reading) (l : Lent) (left previous : ℕ) (p : Piece) where
  pub fits_shows : fits_after w l left previous p ≡ true → (operators_in p ≤ left) × (piece_taken w l p ≡ true) × (rises_in w previous (type_of p) ≡ true)
  unfolding fits_after
  fits_shows e =
      let a = both (leb (operators_in p) left) (piece_taken w l p && rises_in w previous (type_of p)) e in
      let b = both (piece_taken w l p) (rises_in w previous (type_of p)) a.1 in
      (leb-true (operators_in p) left a.0, b.0, b.1)

  weight_is : fits_after w l left previous p ≡ true → weight_of w l left previous p ≡ length (piece_octets w l p)
  unfolding weight_of
  weight_is e = rw e

  weight_not : fits_after w l left previous p ≡ false → weight_of w l left previous p ≡ 0
  unfolding weight_of
  weight_not e = rw e

  -- a weight of 0 says that a test failed
  pub weight_zero : weight_of w l left previous p ≡ 0 → fits_after w l left previous p ≡ false
  weight_zero z =
      by_test (fits_after w l left previous p)
      (λ e. absurd (omega (arith, weight_is e, piece_least w l p (fits_shows e).1)))
      (λ e. e)

  -- and any other that none did
  module _ (some : 0 < weight_of w l left previous p) where
    fits : fits_after w l left previous p ≡ true
    fits = by_test (fits_after w l left previous p) (λ e. e) (λ e. absurd (omega (arith, weight_not e)))

    pub weight_some : (fits_after w l left previous p ≡ true) × (weight_of w l left previous p ≡ length (piece_octets w l p))
    weight_some = (fits, weight_is fits)

    pub weight_taken : piece_taken w l p ≡ true
    weight_taken = (fits_shows fits).1

    pub weight_few : operators_in p ≤ left
    weight_few = (fits_shows fits).0

    pub weight_most : weight_of w l left previous p ≤ 19 + 9 * operators_in p
    weight_most = omega (arith, weight_is fits, piece_most w l p (fits_shows fits).1)

-- ---- a piece by its form

pub weight_prefix : (w : Reading) (l : Lent) (left previous t : ℕ) (p : NetworkPrefix) → weight_of w l left previous (Prefix t p) ≡ prefix_weight w previous t p
unfolding weight_of prefix_weight fits_after piece_taken piece_octets
weight_prefix w l left previous t p =
    let e : suc (length (prefix_octets w p)) ≡ 1 + length (prefix_octets w p) = omega arith in
    rw (le-leb 0 left (omega arith)) (ap (λ (n : ℕ). pick (prefix_taken w p && rises_in w previous t) n 0) e)

pub weight_none : (w : Reading) (l : Lent) (left previous : ℕ) → weight_of w l left previous NoRecord ≡ 0
unfolding weight_of fits_after piece_taken
weight_none w l left previous = rw (le-leb 0 left (omega arith))

pub weight_other : (w : Reading) (l : Lent) (left previous : ℕ) (p : Piece) → NoList p → weight_of w l left previous p ≡ other_weight w previous p
weight_other w l left previous (Prefix t p) n = weight_prefix w l left previous t p
weight_other w l left previous (Operators t start count) n = absurd n
weight_other w l left previous NoRecord n = weight_none w l left previous

-- a number where a test holds
or_nothing : (b : Bool) (n : ℕ) → pick b n 0 ≡ unwrap_or (pick b (Some n) None) 0
or_nothing true n = refl
or_nothing false n = refl

nested : (a b c : Bool) (n : ℕ) → pick (a && (b && c)) n 0 ≡ pick (a && c) (pick b n 0) 0
nested true true c n = refl
nested true false true n = refl
nested true false false n = refl
nested false b c n = refl

module _ (w : Reading) (l : Lent) (left previous t start n : ℕ) where
  weight_by : weight_of w l left previous (Operators t start n)
      ≡ pick (leb n left && rises_in w previous t) (pick (inside_of l start n && list_taken w t (ops_of l start n)) (1 + size_in l.octets (l.first + start) n) 0) 0
  unfolding weight_of fits_after piece_taken
  weight_by =
      ap (λ (k : ℕ). pick (leb n left && ((inside_of l start n && list_taken w t (ops_of l start n)) && rises_in w previous t)) k 0) (length_operators w l t start n)
      ∙ nested (leb n left) (inside_of l start n && list_taken w t (ops_of l start n)) (rises_in w previous t) (1 + size_in l.octets (l.first + start) n)

  -- a list whose type may not stand, or that has too many operators
  pub weight_list_not : leb n left && rises_in w previous t ≡ false → weight_of w l left previous (Operators t start n) ≡ 0
  weight_list_not e = weight_by ∙ rw e

  pub weight_list : Standard w → weight_of w l left previous (Operators t start n) ≡ pick (leb n left && rises_in w previous t) (unwrap_or (standard_weight t l start n) 0) 0
  unfolding standard_weight
  weight_list u =
      weight_by
      ∙ ap (λ b. pick (leb n left && rises_in w previous t) (pick (inside_of l start n && b) (1 + size_in l.octets (l.first + start) n) 0) 0)
      (standard_list w u t (ops_of l start n))
      ∙ ap (λ (k : ℕ). pick (leb n left && rises_in w previous t) k 0) (or_nothing (inside_of l start n && takes_in t (ops_of l start n)) (1 + size_in l.octets (l.first + start) n))

  pub weight_standard : Standard w → leb n left && rises_in w previous t ≡ true → weight_of w l left previous (Operators t start n) ≡ unwrap_or (standard_weight t l start n) 0
  weight_standard u f = weight_list u ∙ rw f

  pub weight_plain : w ≡ Plain → leb n left && rises_in w previous t ≡ true → weight_of w l left previous (Operators t start n) ≡ plain_weight l start n
  unfolding plain_weight
  weight_plain e f =
      weight_by ∙ (rw f)
      ∙ ap (λ (v : Reading). pick (inside_of l start n && list_taken v t (ops_of l start n)) (1 + size_in l.octets (l.first + start) n) 0) e
      ∙ ap (λ b. pick b (1 + size_in l.octets (l.first + start) n) 0) (and-true (inside_of l start n))

-- ---- a list, by its tests

module _ (t : ℕ) (l : Lent) (start n : ℕ) where
  pub standard_outside : inside_of l start n ≡ false → None ≡ standard_weight t l start n
  unfolding standard_weight
  standard_outside e = rw e

  pub taken_most : {m : Option ℕ} {k : ℕ} → m ≡ taken_size t l.values l.octets (l.first + start) n → m ≡ Some k → k ≤ 9 * n
  taken_most {m} {k} f s =
      by_test (takes_in t (ops_of l start n))
      (λ h. let z : m ≡ Some (size_in l.octets (l.first + start) n) = rw h at f in
      omega (arith, ap (λ o. unwrap_or o 0) (sym s ∙ z), size_most l.octets (l.first + start) n))
      (λ h. let z : m ≡ None = rw h at f in absurd (false≢true (ap is_some (sym z ∙ s))))

pub standard_empty : (t : ℕ) (l : Lent) (start n : ℕ) → n ≡ 0 → None ≡ standard_weight t l start n
unfolding standard_weight ops_in
standard_empty t l start n e = rw (e, takes_none)

pub standard_lone : (t : ℕ) (l : Lent) (start : ℕ) → inside_of l start 1 ≡ true → one_size t (get_or l.octets (l.first + start) 0) (get_or l.values (l.first + start) 0) ≡ standard_weight t l start 1
unfolding standard_weight
standard_lone t l start e =
    let o = get_or l.octets (l.first + start) 0 in
    let v = get_or l.values (l.first + start) 0 in
    let k : 2 + width_of o ≡ 1 + size_in l.octets (l.first + start) 1 = omega (arith, size_one l.octets (l.first + start)) in
    ap (λ (n : ℕ). pick (takes_in t (op o v ∷ [])) (Some n) None) k
    ∙ sym (ap₂ (λ x ys. pick (x && takes_in t ys) (Some (1 + size_in l.octets (l.first + start) 1)) None) e (ops_one l.values l.octets (l.first + start)))

pub standard_pair : (t : ℕ) (l : Lent) (start : ℕ) → inside_of l start 2 ≡ true
    → pair_size t (get_or l.octets (l.first + start) 0) (get_or l.values (l.first + start) 0) (get_or l.octets (l.first + start + 1) 0) (get_or l.values (l.first + start + 1) 0) ≡ standard_weight t l start 2
unfolding standard_weight
standard_pair t l start e =
    let at = l.first + start in
    let o = get_or l.octets at 0 in
    let v = get_or l.values at 0 in
    let p = get_or l.octets (at + 1) 0 in
    let w = get_or l.values (at + 1) 0 in
    let k : 3 + width_of o + width_of p ≡ 1 + size_in l.octets at 2 = omega (arith, size_two l.octets at) in
    ap (λ (n : ℕ). pick (takes_in t (op o v ∷ op p w ∷ [])) (Some n) None) k
    ∙ sym (ap₂ (λ x ys. pick (x && takes_in t ys) (Some (1 + size_in l.octets at 2)) None) e (ops_two l.values l.octets at))

-- ---- a prefix, by its tests

module _ (w : Reading) (previous t : ℕ) (p : NetworkPrefix) where
  pub prefix_fits : prefix_taken w p ≡ true → rises_in w previous t ≡ true → {n : ℕ} → n ≡ 1 + length (prefix_octets w p) → n ≡ prefix_weight w previous t p
  unfolding prefix_weight
  prefix_fits e f g = rw (e, f, g)

-- what is kept of an IPv4 address
pub kept_ipv4 : (len a k : ℕ) → len ≤ 32 → a < 2 ^ 32 → k ≡ first_bits 32 len a → prefix_taken Ipv4 (V4 len a) ≡ eqb k a
kept_ipv4 len a k h b e = rw (le-leb len 32 h, e) (sym (none_before 32 len a b))

-- what is no list and no prefix
pub no_record : (p : Piece) → NoList p → ((t : ℕ) (q : NetworkPrefix) → p ≡ Prefix t q → ⊥) → p ≡ NoRecord
no_record (Prefix t q) n h = absurd (h t q refl)
no_record (Operators t start count) n h = absurd n
no_record NoRecord n h = refl
