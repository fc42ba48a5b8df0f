-- What an order by three answers is: `IsTotalOrder` of std. Numbers are in such an order, and so is what is compared in turn, or by a key.
use Prim.Native.Nat.{ℕ, suc, ◌<◌}
use mathlib.Core.Path.{◌≡◌, refl, sym, ◌∙◌, ap, ap₂}
use mathlib.Core.Bool.{true, false, false≢true}
use mathlib.Core.List.{List, [], ◌∷◌}
use native.Mathlib.Omega.{arith}
use borrow.Author.Tests.{lt-ltb, le-ltb, eq-eqb, ne_eqb}
use Rattle.std.specs.Cmp.{IsTotalOrder}
use Rattle.std.specs.Ordering.{is_ne, ordering_reverse}
use Rattle.std.proofs.lemmas.Cmp.{ranked, by_ranked, alike_right}
use Rattle.ranking.specs.Ranks.{Ordering, Precedes, Equal, Follows, lower, then_by, in_turn}

-- ---- two numbers

pub data Way (x y : ℕ) : Type 0 where
  below : x < y → Way x y
  equal : x ≡ y → Way x y
  above : y < x → Way x y

pub way : (x y : ℕ) → Way x y
way x y = by_ranked (x < y) (x ≡ y) (y < x) (lower x y) (ranked x y (lower x y) refl) (λ e h. below h) (λ e h. equal h) (λ e h. above h)

pub low_below : (x y : ℕ) → x < y → lower x y ≡ Precedes
low_below x y h = rw (lt-ltb x y h)

pub low_above : (x y : ℕ) → y < x → lower x y ≡ Follows
low_above x y h = rw (le-ltb x y (omega arith), ne_eqb x y (λ e. omega arith))

pub low_equal : (x y : ℕ) → x ≡ y → lower x y ≡ Equal
low_equal x y e = rw (le-ltb x y (omega arith), eq-eqb x y e)

pub low_suc : (x y : ℕ) → Way x y → lower (suc x) (suc y) ≡ lower x y
low_suc x y (below h) = low_below (suc x) (suc y) (omega arith) ∙ sym (low_below x y h)
low_suc x y (equal e) = low_equal (suc x) (suc y) (ap suc e) ∙ sym (low_equal x y e)
low_suc x y (above h) = low_above (suc x) (suc y) (omega arith) ∙ sym (low_above x y h)

pub never : {A : Type 0} → ◌≡◌ {A = ℕ} 0 1 → A
never z = absurd (omega arith)

pub equal_same : (x y : ℕ) → lower x y ≡ Equal → x ≡ y
equal_same x y e = ranked x y Equal (sym e)

-- ---- one answer after another

pub then_assoc : (o p q : Ordering) → then_by (then_by o p) q ≡ then_by o (then_by p q)
then_assoc Precedes p q = refl
then_assoc Equal p q = refl
then_assoc Follows p q = refl

pub then_none : (o : Ordering) → then_by o Equal ≡ o
then_none Precedes = refl
then_none Equal = refl
then_none Follows = refl

pub then_first : (o p : Ordering) → then_by o p ≡ Equal → o ≡ Equal
then_first Precedes p e = e
then_first Equal p e = refl
then_first Follows p e = e

pub then_second : (o p : Ordering) → then_by o p ≡ Equal → p ≡ Equal
then_second Precedes p e = never (cc)
then_second Equal p e = e
then_second Follows p e = never (cc)

-- what tells two apart stands, whatever comes next
pub then_told : (o p : Ordering) → is_ne o ≡ true → then_by o p ≡ o
then_told Precedes p e = refl
then_told Equal p e = absurd (false≢true e)
then_told Follows p e = refl

pub told_equal : (o : Ordering) → is_ne o ≡ false → o ≡ Equal
told_equal Precedes e = absurd (false≢true (sym e))
told_equal Equal e = refl
told_equal Follows e = absurd (false≢true (sym e))

-- what comes next counts only where the first tells nothing
pub then_where : (o : Ordering) {p q : Ordering} → (o ≡ Equal → p ≡ q) → then_by o p ≡ then_by o q
then_where Precedes f = refl
then_where Equal f = f refl
then_where Follows f = refl

flip_then : (o p : Ordering) → then_by (ordering_reverse o) (ordering_reverse p) ≡ ordering_reverse (then_by o p)
flip_then Precedes p = refl
flip_then Equal p = refl
flip_then Follows p = refl

-- ---- an order

-- by a key
pub by_key : {A B : Type 0} (by : A → A → Ordering) (of : B → B → Ordering) (key : A → B) → IsTotalOrder of → ((x y : A) → by x y ≡ of (key x) (key y)) → IsTotalOrder by
by_key by of key o k = record {
  antisymm = λ x y. k x y ∙ o.antisymm (key x) (key y) ∙ sym (ap ordering_reverse (k y x));
  trans = λ x y z e f. k x z ∙ o.trans (key x) (key y) (key z) (sym (k x y) ∙ e) (sym (k y z) ∙ f);
  congr = λ x y z e. k x z ∙ o.congr (key x) (key y) (key z) (sym (k x y) ∙ e) ∙ sym (k y z);
}

-- of three answers a, b, c on the first and s, t, u on the rest
carry : (a b c s t u : Ordering) → (a ≡ Precedes → b ≡ Precedes → c ≡ Precedes) → (b ≡ Equal → c ≡ a) → (a ≡ Equal → c ≡ b)
    → (s ≡ Precedes → t ≡ Precedes → u ≡ Precedes) → then_by a s ≡ Precedes → then_by b t ≡ Precedes → then_by c u ≡ Precedes
carry Precedes Precedes c s t u h k l m e f = ap (λ (o : Ordering). then_by o u) (h refl refl)
carry Precedes Equal c s t u h k l m e f = ap (λ (o : Ordering). then_by o u) (k refl)
carry Precedes Follows c s t u h k l m e f = never (cc)
carry Equal Precedes c s t u h k l m e f = ap (λ (o : Ordering). then_by o u) (l refl)
carry Equal Equal c s t u h k l m e f = ap (λ (o : Ordering). then_by o u) (l refl) ∙ m e f
carry Equal Follows c s t u h k l m e f = never (cc)
carry Follows b c s t u h k l m e f = never (cc)

module _ {A : Type 0} (by : A → A → Ordering) (o : IsTotalOrder by) where
  turn_flips : (xs ys : List A) → in_turn by xs ys ≡ ordering_reverse (in_turn by ys xs)
  unfolding in_turn
  turn_flips [] [] = refl
  turn_flips [] (y ∷ ys) = refl
  turn_flips (x ∷ xs) [] = refl
  turn_flips (x ∷ xs) (y ∷ ys) = ap₂ then_by (o.antisymm x y) (turn_flips xs ys) ∙ flip_then (by y x) (in_turn by ys xs)

  turn_carries : (xs ys zs : List A) → in_turn by xs ys ≡ Precedes → in_turn by ys zs ≡ Precedes → in_turn by xs zs ≡ Precedes
  unfolding in_turn
  turn_carries [] [] zs e f = never (cc)
  turn_carries [] (y ∷ ys) zs e f = never (cc)
  turn_carries (x ∷ xs) ys [] e f = refl
  turn_carries (x ∷ xs) [] (z ∷ zs) e f = never (cc)
  turn_carries (x ∷ xs) (y ∷ ys) (z ∷ zs) e f =
      carry (by x y) (by y z) (by x z) (in_turn by xs ys) (in_turn by ys zs) (in_turn by xs zs)
      (o.trans x y z)
      (λ q. sym (alike_right o y z x q))
      (o.congr x y z)
      (turn_carries xs ys zs) e f

  turn_alike : (xs ys zs : List A) → in_turn by xs ys ≡ Equal → in_turn by xs zs ≡ in_turn by ys zs
  unfolding in_turn
  turn_alike [] [] zs e = refl
  turn_alike [] (y ∷ ys) zs e = never (cc)
  turn_alike (x ∷ xs) [] zs e = never (cc)
  turn_alike (x ∷ xs) (y ∷ ys) [] e = refl
  turn_alike (x ∷ xs) (y ∷ ys) (z ∷ zs) e =
      ap₂ then_by (o.congr x y z (then_first (by x y) (in_turn by xs ys) e)) (turn_alike xs ys zs (then_second (by x y) (in_turn by xs ys) e))

  pub turn_ordered : IsTotalOrder (in_turn by)
  turn_ordered = record { antisymm = turn_flips; trans = turn_carries; congr = turn_alike }
