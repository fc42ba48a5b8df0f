-- The best so far over any matching and any order: of those below a number that match, one that no other precedes, and the first stored of
-- equals. By induction over the number. And there is but one such.
use Prim.Native.Nat.{ℕ, suc, ◌≤◌, ◌<◌}
use mathlib.Core.Path.{◌≡◌, refl, sym, ap, ◌∙◌, subst}
use mathlib.Core.Bool.{Bool, true, false, true≢false}
use mathlib.Core.Logic.{⊎_elim}
use native.Mathlib.Omega.{arith}
use native.Mathlib.Nat.{le_antisymm}
use Rattle.std.specs.Cmp.{IsTotalOrder}
use Rattle.std.proofs.lemmas.Cmp.{tied_itself}
use Rattle.ground.specs.Picks.{pick}
use Rattle.ground.proofs.Cases.{by_test, lt_or_le}
use Rattle.ranking.specs.Ranks.{Ordering, Precedes, Equal, Follows, is_before}
use Rattle.ranking.proofs.Laws.{One, first, neither, second, exactly_one, over, preceded, before_is}
use Rattle.choosing.specs.Choosing.{Choice, place, none}

module _ (m : ℕ → Bool) (by : ℕ → ℕ → Ordering) where
  -- what `Named` asks, of the places below a number
  pub record Best (n i : ℕ) : Type 0 where
    pub stored : i < n
    pub matches : m i ≡ true
    pub unpreceded : (j : ℕ) → j < n → m j ≡ true → by j i ≡ Precedes → ⊥
    pub first : (j : ℕ) → j < n → m j ≡ true → by j i ≡ Equal → i ≤ j

  abbrev pub Answers : ℕ → Choice → Type 0
  Answers n (place i) = Best n i
  Answers n none = (j : ℕ) → j < n → m j ≡ false

  abbrev pub better_than : Choice → ℕ → Choice
  better_than none n = place n
  better_than (place b) n = pick (is_before (by n b)) (place n) (place b)

  never : {A : Type 0} {b : Bool} → b ≡ true → b ≡ false → A
  never p q = absurd (true≢false (sym p ∙ q))

  apart : Equal ≡ Follows → ⊥
  apart e = let z : ◌≡◌ {A = ℕ} 0 1 = cc in omega arith

  module _ (o : IsTotalOrder by) where
    self : (i : ℕ) → by i i ≡ Precedes → ⊥
    self i e = true≢false (sym (ap is_before e) ∙ ap is_before (tied_itself o i))

    -- below a number and the number itself
    below_suc : (P : ℕ → Type 0) (n : ℕ) → ((j : ℕ) → j < n → P j) → P n → (j : ℕ) → j < suc n → P j
    below_suc P n h q j l = ⊎_elim (λ k. h j k) (λ k. let e : n ≡ j = omega arith in subst P e q) (lt_or_le j n)

    pub passed_over : (n : ℕ) (c : Choice) → m n ≡ false → Answers n c → Answers (suc n) c
    passed_over n none f a = below_suc (λ j. m j ≡ false) n a f
    passed_over n (place b) f a = record {
      stored = omega (arith, a.stored);
      matches = a.matches;
      unpreceded = below_suc (λ j. m j ≡ true → by j b ≡ Precedes → ⊥) n a.unpreceded (λ t. never t f);
      first = below_suc (λ j. m j ≡ true → by j b ≡ Equal → b ≤ j) n a.first (λ t. never t f);
    }

    -- none before it matched
    alone : (n : ℕ) → m n ≡ true → Answers n none → Best (suc n) n
    alone n t a = record {
      stored = omega arith;
      matches = t;
      unpreceded = below_suc (λ j. m j ≡ true → by j n ≡ Precedes → ⊥) n (λ j l q. never q (a j l)) (λ q. self n);
      first = below_suc (λ j. m j ≡ true → by j n ≡ Equal → n ≤ j) n (λ j l q. never q (a j l)) (λ q r. omega arith);
    }

    -- it precedes the best so far, and so all that match
    takes : (n b : ℕ) → m n ≡ true → Best n b → by n b ≡ Precedes → Best (suc n) n
    takes n b t a e =
        let all : (j : ℕ) → j < n → m j ≡ true → by n j ≡ Precedes = λ j l q. over by o n j b e (a.unpreceded j l q) in record {
          stored = omega arith;
          matches = t;
          unpreceded = below_suc (λ j. m j ≡ true → by j n ≡ Precedes → ⊥) n (λ j l q r. true≢false (sym (ap is_before r) ∙ ap is_before (preceded by o n j (all j l q)))) (λ q. self n);
          first = below_suc (λ j. m j ≡ true → by j n ≡ Equal → n ≤ j) n (λ j l q r. absurd (apart (sym r ∙ preceded by o n j (all j l q)))) (λ q r. omega arith);
        }

    -- it does not
    keeps : (n b : ℕ) → Best n b → (by n b ≡ Precedes → ⊥) → Best (suc n) b
    keeps n b a f = record {
      stored = omega (arith, a.stored);
      matches = a.matches;
      unpreceded = below_suc (λ j. m j ≡ true → by j b ≡ Precedes → ⊥) n a.unpreceded (λ q. f);
      first = below_suc (λ j. m j ≡ true → by j b ≡ Equal → b ≤ j) n a.first (λ q r. let l = a.stored in omega arith);
    }

    pub taken_in : (n : ℕ) (c : Choice) → m n ≡ true → Answers n c → Answers (suc n) (better_than c n)
    taken_in n none t a = alone n t a
    taken_in n (place b) t a =
        by_test (is_before (by n b))
        (λ e. rw e (takes n b t a (before_is (by n b) e)))
        (λ e. rw e (keeps n b a (λ q. true≢false (sym (ap is_before q) ∙ e))))

    -- there is but one answer
    pub only_one : (n : ℕ) (c d : Choice) → Answers n c → Answers n d → c ≡ d
    only_one n none none a b = refl
    only_one n none (place j) a b = never b.matches (a j b.stored)
    only_one n (place i) none a b = never a.matches (b i a.stored)
    only_one n (place i) (place j) a b = ap place (same (exactly_one by o i j))
      where
        same : One (by i j) (by j i) → i ≡ j
        same (first e f) = absurd (b.unpreceded i a.stored a.matches e)
        same (neither e f) = le_antisymm (a.first j b.stored b.matches f) (b.first i a.stored a.matches e)
        same (second e f) = absurd (a.unpreceded j b.stored b.matches f)
