-- One step of the pass, and where it ends.
use Prim.Native.Nat.{ℕ, zero, suc, ◌+◌, ◌*◌, ◌≤◌, ◌<◌}
use mathlib.Core.Path.{◌≡◌, refl, sym, ap, ap₂, ◌∙◌, subst}
use mathlib.Core.Bool.{Bool, true, false}
use mathlib.Core.Logic.{⊎_elim}
use native.Mathlib.Omega.{arith}
use Rattle.std.specs.declared.option.Option.{Option}
use Rattle.std.specs.declared.option.Option.TheVariants.{Some, None}
use Rattle.ground.specs.Picks.{pick}
use Rattle.ground.proofs.Cases.{by_test, lt_or_le, both}
use Rattle.packets.specs.Packets.{Packet}
use Rattle.ranking.specs.Ranks.{is_before}
use Rattle.verdicts.specs.Verdicts.{judgement}
use Rattle.verdicts.proofs.WellFormed.{judged_some, judged_none}
use Rattle.choosing.specs.declared.Found.{Found}
use Rattle.choosing.specs.Choosing.{Table, formed_at, family_is, matches_at, rank_at, Choice, place, none, all_below, or_else, first_failing, better, best_below, choice_of}
use Rattle.choosing.specs.Passes.{Finds}

-- ---- all below a number

pub all_below_lem : (f : ℕ → Bool) (n : ℕ) → all_below f n ≡ true → (i : ℕ) → i < n → f i ≡ true
unfolding all_below
all_below_lem f zero e i l = absurd (omega arith)
all_below_lem f (suc n) e i l =
    let t = both (all_below f n) (f n) e in
    ⊎_elim (λ k. all_below_lem f n t.0 i k) (λ k. let h : n ≡ i = omega arith in subst (λ (j : ℕ). f j ≡ true) h t.1) (lt_or_le i n)

pub all_not : (f : ℕ → Bool) (n i : ℕ) → i < n → f i ≡ false → all_below f n ≡ false
all_not f n i l e =
    by_test (all_below f n)
    (λ h. let z : true ≡ false = sym (all_below_lem f n h i l) ∙ e in let y : ◌≡◌ {A = ℕ} 0 1 = cc in absurd (omega arith))
    (λ h. h)

all_more : (f : ℕ → Bool) (n : ℕ) → all_below f n ≡ true → f n ≡ true → all_below f (suc n) ≡ true
unfolding all_below
all_more f n e h = rw (e, h) refl

-- ---- the best is one of those that were passed

abbrev pub Below : ℕ → Choice → Type 0
Below n (place i) = i < n
Below n none = Unit {0}

better_below : (t : Table) (n : ℕ) (c : Choice) (b : Bool) → Below n c → Below (suc n) (pick b (better t c n) c)
better_below t n none false l = tt
better_below t n (place i) false l = omega arith
better_below t n none true l = omega arith
better_below t n (place i) true l = by_test (is_before (rank_at t n i)) (λ e. rw e (omega arith)) (λ e. rw e (omega arith))

pub best_below_lem : (t : Table) (p : Packet) (n : ℕ) → Below n (best_below t p n)
unfolding best_below
best_below_lem t p zero = tt
best_below_lem t p (suc n) = better_below t n (best_below t p n) (matches_at t p n) (best_below_lem t p n)

-- ---- the pass

module _ (t : Table) (p : Packet) (family : ℕ) where
  pub pass_start : Finds t p family 0 (record { mixed = None; best = None })
  unfolding all_below first_failing best_below
  pass_start = record { formed = refl; mixed = refl; best = refl }

  module _ (i : ℕ) (f : Found) (h : Finds t p family i f) where
    -- the best so far is one that was passed
    pub best_formed : (b : ℕ) → f.best ≡ Some b → formed_at t b ≡ true
    best_formed b e = all_below_lem (formed_at t) i h.formed b (subst (Below i) (sym h.best ∙ ap choice_of e) (best_below_lem t p i))

    pub pass_end : (n : ℕ) → i ≤ n → n ≤ i → Finds t p family n f
    pass_end n l m = let e : i ≡ n = omega arith in subst (λ (k : ℕ). Finds t p family k f) e h

    -- a turn, by what the code has found of the rule
    pub pass_bad : (n : ℕ) → i < n → None ≡ judgement t.words t.values t.octets p true (64 * i) → all_below (formed_at t) n ≡ false
    pass_bad n l e = all_not (formed_at t) n i l (judged_none (formed_at t i) (matches_at t p i) e)

    pub pass_on : {met : Bool} → Some met ≡ judgement t.words t.values t.octets p true (64 * i) → (same : Bool) → same ≡ family_is t family i → {mixed best : Option ℕ}
        → choice_of mixed ≡ or_else (choice_of f.mixed) (pick same none (place i))
        → choice_of best ≡ pick met (better t (choice_of f.best) i) (choice_of f.best)
        → Finds t p family (i + 1) (record { mixed = mixed; best = best })
    unfolding first_failing best_below
    pass_on e same q {mixed} {best} a b =
        let j = judged_some (formed_at t i) (matches_at t p i) e in
        let s : suc i ≡ i + 1 = omega arith in
        subst (λ (k : ℕ). Finds t p family k (record { mixed = mixed; best = best })) s
        (record {
          formed = all_more (formed_at t) i h.formed j.0;
          mixed = a ∙ ap₂ (λ (c : Choice) (x : Bool). or_else c (pick x none (place i))) h.mixed q;
          best = b ∙ ap₂ (λ (c : Choice) (x : Bool). pick x (better t c i) c) h.best j.1;
        })
