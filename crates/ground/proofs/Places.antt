-- Where a refusal broke: inputs that agree up to a place, and what is to be said of a refused answer and its place.
use Prim.Native.Nat.{ℕ, ◌+◌, ◌≤◌, ◌<◌}
use mathlib.Core.Path.{◌≡◌, refl, sym, ap, ◌∙◌}
use mathlib.Core.List.{List, []}
use native.Mathlib.Omega.{arith}
use native.Mathlib.Decide.{dec_lt}
use lib.ListN.{length, get_or, take, drop, length-take, length-drop, get_or-eq_default}
use lib.Seq.{get_or-take, get_or-drop}
use Rattle.ground.specs.Answers.{at_octet, Refused, refused, Answer, declines, refuses_at}
use Rattle.ground.proofs.Cases.{by_cases}

-- two inputs of one length that agree in their first n octets
pub record Alike (n : ℕ) (s t : List ℕ) : Type 0 where
  pub long : length t ≡ length s
  pub same : (i : ℕ) → i < n → get_or t i 0 ≡ get_or s i 0

pub alike_less : {m n : ℕ} {s t : List ℕ} → m ≤ n → Alike n s t → Alike m s t
alike_less h a = record { long = a.long; same = λ i k. a.same i (omega arith) }

pub take_alike : (n : ℕ) (s t : List ℕ) → length t ≡ length s → take n t ≡ take n s → Alike n s t
take_alike n s t l e = record { long = l; same = λ i h. sym (get_or-take n t i 0 h) ∙ ap (λ (x : List ℕ). get_or x i 0) e ∙ get_or-take n s i 0 h }

-- parts of them, of k octets from a place on
past_take : (k i : ℕ) (s : List ℕ) → (i < k → ⊥) → get_or (take k s) i 0 ≡ 0
past_take k i s h = get_or-eq_default (take k s) 0 (rw length-take (omega (arith, h)))

pub alike_part : (from k : ℕ) {n : ℕ} {s t : List ℕ} → Alike (from + n) s t → Alike n (take k (drop from s)) (take k (drop from t))
alike_part from k {n} {s} {t} a =
    record {
      long = simp (length-take, length-drop) (rw a.long);
      same = λ i h.
          by_cases (dec_lt i k)
          (λ l. get_or-take k (drop from t) i 0 l ∙ get_or-drop from t i 0 ∙ a.same (from + i) (omega arith) ∙ sym (get_or-take k (drop from s) i 0 l ∙ get_or-drop from s i 0))
          (λ l. past_take k i (drop from t) l ∙ sym (past_take k i (drop from s) l));
    }

-- What is said of a refusal of the octets from `at` on: it has a place there or later, up to a bound; where an octet is missing, the place is
-- the bound; and inputs that agree up to the place, and in `more` octets behind it, are refused alike. How many more it takes goes by the
-- refusal's number.
pub record Breaks {A : Type 0} (more : ℕ → ℕ) (ask : List ℕ → Answer A) (s : List ℕ) (at bound : ℕ) (f : Refused) : Type 0 where
  pub place : ℕ
  pub is : f.place ≡ at_octet place
  pub from : at ≤ place
  pub within : place ≤ bound
  pub missing : f.number ≡ 1 → place ≡ bound
  pub same : (t : List ℕ) → Alike (place + 1 + more f.number) s t → ask t ≡ declines f

module _ {A : Type 0} (more : ℕ → ℕ) (ask : List ℕ → Answer A) (s : List ℕ) (at : ℕ) (h : at ≤ length s) where
  -- an octet is missing: whatever is there, the place is the end
  pub breaks_at_end : ((t : List ℕ) → Alike (length s + 1 + more 1) s t → ask t ≡ refuses_at 1 [] (length t))
      → Breaks more ask s at (length s) (refused 1 [] (at_octet (length s)))
  breaks_at_end f =
      record {
        place = length s;
        is = refl;
        from = h;
        within = omega arith;
        missing = λ e. refl;
        same = λ t a. f t a ∙ ap (refuses_at 1 []) a.long;
      }

  -- the octet at hand is wrong
  pub breaks_here : (number : ℕ) (carried : List ℕ) → (number ≡ 1 → ⊥) → ((t : List ℕ) → Alike (at + 1 + more number) s t → ask t ≡ refuses_at number carried at)
      → Breaks more ask s at (length s) (refused number carried (at_octet at))
  breaks_here number carried n f =
      record {
        place = at;
        is = refl;
        from = omega arith;
        within = h;
        missing = λ e. absurd (n e);
        same = f;
      }

-- what comes before the octets that broke, and passes the refusal on, breaks where they did
pub breaks_on : {A B : Type 0} {more : ℕ → ℕ} {ask : List ℕ → Answer A} {s : List ℕ} {at bound : ℕ} {f : Refused} → Breaks more ask s at bound f
    → (up : List ℕ → Answer B) (before : ℕ) → before ≤ at → ((t : List ℕ) → Alike (at + 1) s t → ask t ≡ declines f → up t ≡ declines f)
    → Breaks more up s before bound f
breaks_on b up before h g =
    record {
      place = b.place;
      is = b.is;
      from = omega (arith, b.from);
      within = b.within;
      missing = b.missing;
      same = λ t a. g t (alike_less (omega (arith, b.from)) a) (b.same t a);
    }
