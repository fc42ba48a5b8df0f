-- Demand 3, in the user's terms. Let a table hold at most 64 well-formed rules of one family and one distinguisher, absent counting as its own,
-- stored in any order, and let the packet be of that family with its fields in range. Then, and in no other case, the chooser accepts
-- (`accepts_where`, `accepts_exactly`), and of what it answers (`decides`):
--
-- - the rule that it names is stored and matches;
-- - no other rule that matches precedes it by the RFCs' order;
-- - of matching rules that rank equal to it, none was stored before it;
-- - "no rule" is said only where none matches;
--
-- there is no other answer of which this holds (`no_other`), and "no rule" is said exactly where none matches (`none_exactly`). In every other case it
-- refuses, by the first of these that holds: more than 64 rules (12, with their number), a packet out of range (13), a rule that is not
-- well-formed or words that make no whole rule (10), a rule of another family than the packet's (14, with the first such place), a rule of another
-- distinguisher than the rule at place 0 (20, with the first such place): `refuses_..`.
-- `chosen_in` is what the contract of `choosing::choose` cites, and `Decides` is in that contract too.
use Prim.Native.Nat.{ℕ, zero, suc, ◌≤◌, ◌<◌}
use mathlib.Core.Path.{◌≡◌, refl, sym, ap, ◌∙◌, subst}
use mathlib.Core.Bool.{Bool, true, false, ◌&&◌, true≢false}
use mathlib.Core.Logic.{⊎_elim}
use mathlib.Core.List.{[], ◌∷◌}
use native.Mathlib.Omega.{arith}
use borrow.Author.Tests.{lt-ltb, le-ltb, ltb-false}
use lib.Dec.{ltb}
use Rattle.std.specs.Prelude.{Option}
use Rattle.std.specs.Cmp.{IsTotalOrder}
use Rattle.ground.specs.Picks.{pick}
use Rattle.ground.specs.Answers.{Answer, accepts, refuses, declines}
use Rattle.ground.proofs.Answers.{never, same_accepted}
use Rattle.ground.proofs.Cases.{by_test, lt_or_le, both}
use Rattle.stored.specs.Distinguishers.{same_distinguisher}
use Rattle.stored.proofs.Distinguishers.{same_is, same_self}
use Rattle.packets.specs.Packets.{Packet, packet_ok}
use Rattle.ranking.proofs.Orders.{by_key}
use Rattle.ranking.proofs.Laws.{Ruled, ranked, rules_ordered}
use Rattle.choosing.specs.Choosing.{Table, rules_in, whole_rules, held_at, formed_at, family_is, like_first, matches_at, rank_at, Choice, place, none, Decides, Decided, all_below, or_else, first_failing, better, best_below, unless_place, chosen_in}
use Rattle.choosing.proofs.Passes.{all_below_lem, all_not}
use Rattle.choosing.proofs.Best.{Answers, better_than, passed_over, taken_in, only_one}

-- the rules of a table are in an order
abbrev held : Table → ℕ → Ruled
held t i = record { values = t.values; octets = t.octets; rule = held_at t i }

ordered : (t : Table) → IsTotalOrder (rank_at t)
ordered t = by_key (rank_at t) ranked (held t) rules_ordered (λ x y. refl)

same_better : (t : Table) (p : Packet) (c : Choice) (n : ℕ) → better_than (matches_at t p) (rank_at t) c n ≡ better t c n
same_better t p none n = refl
same_better t p (place b) n = refl

best_answers : (t : Table) (p : Packet) (n : ℕ) → Answers (matches_at t p) (rank_at t) n (best_below t p n)
unfolding best_below
best_answers t p zero = λ j l. absurd (omega arith)
best_answers t p (suc n) =
    by_test (matches_at t p n)
    (λ e. rw e (subst (Answers (matches_at t p) (rank_at t) (suc n)) (same_better t p (best_below t p n) n) (taken_in (matches_at t p) (rank_at t) (ordered t) n (best_below t p n) e (best_answers t p n))))
    (λ e. rw e (passed_over (matches_at t p) (rank_at t) (ordered t) n (best_below t p n) e (best_answers t p n)))

-- what is asked of an answer, and back
to_decides : (t : Table) (p : Packet) (c : Choice) → Answers (matches_at t p) (rank_at t) (rules_in t) c → Decides t p c
to_decides t p (place i) a = record { stored = a.stored; matches = a.matches; unpreceded = a.unpreceded; first = a.first }
to_decides t p none a = a

from_decides : (t : Table) (p : Packet) (c : Choice) → Decides t p c → Answers (matches_at t p) (rank_at t) (rules_in t) c
from_decides t p (place i) d = record { stored = d.stored; matches = d.matches; unpreceded = d.unpreceded; first = d.first }
from_decides t p none d = d

pub best_decides : (t : Table) (p : Packet) → Decides t p (best_below t p (rules_in t))
best_decides t p = to_decides t p (best_below t p (rules_in t)) (best_answers t p (rules_in t))

-- "and no other answer satisfies this"
pub no_other : (t : Table) (p : Packet) (c d : Choice) → Decides t p c → Decides t p d → c ≡ d
no_other t p c d a b = only_one (matches_at t p) (rank_at t) (ordered t) (rules_in t) c d (from_decides t p c a) (from_decides t p d b)

-- ---- what is accepted, and what is refused

-- the case that demand 3 speaks of
pub record Fits (t : Table) (p : Packet) : Type 0 where
  pub few : rules_in t ≤ 64
  pub fields_in_range : packet_ok p ≡ true
  pub whole : whole_rules t ≡ true
  pub formed : (i : ℕ) → i < rules_in t → formed_at t i ≡ true
  pub of_family : (i : ℕ) → i < rules_in t → family_is t p.family i ≡ true
  pub of_one : (i : ℕ) → i < rules_in t → (held_at t i).head.distinguisher ≡ (held_at t 0).head.distinguisher

-- the first place that fails a test, where all before it passed
pub record Fails (f : ℕ → Bool) (n i : ℕ) : Type 0 where
  pub below : i < n
  pub failed : f i ≡ false
  pub earlier : (j : ℕ) → j < i → f j ≡ true

abbrev Firsts : (ℕ → Bool) → ℕ → Choice → Type 0
Firsts f n (place i) = Fails f n i
Firsts f n none = (i : ℕ) → i < n → f i ≡ true

firsts_on : (f : ℕ → Bool) (n : ℕ) (c : Choice) → Firsts f n c → (b : Bool) → f n ≡ b → Firsts f (suc n) (or_else c (pick b none (place n)))
firsts_on f n (place i) h b e = record { below = let l = h.below in omega arith; failed = h.failed; earlier = h.earlier }
firsts_on f n none h true e = λ i l. ⊎_elim (λ k. h i k) (λ k. let q : n ≡ i = omega arith in subst (λ (j : ℕ). f j ≡ true) q e) (lt_or_le i n)
firsts_on f n none h false e = record { below = omega arith; failed = e; earlier = h }

firsts : (f : ℕ → Bool) (n : ℕ) → Firsts f n (first_failing f n)
unfolding first_failing
firsts f zero = λ i l. absurd (omega arith)
firsts f (suc n) = firsts_on f n (first_failing f n) (firsts f n) (f n) refl

all_true : (f : ℕ → Bool) (n : ℕ) → ((i : ℕ) → i < n → f i ≡ true) → all_below f n ≡ true
unfolding all_below
all_true f zero h = refl
all_true f (suc n) h = rw (all_true f n (λ i l. h i (omega arith)), h n (omega arith)) refl

none_fails : (f : ℕ → Bool) (n : ℕ) (c : Choice) → Firsts f n c → ((i : ℕ) → i < n → f i ≡ true) → c ≡ none
none_fails f n (place i) a h = absurd (true≢false (sym (h i a.below) ∙ a.failed))
none_fails f n none a h = refl

pub no_first : (f : ℕ → Bool) (n : ℕ) → ((i : ℕ) → i < n → f i ≡ true) → first_failing f n ≡ none
no_first f n h = none_fails f n (first_failing f n) (firsts f n) h

-- the test of a distinguisher is that it is the same
alike : (t : Table) (i : ℕ) → (held_at t i).head.distinguisher ≡ (held_at t 0).head.distinguisher → like_first t i ≡ true
alike t i e = ap (λ (d : Option ℕ). same_distinguisher d (held_at t 0).head.distinguisher) e ∙ same_self (held_at t 0).head.distinguisher

-- it accepts where the case is demand 3's
pub accepts_where : (t : Table) (p : Packet) → Fits t p → chosen_in t p ≡ accepts (best_below t p (rules_in t))
unfolding chosen_in
accepts_where t p h =
    rw (
      le-ltb 64 (rules_in t) h.few,
      h.fields_in_range,
      h.whole,
      all_true (formed_at t) (rules_in t) h.formed,
      no_first (family_is t p.family) (rules_in t) h.of_family,
      no_first (like_first t) (rules_in t) (λ i l. alike t i (h.of_one i l)),
    ) refl

-- and nowhere else; what it then answers decides
pub record Stands (t : Table) (p : Packet) (c : Choice) : Type 0 where
  pub fits : Fits t p
  pub decides : Decides t p c

by_places : (t : Table) (p : Packet) (c d o : Choice) → Firsts (family_is t p.family) (rules_in t) d → Firsts (like_first t) (rules_in t) o
    → unless_place 14 d (unless_place 20 o (accepts (best_below t p (rules_in t)))) ≡ accepts c → rules_in t ≤ 64 → packet_ok p ≡ true
    → (whole_rules t && all_below (formed_at t) (rules_in t)) ≡ true → Stands t p c
by_places t p c (place i) o a b e few ok whole = never e
by_places t p c none (place i) a b e few ok whole = never e
by_places t p c none none a b e few ok whole =
    let w = both (whole_rules t) (all_below (formed_at t) (rules_in t)) whole in
    record {
      fits =
          record {
            few = few;
            fields_in_range = ok;
            whole = w.0;
            formed = all_below_lem (formed_at t) (rules_in t) w.1;
            of_family = a;
            of_one = λ i l. same_is (held_at t i).head.distinguisher (held_at t 0).head.distinguisher (b i l);
          };
      decides = subst (Decides t p) (same_accepted e) (best_decides t p);
    }

pub accepts_exactly : (t : Table) (p : Packet) (c : Choice) → chosen_in t p ≡ accepts c → Stands t p c
unfolding chosen_in
accepts_exactly t p c e =
    by_test (ltb 64 (rules_in t))
    (λ x. never (rw x at e))
    (λ x. by_test (packet_ok p)
    (λ y. by_test (whole_rules t && all_below (formed_at t) (rules_in t))
    (λ z.
    by_places t p c (first_failing (family_is t p.family) (rules_in t)) (first_failing (like_first t) (rules_in t)) (firsts (family_is t p.family) (rules_in t)) (firsts (like_first t) (rules_in t))
    (rw (x, y, z) at e) (ltb-false 64 (rules_in t) x) y z)
    (λ z. never (rw (x, y, z) at e)))
    (λ y. never (rw (x, y) at e)))

pub decides : (t : Table) (p : Packet) (c : Choice) → chosen_in t p ≡ accepts c → Decides t p c
decides t p c e = (accepts_exactly t p c e).decides

-- "'no rule' is said exactly when none matches"
pub none_exactly : (t : Table) (p : Packet) → Fits t p
    → (chosen_in t p ≡ accepts none → (j : ℕ) → j < rules_in t → matches_at t p j ≡ false)
    × (((j : ℕ) → j < rules_in t → matches_at t p j ≡ false) → chosen_in t p ≡ accepts none)
none_exactly t p h =
    (λ e. decides t p none e, λ n. accepts_where t p h ∙ ap accepts (no_other t p (best_below t p (rules_in t)) none (best_decides t p) n))

decided' : (t : Table) (p : Packet) (a : Answer Choice) → chosen_in t p ≡ a → Decided t p a
decided' t p (accepts c) e = decides t p c e
decided' t p (declines f) e = tt

pub decided : (t : Table) (p : Packet) (a : Answer Choice) → a ≡ chosen_in t p → Decided t p a
decided t p a e = decided' t p a (sym e)

-- "Choosing: 12, 13, 10, 14, 20", each where none before it holds
pub refuses_many : (t : Table) (p : Packet) → 64 < rules_in t → chosen_in t p ≡ refuses 12 (rules_in t ∷ [])
unfolding chosen_in
refuses_many t p h = rw (lt-ltb 64 (rules_in t) h) refl

pub refuses_packet : (t : Table) (p : Packet) → rules_in t ≤ 64 → packet_ok p ≡ false → chosen_in t p ≡ refuses 13 []
unfolding chosen_in
refuses_packet t p h e = rw (le-ltb 64 (rules_in t) h, e) refl

pub refuses_words : (t : Table) (p : Packet) → rules_in t ≤ 64 → packet_ok p ≡ true → whole_rules t ≡ false → chosen_in t p ≡ refuses 10 []
unfolding chosen_in
refuses_words t p h e w = rw (le-ltb 64 (rules_in t) h, e, w) refl

pub refuses_rule_lem : (t : Table) (p : Packet) → rules_in t ≤ 64 → packet_ok p ≡ true → whole_rules t ≡ true → (i : ℕ) → i < rules_in t → formed_at t i ≡ false → chosen_in t p ≡ refuses 10 []
unfolding chosen_in
refuses_rule_lem t p h e w i l f = rw (le-ltb 64 (rules_in t) h, e, w, all_not (formed_at t) (rules_in t) i l f) refl

first_is : (f : ℕ → Bool) (n i : ℕ) (c : Choice) → Firsts f n c → Fails f n i → c ≡ place i
first_is f n i none a h = absurd (true≢false (sym (a i h.below) ∙ h.failed))
first_is f n i (place j) a h =
    ap place
    (⊎_elim
    (λ l. absurd (true≢false (sym (h.earlier j l) ∙ a.failed)))
    (λ l. ⊎_elim (λ k. absurd (true≢false (sym (a.earlier i k) ∙ h.failed))) (λ k. omega arith) (lt_or_le i j))
    (lt_or_le j i))

pub the_first : (f : ℕ → Bool) (n i : ℕ) → Fails f n i → first_failing f n ≡ place i
the_first f n i h = first_is f n i (first_failing f n) (firsts f n) h

pub refuses_family : (t : Table) (p : Packet) → rules_in t ≤ 64 → packet_ok p ≡ true → whole_rules t ≡ true → ((i : ℕ) → i < rules_in t → formed_at t i ≡ true)
    → (i : ℕ) → Fails (family_is t p.family) (rules_in t) i → chosen_in t p ≡ refuses 14 (i ∷ [])
unfolding chosen_in
refuses_family t p h e w g i f =
    rw (le-ltb 64 (rules_in t) h, e, w, all_true (formed_at t) (rules_in t) g, the_first (family_is t p.family) (rules_in t) i f) refl

pub refuses_distinguisher : (t : Table) (p : Packet) → rules_in t ≤ 64 → packet_ok p ≡ true → whole_rules t ≡ true → ((i : ℕ) → i < rules_in t → formed_at t i ≡ true)
    → ((i : ℕ) → i < rules_in t → family_is t p.family i ≡ true) → (i : ℕ) → Fails (like_first t) (rules_in t) i → chosen_in t p ≡ refuses 20 (i ∷ [])
unfolding chosen_in
refuses_distinguisher t p h e w g m i f =
    rw (le-ltb 64 (rules_in t) h, e, w, all_true (formed_at t) (rules_in t) g, no_first (family_is t p.family) (rules_in t) m, the_first (like_first t) (rules_in t) i f) refl
