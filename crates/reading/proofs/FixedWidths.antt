-- The widths that the standard fixes: document 01, "The standard reading". The plain reading never gives 6. A standard one gives it at an operator
-- octet in a list of TCP flags, DSCP or fragments alone (`six_by_type`). And fixing the widths took away and changed nothing else: what a standard
-- reading accepts, it accepts with all four codes for every type too, and what it refuses by another number it refuses alike
-- (`accepted_before`, `refused_before`). For that `read_by` is the reading with the table of widths as an argument: by the table of the readings it is
-- the reading (`by_own_table`), and with all four codes for every type no width is looked at (`all_codes`).
use Prim.Native.Nat.{ℕ, zero, suc, ◌+◌, ◌-◌, ◌≤◌}
use mathlib.Core.Path.{◌≡◌, refl, sym, ◌∙◌, ap, subst}
use mathlib.Core.Bool.{Bool, true, false}
use mathlib.Core.List.{List, [], ◌∷◌}
use native.Mathlib.Omega.{arith}
use borrow.Author.Tests.{lt-leb, leb-false}
use lib.Dec.{leb, ltb}
use lib.ListN.{length, get_or}
use Rattle.ground.specs.Answers.{at_octet, Refused, refused, moved_by, Answer, accepts, refuses, refuses_at, answer_by, declines}
use Rattle.ground.specs.Picks.{pick}
use Rattle.ground.proofs.Answers.{never, same_refusal}
use Rattle.ground.proofs.Cases.{by_test}
use Rattle.octets.specs.declared.Length.{Length}
use Rattle.octets.specs.Widths.{code_in}
use Rattle.octets.specs.Lengths.{length_at}
use Rattle.choices.specs.declared.Reading.{Reading}
use Rattle.choices.specs.declared.Reading.TheVariants.{Plain}
use Rattle.choices.specs.Choices.{bound_of, front_of, last_type, codes_in, family_of, standard_of}
use Rattle.choices.proofs.WidthTable.{codes_most}
use Rattle.operators.specs.Ops.{Op}
use Rattle.lists.specs.declared.Tally.{Tally}
use Rattle.lists.specs.Lists.{tally, plus, after_op, lacks_octet, value_at, operator_at, turn, list_from, list_at, ops_at, recorded_ops}
use Rattle.prefixes.specs.Prefixes.{prefix_at}
use Rattle.walk.specs.Walks.{FoundAt, prefix_found, list_found, typed_at, component_at, Body, body, joined, turn as turnWalk, walk_from, walk_at}
use Rattle.reading.specs.Readings.{ReadRule, ruled, part, front_at, stated_at, after_length, too_long, read_at, roomed, read_into, standard_into}
use Rattle.reading.proofs.Laws.{read_meets, read_meets_lem}
use Rattle.walk.proofs.Refusals.{Widened}

-- ---- which reading gives 6, and where

-- "InvalidValueLength (standard only)"
no_six : (rd : Bool) → read_meets Plain rd 6 ≡ true → ⊥
no_six rd e = let z : ◌≡◌ {A = ℕ} 0 1 = cc in omega arith

pub plain_never_six : (rd : Bool) (s : List ℕ) (w v o : ℕ) (f : Refused) → read_into Plain rd s w v o ≡ declines f → f.number ≡ 6 → ⊥
plain_never_six rd s w v o f e n = no_six rd (rw n at (read_meets_lem Plain rd s w v o e).number)

-- a reading gives 6 at an operator octet in a list of the types 9, 11 and 12 alone, and carries that octet's code
pub six_by_type : (r : Reading) (rd : Bool) (s : List ℕ) (w v o : ℕ) (f : Refused) → read_into r rd s w v o ≡ declines f → f.number ≡ 6 → Widened r s f
six_by_type r rd s w v o f e n = (read_meets_lem r rd s w v o e).six n

pub standard_six_by_type : (family : ℕ) (rd : Bool) (s : List ℕ) (w v o : ℕ) (f : Refused) → standard_into family rd s w v o ≡ declines f → f.number ≡ 6
    → ((r : Reading) → accepts r ≡ standard_of family → Widened r s f)
unfolding standard_into
standard_six_by_type family rd s w v o f e n r i = six_by_type r rd s w v o f (rw (← i) at e) n

-- ---- the reading by a table, which gives a bound on the codes for each type

abbrev pub operator_by : (ℕ → ℕ) → Reading → ℕ → List ℕ → ℕ → Answer Op
operator_by codes r t s at =
    pick (lacks_octet s at) (refuses_at 1 [] (length s))
    (pick (leb (codes t) (code_in (get_or s at 0))) (refuses_at 6 (code_in (get_or s at 0) ∷ []) at) (value_at r t s at))

unfoldable pub list_from_by : (ℕ → ℕ) → Reading → ℕ → ℕ → List ℕ → ℕ → Answer Tally
list_from_by codes r t zero s at = refuses_at 1 [] (length s)
list_from_by codes r t (suc k) s at = turn at (operator_by codes r t s at) (list_from_by codes r t k s)

abbrev pub typed_by : (ℕ → ℕ) → Reading → ℕ → List ℕ → ℕ → ℕ → Answer FoundAt
typed_by codes r t s at start =
    pick (leb t 2) (prefix_found t (prefix_at r s at)) (list_found t start (recorded_ops r t (ops_at s at)) (list_from_by codes r t (length s) s at))

abbrev pub component_by : (ℕ → ℕ) → Reading → List ℕ → ℕ → ℕ → ℕ → Answer FoundAt
component_by codes r s at previous start =
    pick (leb (length s) at) (refuses_at 1 [] (length s))
    (pick (leb (get_or s at 0) previous) (refuses_at 2 (previous ∷ get_or s at 0 ∷ []) at)
    (pick (ltb (last_type r) (get_or s at 0)) (refuses_at 3 (get_or s at 0 ∷ []) at) (typed_by codes r (get_or s at 0) s (at + 1) start)))

unfoldable pub walk_from_by : (ℕ → ℕ) → ℕ → Reading → List ℕ → ℕ → ℕ → ℕ → ℕ → Answer Body
walk_from_by codes zero r s stop at previous start = refuses_at 1 [] (length s)
walk_from_by codes (suc k) r s stop at previous start =
    pick (leb stop at) (accepts (body [] [])) (turnWalk (get_or s at 0) start (component_by codes r s at previous start) (walk_from_by codes k r s stop))

abbrev pub stated_by : (ℕ → ℕ) → Reading → Bool → List ℕ → ℕ → ℕ → Answer ReadRule
stated_by codes r rd s start size =
    pick (ltb (length s) (start + size)) (refuses_at 1 [] (length s))
    (pick (ltb size (front_of r rd)) (refuses_at 19 [] (start + size))
    (ruled (family_of r) (front_at (front_of r rd) s start) (start + size)
    (answer_by (start + front_of r rd) (walk_from_by codes 14 r (part s (start + front_of r rd) (bound_of r (length s) (start + size))) (size - front_of r rd) 0 0 0))))

abbrev pub after_length_by : (ℕ → ℕ) → Reading → Bool → List ℕ → Answer Length → Answer ReadRule
after_length_by codes r rd s (accepts l) = stated_by codes r rd s l.next.at l.size
after_length_by codes r rd s (declines f) = declines f

unfoldable pub read_by : (ℕ → ℕ) → Reading → Bool → List ℕ → ℕ → ℕ → ℕ → Answer ReadRule
read_by codes r rd s words values octets =
    roomed (pick (too_long r (length s)) (refuses 8 (length s ∷ [])) (after_length_by codes r rd s (length_at s 0))) words values octets

-- ---- two answers of which the first is the second, or refuses by 6

pub data Within {A : Type 0} (a b : Answer A) : Type 0 where
  same : a ≡ b → Within a b
  six : (f : Refused) → a ≡ declines f → f.number ≡ 6 → Within a b

-- what passes a refusal on, by its number
within_by : {A B : Type 0} (g : Answer A → Answer B) (h : Refused → Refused) → ((f : Refused) → g (declines f) ≡ declines (h f)) → ((f : Refused) → (h f).number ≡ f.number)
    → {a b : Answer A} → Within a b → Within (g a) (g b)
within_by g h p n (same e) = same (ap g e)
within_by g h p n (six f e i) = six (h f) (ap g e ∙ p f) (n f ∙ i)

within_pick : {A : Type 0} (t : Bool) (x : Answer A) {a b : Answer A} → Within a b → Within (pick t x a) (pick t x b)
within_pick true x w = same refl
within_pick false x w = w

module _ (c d : ℕ → ℕ) (wider : (t : ℕ) → c t ≤ d t) (r : Reading) where
  within_operator : (t : ℕ) (s : List ℕ) (at : ℕ) → Within (operator_by c r t s at) (operator_by d r t s at)
  within_operator t s at = within_pick (lacks_octet s at) (refuses_at 1 [] (length s)) by_width
    where
      by_width : Within (pick (leb (c t) (code_in (get_or s at 0))) (refuses_at 6 (code_in (get_or s at 0) ∷ []) at) (value_at r t s at))
          (pick (leb (d t) (code_in (get_or s at 0))) (refuses_at 6 (code_in (get_or s at 0) ∷ []) at) (value_at r t s at))
      by_width =
          by_test (leb (c t) (code_in (get_or s at 0)))
          (λ e. six (refused 6 (code_in (get_or s at 0) ∷ []) (at_octet at)) (rw e) refl)
          (λ e. same (rw (e, lt-leb (d t) (code_in (get_or s at 0)) (omega (arith, leb-false (c t) (code_in (get_or s at 0)) e, wider t)))))

  within_turn : (at : ℕ) {a b : Answer Op} {go on : ℕ → Answer Tally} → Within a b → ((x : ℕ) → Within (go x) (on x)) → Within (turn at a go) (turn at b on)
  within_turn at {a} {b} {go} {on} (same e) w = subst (λ (x : Answer Op). Within (turn at a go) (turn at x on)) e (by_answer a)
    where
      by_answer : (x : Answer Op) → Within (turn at x go) (turn at x on)
      by_answer (accepts o) = within_pick (leb 128 o.octet) (accepts (tally 1 (after_op at o))) (within_by (plus 1) (λ f. f) (λ f. refl) (λ f. refl) (w (after_op at o)))
      by_answer (declines f) = same refl
  within_turn at {go = go} (six f e n) w = six f (ap (λ (x : Answer Op). turn at x go) e) n

  within_list : (t k : ℕ) (s : List ℕ) (at : ℕ) → Within (list_from_by c r t k s at) (list_from_by d r t k s at)
  unfolding list_from_by
  within_list t zero s at = same refl
  within_list t (suc k) s at = within_turn at (within_operator t s at) (within_list t k s)

  within_component : (s : List ℕ) (at previous start : ℕ) → Within (component_by c r s at previous start) (component_by d r s at previous start)
  within_component s at previous start =
      let t = get_or s at 0 in
      within_pick (leb (length s) at) (refuses_at 1 [] (length s))
      (within_pick (leb t previous) (refuses_at 2 (previous ∷ t ∷ []) at)
      (within_pick (ltb (last_type r) t) (refuses_at 3 (t ∷ []) at)
      (within_pick (leb t 2) (prefix_found t (prefix_at r s (at + 1)))
      (within_by (list_found t start (recorded_ops r t (ops_at s (at + 1)))) (λ f. f) (λ f. refl) (λ f. refl) (within_list t (length s) s (at + 1))))))

  within_found : (t start : ℕ) {a b : Answer FoundAt} {go on : ℕ → ℕ → ℕ → Answer Body} → Within a b → ((x y z : ℕ) → Within (go x y z) (on x y z))
      → Within (turnWalk t start a go) (turnWalk t start b on)
  within_found t start {a} {b} {go} {on} (same e) w = subst (λ (x : Answer FoundAt). Within (turnWalk t start a go) (turnWalk t start x on)) e (by_answer a)
    where
      by_answer : (x : Answer FoundAt) → Within (turnWalk t start x go) (turnWalk t start x on)
      by_answer (accepts p) = within_by (joined p) (λ f. f) (λ f. refl) (λ f. refl) (w p.next t (start + length p.operators))
      by_answer (declines f) = same refl
  within_found t start {go = go} (six f e n) w = six f (ap (λ (x : Answer FoundAt). turnWalk t start x go) e) n

  within_walk : (k : ℕ) (s : List ℕ) (stop at previous start : ℕ) → Within (walk_from_by c k r s stop at previous start) (walk_from_by d k r s stop at previous start)
  unfolding walk_from_by
  within_walk zero s stop at previous start = same refl
  within_walk (suc k) s stop at previous start =
      within_pick (leb stop at) (accepts (body [] [])) (within_found (get_or s at 0) start (within_component s at previous start) (within_walk k s stop))

  within_after : (rd : Bool) (s : List ℕ) (a : Answer Length) → Within (after_length_by c r rd s a) (after_length_by d r rd s a)
  within_after rd s (accepts l) =
      let start = l.next.at in
      let end = start + l.size in
      let front = front_of r rd in
      within_pick (ltb (length s) end) (refuses_at 1 [] (length s))
      (within_pick (ltb l.size front) (refuses_at 19 [] end)
      (within_by (λ (a : Answer Body). ruled (family_of r) (front_at front s start) end (answer_by (start + front) a)) (λ f. moved_by (start + front) f) (λ f. refl) (λ f. refl)
      (within_walk 14 (part s (start + front) (bound_of r (length s) end)) (l.size - front) 0 0 0)))
  within_after rd s (declines f) = same refl

  -- a reading by one table and by a wider one
  pub within_read : (rd : Bool) (s : List ℕ) (w v o : ℕ) → Within (read_by c r rd s w v o) (read_by d r rd s w v o)
  unfolding read_by
  within_read rd s w v o =
      within_by (λ (a : Answer ReadRule). roomed a w v o) (λ f. f) (λ f. refl) (λ f. refl)
      (within_pick (too_long r (length s)) (refuses 8 (length s ∷ [])) (within_after rd s (length_at s 0)))

-- ---- by the table of the readings it is the reading

module _ (r : Reading) where
  own_turn : (at : ℕ) (x : Answer Op) (go on : ℕ → Answer Tally) → ((i : ℕ) → go i ≡ on i) → turn at x go ≡ turn at x on
  own_turn at (accepts o) go on e = ap (λ (a : Answer Tally). pick (leb 128 o.octet) (accepts (tally 1 (after_op at o))) (plus 1 a)) (e (after_op at o))
  own_turn at (declines f) go on e = refl

  own_list : (t k : ℕ) (s : List ℕ) (at : ℕ) → list_from_by (codes_in r) r t k s at ≡ list_from r t k s at
  unfolding list_from_by list_from operator_at
  own_list t zero s at = refl
  own_list t (suc k) s at = own_turn at (operator_at r t s at) (list_from_by (codes_in r) r t k s) (list_from r t k s) (own_list t k s)

  own_component : (s : List ℕ) (at previous start : ℕ) → component_by (codes_in r) r s at previous start ≡ component_at r s at previous start
  unfolding component_at typed_at list_at
  own_component s at previous start =
      let t = get_or s at 0 in
      ap (λ (a : Answer Tally). pick (leb (length s) at) (refuses_at 1 [] (length s)) (pick (leb t previous) (refuses_at 2 (previous ∷ t ∷ []) at)
      (pick (ltb (last_type r) t) (refuses_at 3 (t ∷ []) at) (pick (leb t 2) (prefix_found t (prefix_at r s (at + 1))) (list_found t start (recorded_ops r t (ops_at s (at + 1))) a)))))
      (own_list t (length s) s (at + 1))

  own_found : (t start : ℕ) (x : Answer FoundAt) (go on : ℕ → ℕ → ℕ → Answer Body) → ((i j k : ℕ) → go i j k ≡ on i j k) → turnWalk t start x go ≡ turnWalk t start x on
  own_found t start (accepts p) go on e = ap (joined p) (e p.next t (start + length p.operators))
  own_found t start (declines f) go on e = refl

  own_walk : (k : ℕ) (s : List ℕ) (stop at previous start : ℕ) → walk_from_by (codes_in r) k r s stop at previous start ≡ walk_from k r s stop at previous start
  unfolding walk_from_by walk_from
  own_walk zero s stop at previous start = refl
  own_walk (suc k) s stop at previous start =
      ap (λ (a : Answer FoundAt). pick (leb stop at) (accepts (body [] [])) (turnWalk (get_or s at 0) start a (walk_from_by (codes_in r) k r s stop))) (own_component s at previous start)
      ∙ ap (pick (leb stop at) (accepts (body [] [])))
      (own_found (get_or s at 0) start (component_at r s at previous start) (walk_from_by (codes_in r) k r s stop) (walk_from k r s stop) (own_walk k s stop))

  own_after : (rd : Bool) (s : List ℕ) (a : Answer Length) → after_length_by (codes_in r) r rd s a ≡ after_length r rd s a
  unfolding stated_at walk_at
  own_after rd s (accepts l) =
      let start = l.next.at in
      let end = start + l.size in
      let front = front_of r rd in
      ap (λ (a : Answer Body). pick (ltb (length s) end) (refuses_at 1 [] (length s)) (pick (ltb l.size front) (refuses_at 19 [] end)
      (ruled (family_of r) (front_at front s start) end (answer_by (start + front) a))))
      (own_walk 14 (part s (start + front) (bound_of r (length s) end)) (l.size - front) 0 0 0)
  own_after rd s (declines f) = refl

  pub by_own_table : (rd : Bool) (s : List ℕ) (w v o : ℕ) → read_by (codes_in r) r rd s w v o ≡ read_into r rd s w v o
  unfolding read_by read_into read_at
  by_own_table rd s w v o =
      ap (λ (a : Answer ReadRule). roomed (pick (too_long r (length s)) (refuses 8 (length s ∷ [])) a) w v o) (own_after rd s (length_at s 0))

-- ---- and with all four codes for every type no width is looked at: so every reading was before

abbrev pub all : ℕ → ℕ
all t = 4

pub all_codes : (r : Reading) (t : ℕ) (s : List ℕ) (at : ℕ) → operator_by all r t s at ≡ pick (lacks_octet s at) (refuses_at 1 [] (length s)) (value_at r t s at)
all_codes r t s at = rw (lt-leb 4 (code_in (get_or s at 0)) (omega arith))

module _ (r : Reading) (rd : Bool) (s : List ℕ) (w v o : ℕ) where
  pub restricts : Within (read_into r rd s w v o) (read_by all r rd s w v o)
  restricts = subst (λ (a : Answer ReadRule). Within a (read_by all r rd s w v o)) (by_own_table r rd s w v o) (within_read (codes_in r) all (codes_most r) r rd s w v o)

  -- what is accepted was accepted before, as the same rule
  pub accepted_before : {rule : ReadRule} → read_into r rd s w v o ≡ accepts rule → read_by all r rd s w v o ≡ accepts rule
  accepted_before {rule} e = by_within restricts
    where
      by_within : Within (read_into r rd s w v o) (read_by all r rd s w v o) → read_by all r rd s w v o ≡ accepts rule
      by_within (same i) = sym i ∙ e
      by_within (six f i n) = never (sym i ∙ e)

  -- and what is refused by another number was refused so
  pub refused_before : {f : Refused} → read_into r rd s w v o ≡ declines f → (f.number ≡ 6 → ⊥) → read_by all r rd s w v o ≡ declines f
  refused_before {f} e h = by_within restricts
    where
      by_within : Within (read_into r rd s w v o) (read_by all r rd s w v o) → read_by all r rd s w v o ≡ declines f
      by_within (same i) = sym i ∙ e
      by_within (six g i n) = absurd (h (ap (λ (x : Refused). x.number) (same_refusal (sym e ∙ i)) ∙ n))
