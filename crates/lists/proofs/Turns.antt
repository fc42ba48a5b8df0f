-- The turns of the fill, over plain lists: one operator stored is one fewer to store. The first octet is stored again as the reading records
-- it.
use Prim.Native.Nat.{ℕ, suc, ◌+◌, ◌-◌, ◌≤◌, ◌<◌}
use mathlib.Core.Path.{◌≡◌, refl, sym, ◌∙◌, ap, ap₂}
use mathlib.Core.Bool.{true, false, false≢true}
use mathlib.Core.List.{List, [], ◌∷◌, ◌++◌, map}
use borrow.Author.Tests.{lt-leb}
use native.Mathlib.Omega.{arith}
use native.Mathlib.Decide.{dec_lt}
use lib.ListN.{length, get_or, take, drop, set, length-set, length-drop, drop_of_length-le}
use lib.Seq.{sets, set-set, get_or-set_same, get_or-set_other}
use borrow.Rule.Slice.PartMut.{put_mid}
use Rattle.std.proofs.lemmas.List.{length-take-le, nil_from_length, drop-drop, append-nil, append_assoc, length-map}
use Rattle.std.proofs.lemmas.List.Edits.{sets-eq}
use Rattle.std.proofs.lemmas.Slice.{between_to_end}
use Rattle.ground.proofs.Overlays.{set_before}
use Rattle.ground.specs.Answers.{Answer, accepts, declines}
use Rattle.ground.proofs.Cases.{by_cases}
use Rattle.octets.specs.Widths.{code_in, width_of}
use Rattle.octets.specs.Spell.{value_of}
use Rattle.choices.specs.declared.Reading.{Reading}
use Rattle.operators.specs.declared.Kind.{Kind}
use Rattle.choices.specs.Choices.{refused_in, first_in}
use Rattle.operators.specs.Ops.{kind_of, cleared_in, Op, op, octet_of, number_of}
use Rattle.lists.specs.declared.Tally.{Tally}
use Rattle.lists.specs.Lists.{tally, operator_at, list_at, is_accepted, Accepted, ops_at, cleared_op, recorded_ops}
use Rattle.lists.specs.Runs.{lone, Places, marked, ends, left, Filling, Filled, Stored}
use Rattle.lists.proofs.Operators.{taken}
use Rattle.lists.proofs.Equations.{list_stops, with_tally, ops_missing, ops_last, ops_more}
use Rattle.lists.proofs.Chains.{list_whole, list_counts}
use Rattle.lists.proofs.Records.{length_cleared, recorded_numbers, numbers_cleared}
use Rattle.lists.proofs.Runs.{lone_is, lone_done}

-- where the list that is left is whole, so is the operator there
pub whole_in : (s : List ℕ) (at : ℕ) → marked (ops_at s at) ≡ true → at + width_of (get_or s at 0) < length s
whole_in s at d =
    by_cases (dec_lt (at + width_of (get_or s at 0)) (length s)) (λ h. h)
    (λ h.
    let z : false ≡ true = sym (ap marked (ops_missing s at (omega (arith, h)))) ∙ d in
    absurd (let y : ◌≡◌ {A = ℕ} 0 1 = cc in omega arith))

pub filled_first : {k : Kind} {s vs os : List ℕ} {at n : ℕ} → Filling s at n (length vs) (length os) → at ≤ length s → Filled k s vs os at n vs os at n
filled_first h l =
    record { filling = h; list = refl; values = refl; octets = refl; long_values = refl; long_octets = refl; on = omega arith; within = l }

-- two fills one after the other
pub filled_on : {k : Kind} {s vs₀ os₀ vs₁ os₁ vs os : List ℕ} {at₀ n₀ at₁ n₁ at n : ℕ}
    → Filled k s vs₀ os₀ at₀ n₀ vs₁ os₁ at₁ n₁ → Filled k s vs₁ os₁ at₁ n₁ vs os at n → Filled k s vs₀ os₀ at₀ n₀ vs os at n
filled_on a b =
    let o = a.on in
    let p = b.on in
    record {
      filling = b.filling;
      list = a.list ∙ b.list;
      values = a.values ∙ b.values;
      octets = a.octets ∙ b.octets;
      long_values = b.long_values ∙ a.long_values;
      long_octets = b.long_octets ∙ a.long_octets;
      on = omega arith;
      within = b.within;
    }

-- and one to the list's end
pub stored_on : {k : Kind} {s vs₀ os₀ vs₁ os₁ vs os : List ℕ} {at₀ n₀ at₁ n₁ : ℕ} {l : Tally}
    → Filled k s vs₀ os₀ at₀ n₀ vs₁ os₁ at₁ n₁ → Stored k s vs₁ os₁ at₁ n₁ vs os l → Stored k s vs₀ os₀ at₀ n₀ vs os l
stored_on a b =
    record {
      list = b.list ∙ sym a.list;
      values = b.values ∙ sym a.values;
      octets = b.octets ∙ sym a.octets;
    }

-- a run that stops at another code has gone on from one of its own
pub moved : (s : List ℕ) {at i code : ℕ} → at ≤ i → code ≡ code_in (get_or s at 0) → (code ≡ code_in (get_or s i 0) → ⊥) → at < i
moved s {at} {i} h e f =
    by_cases (dec_lt at i) (λ l. l)
    (λ l. let z : at ≡ i = omega (arith, l) in absurd (f (e ∙ ap (λ (j : ℕ). code_in (get_or s j 0)) z)))

stored : (f : Op → ℕ) (l : List ℕ) (n : ℕ) {all more : List Op} {o : Op} → all ≡ o ∷ more → sets l n (map f all) ≡ sets (set l n (f o)) (n + 1) (map f more)
stored f l n {more = more} {o = o} e =
    let i : suc n ≡ n + 1 = omega arith in
    rw e (ap (λ (j : ℕ). sets (set l n (f o)) j (map f more)) i)

-- the operator at a place of a list that is whole from there on
module _ (s : List ℕ) (at : ℕ) (whole : marked (ops_at s at) ≡ true)
    {w v : ℕ} (is-w : w ≡ width_of (get_or s at 0)) (is-v : v ≡ value_of (take (width_of (get_or s at 0)) (drop (at + 1) s))) where
  next : at + 1 + w ≡ at + (w + 1)
  next = omega arith

  last_op : 128 ≤ get_or s at 0 → ops_at s at ≡ op (get_or s at 0) v ∷ []
  last_op l = ops_last s at (whole_in s at whole) l ∙ rw is-v

  more_ops : get_or s at 0 < 128 → ops_at s at ≡ op (get_or s at 0) v ∷ ops_at s (at + (w + 1))
  more_ops l = ops_more s at (whole_in s at whole) l ∙ rw (is-v, ← next, is-w)

  more_whole : get_or s at 0 < 128 → marked (ops_at s (at + (w + 1))) ≡ true
  more_whole l = sym (ap marked (more_ops l) ∙ rw (lt-leb _ _ l)) ∙ whole

  more_ends : (n : ℕ) → get_or s at 0 < 128 → ends s at n ≡ ends s (at + (w + 1)) (n + 1)
  unfolding ends
  more_ends n l =
      let os = ops_at s (at + (w + 1)) in
      rw (more_ops l)
      (ap₂ tally (omega arith) (omega arith))

  last_ends : (n : ℕ) → 128 ≤ get_or s at 0 → ends s at n ≡ tally (n + 1) (at + (w + 1))
  unfolding ends
  last_ends n l = rw (last_op l) (ap₂ tally (omega arith) (omega arith))

-- there is one at least
some_op : (s : List ℕ) (at : ℕ) → marked (ops_at s at) ≡ true → 1 ≤ length (ops_at s at)
some_op s at whole =
    let h = whole_in s at whole in
    by_cases (dec_lt (get_or s at 0) 128)
    (λ l. let z = ap length (ops_more s at h l) in omega arith)
    (λ l. let z = ap length (ops_last s at h (omega (arith, l))) in omega arith)

module _ {k : Kind} {s : List ℕ} {vs₀ os₀ : List ℕ} {at₀ n₀ : ℕ} {vs os : List ℕ} {at n : ℕ} (h : Filled k s vs₀ os₀ at₀ n₀ vs os at n) where
  module _ {w v : ℕ} (is-w : w ≡ width_of (get_or s at 0)) (is-v : v ≡ value_of (take (width_of (get_or s at 0)) (drop (at + 1) s))) where
    pub more : get_or s at 0 < 128 → Filled k s vs₀ os₀ at₀ n₀ (set vs n v) (set os n (cleared_in k (get_or s at 0))) (at + (w + 1)) (n + 1)
    unfolding left
    more l =
        let f = h.filling in
        let b = whole_in s at f.whole in
        let p = f.place in
        let g = h.on in
        let m = more_ops s at f.whole is-w is-v l in
        let q = ap (map (cleared_op k)) m in
        let z = ap length m in
        record {
          filling =
              record {
                place = omega arith;
                whole = more_whole s at f.whole is-w is-v l;
                in_values = simp length-set (omega (arith, f.in_values));
                in_octets = simp length-set (omega (arith, f.in_octets));
              };
          list = h.list ∙ more_ends s at f.whole is-w is-v n l;
          values = h.values ∙ stored number_of vs n q;
          octets = h.octets ∙ stored octet_of os n q;
          long_values = simp length-set h.long_values;
          long_octets = simp length-set h.long_octets;
          on = omega arith;
          within = omega arith;
        }

    pub last : 128 ≤ get_or s at 0 → Stored k s vs₀ os₀ at₀ n₀ (set vs n v) (set os n (cleared_in k (get_or s at 0))) (tally (n + 1) (at + (w + 1)))
    unfolding left
    last l =
        let f = h.filling in
        let q = ap (map (cleared_op k)) (last_op s at f.whole is-w is-v l) in
        record {
          list = sym (h.list ∙ last_ends s at f.whole is-w is-v n l);
          values = sym (h.values ∙ stored number_of vs n q);
          octets = sym (h.octets ∙ stored octet_of os n q);
        }

  pub room : (n < length vs) × (n < length os)
  room =
      let f = h.filling in
      let z = some_op s at f.whole in
      (omega (arith, f.in_values), omega (arith, f.in_octets))

-- what stands at a place before an overlay
get_before : (l xs : List ℕ) (i j : ℕ) → j < i → get_or (sets l i xs) j 0 ≡ get_or l j 0
get_before l [] i j h = refl
get_before l (x ∷ xs) i j h = get_before (set l i x) xs (suc i) j (omega arith) ∙ get_or-set_other l i j x 0 (λ e. omega arith)

-- the first of an overlay stored again
set_first : (f : ℕ → ℕ) (l xs : List ℕ) (i x : ℕ) → i < length l → set (sets l i (x ∷ xs)) i (f (get_or (sets l i (x ∷ xs)) i 0)) ≡ sets l i (f x ∷ xs)
set_first f l xs i x h =
    let g : get_or (sets l i (x ∷ xs)) i 0 ≡ x = get_before (set l i x) xs (suc i) i (omega arith) ∙ get_or-set_same l i x 0 h in
    rw g (set_before (set l i x) xs (suc i) i (f x) (omega arith) ∙ ap (λ (m : List ℕ). sets m (suc i) xs) (set-set l i x (f x)))

first_again : (r : Reading) (t : ℕ) (ops : List Op) → 1 ≤ length ops → (l : List ℕ) (i : ℕ) → i < length l
    → let m = sets l i (map octet_of (map (cleared_op (kind_of t)) ops)) in set m i (first_in r (get_or m i 0)) ≡ sets l i (map octet_of (recorded_ops r t ops))
unfolding recorded_ops
first_again r t [] some l i h = absurd (omega arith)
first_again r t (o ∷ ops) some l i h = set_first (first_in r) l (map octet_of (map (cleared_op (kind_of t)) ops)) i (cleared_in (kind_of t) o.octet) h

-- a part from a place on, and the whole with another part there: an overlay of the part is one of the whole
abbrev part : ℕ → List ℕ → List ℕ
part i l = take (length l - i) (drop i l)

abbrev whole : ℕ → List ℕ → List ℕ → List ℕ
whole i l m = put_mid i (length l - i) l m

length_part : (i : ℕ) (l : List ℕ) → length (part i l) ≡ length l - i
length_part i l = length-take-le (length l - i) (drop i l) (omega (arith, length-drop i l))

sets_part : (i : ℕ) (l xs : List ℕ) → i + length xs ≤ length l → whole i l (sets (part i l) 0 xs) ≡ sets l i xs
sets_part i l xs h =
    let d = length-drop i l in
    let t : part i l ≡ drop i l = between_to_end l i (length l) (omega arith) in
    let z : drop (length l - i) (drop i l) ≡ [] = drop_of_length-le (drop i l) (omega arith) in
    let f : take 0 (drop i l) ≡ [] = nil_from_length (take 0 (drop i l)) (length-take-le 0 (drop i l) (omega arith)) in
    let n : i + (0 + length xs) ≡ i + length xs = omega arith in
    let b : drop (0 + length xs) (drop i l) ≡ drop (i + length xs) l = drop-drop (0 + length xs) i l ∙ ap (λ (j : ℕ). drop j l) n in
    let e : sets (part i l) 0 xs ≡ xs ++ drop (i + length xs) l = rw t (sets-eq xs (drop i l) 0 (omega arith) ∙ ap₂ (λ a c. a ++ xs ++ c) f b) in
    ap (λ (m : List ℕ). take i l ++ m) (ap (λ (m : List ℕ). sets (part i l) 0 xs ++ m) z ∙ append-nil (sets (part i l) 0 xs) ∙ e)
    ∙ sym (sets-eq xs l i h ∙ append_assoc (take i l) xs (drop (i + length xs) l))

-- an accepted list, from its first operator on
module _ (r : Reading) (t : ℕ) (s : List ℕ) (at : ℕ) (accepted : Accepted r t s at) where
  pub whole_first : marked (ops_at s at) ≡ true
  whole_first = with_tally (list_at r t s at) accepted (λ l e. (list_whole r t s at e).mark)

  kept_by : (a : Answer Op) → operator_at r t s at ≡ a → refused_in r (kind_of t) (get_or s at 0) ≡ false
  kept_by (accepts o) e = (taken r t s at e).kept
  kept_by (declines f) e = absurd (false≢true (sym (ap is_accepted (list_stops r t s at e)) ∙ accepted))

  pub kept_first : refused_in r (kind_of t) (get_or s at 0) ≡ false
  kept_first = kept_by (operator_at r t s at) refl

  same_end : list_at r t s at ≡ accepts (ends s at 0)
  unfolding ends
  same_end =
      with_tally (list_at r t s at) accepted
      (λ l e.
      let c = list_counts r t s at e in
      let z = (list_whole r t s at e).size in
      e ∙ ap accepts (ap₂ tally (omega arith) (omega arith)))

  module _ (start : ℕ) (vs os : List ℕ) (room₀ : Places start (length (ops_at s at)) (length vs) (length os)) where
    pub room_first : (start < length vs) × (start < length os)
    room_first =
        let z = some_op s at whole_first in
        (omega (arith, room₀.in_values), omega (arith, room₀.in_octets))

    -- an operator alone is stored as it is recorded
    pub lone_stored : lone (get_or s at 0) ≡ true → {v y : ℕ} → v ≡ value_of (take 1 (drop (at + 1) s)) → y ≡ first_in r (cleared_in (kind_of t) (get_or s at 0))
        → (set vs start v ≡ sets vs start (map number_of (recorded_ops r t (ops_at s at))))
        × ((set os start y ≡ sets os start (map octet_of (recorded_ops r t (ops_at s at))))
        × (list_at r t s at ≡ accepts (tally 1 (at + 2))))
    unfolding recorded_ops
    lone_stored l {v} {y} is-v is_y =
        let f = lone_is (get_or s at 0) l in
        let e = last_op s at whole_first f.1 (is-v ∙ ap (λ (w : ℕ). value_of (take w (drop (at + 1) s))) f.1) f.0 in
        (rw e, (rw (e, is_y), lone_done r t s at (omega (arith, whole_in s at whole_first, f.1)) l kept_first))

    -- a list that is stored to its end in the parts from start on, with the first octet stored again
    pub filling_first : Filling s at 0 (length (part start vs)) (length (part start os))
    filling_first =
        record {
          place = omega arith;
          whole = whole_first;
          in_values = omega (arith, room₀.in_values, length_part start vs);
          in_octets = omega (arith, room₀.in_octets, length_part start os);
        }

    pub all_stored : {k : Kind} → k ≡ kind_of t → {vs' os' : List ℕ} {l : Tally} {y : ℕ}
        → Stored k s (part start vs) (part start os) at 0 vs' os' l → y ≡ first_in r (get_or (whole start os os') start 0)
        → (whole start vs vs' ≡ sets vs start (map number_of (recorded_ops r t (ops_at s at))))
        × ((set (whole start os os') start y ≡ sets os start (map octet_of (recorded_ops r t (ops_at s at)))) × (list_at r t s at ≡ accepts l))
    unfolding left
    all_stored is-k {vs'} {os'} h is_y =
        let ops = map (cleared_op (kind_of t)) (ops_at s at) in
        let n = length_cleared (kind_of t) (ops_at s at) in
        let v : whole start vs vs' ≡ sets vs start (map number_of ops) =
        ap (whole start vs) (h.values ∙ rw is-k) ∙ sets_part start vs (map number_of ops) (omega (arith, length-map ops number_of, n, room₀.in_values)) in
        let o : whole start os os' ≡ sets os start (map octet_of ops) =
        ap (whole start os) (h.octets ∙ rw is-k) ∙ sets_part start os (map octet_of ops) (omega (arith, length-map ops octet_of, n, room₀.in_octets)) in (
          v ∙ ap (λ (ns : List ℕ). sets vs start ns) (numbers_cleared (kind_of t) (ops_at s at) ∙ sym (recorded_numbers r t (ops_at s at))),
          (rw (is_y, o) (first_again r t (ops_at s at) (some_op s at whole_first) os start room_first.1), same_end ∙ ap accepts (sym h.list)),
        )
