-- What a reader may want to know of every reading. Which refusals it meets: 5 is the plain one's alone, 6 (`FixedWidths`) the standard ones', and 19
-- (`Distinguishers`) theirs where a distinguisher is expected. And that an accepted standard reading uses the stated length to its last octet.
use Prim.Native.Nat.{ℕ, ◌+◌, ◌-◌, ◌≤◌, ◌<◌, min}
use mathlib.Core.Path.{◌≡◌, refl, sym, ◌∙◌, ap, subst}
use mathlib.Core.Bool.{Bool, true, false, ◌||◌, ◌&&◌}
use mathlib.Core.List.{List, [], ◌∷◌}
use native.Mathlib.Omega.{arith}
use borrow.Author.Tests.{ltb-true, ltb-false}
use lib.Dec.{ltb, leb, eqb}
use lib.ListN.{length, get_or, drop, length-take, length-drop}
use lib.Seq.{get_or-take, get_or-drop}
use Rattle.std.specs.Prelude.{Option}
use Rattle.ground.specs.Answers.{nowhere, at_octet, Refused, refused, moved_by, Answer, answer_by, accepts, declines}
use Rattle.ground.proofs.Cases.{by_test}
use Rattle.octets.specs.declared.Length.{Length}
use Rattle.octets.specs.Widths.{code_in}
use Rattle.octets.specs.Lengths.{length_at}
use Rattle.choices.specs.declared.Reading.{Reading}
use Rattle.choices.specs.declared.Reading.TheVariants.{Plain, Ipv4, Ipv6}
use Rattle.choices.specs.Choices.{bound_of, front_of, family_of}
use Rattle.walk.specs.Walks.{Body, walk_at}
use Rattle.walk.proofs.Refusals.{walk_meets, Widened, Meets, Met, met_walk}
use Rattle.walk.proofs.Chains.{Chain, used_up}
use Rattle.reading.specs.Readings.{ReadRule, read_rule, ruled, part, front_at, stated_at, after_length, too_long, read_at, shorter, roomed, read_into}
use Rattle.reading.proofs.Walked.{read_walked}

-- the numbers that a reading may refuse with: the walk's, 8 in the plain reading, 9, and in the standard ones 19 where a distinguisher is expected
abbrev pub read_meets : Reading → Bool → ℕ → Bool
read_meets Plain rd n = walk_meets Plain n || (eqb n 8 || eqb n 9)
read_meets Ipv4 rd n = walk_meets Ipv4 n || (eqb n 9 || rd && eqb n 19)
read_meets Ipv6 rd n = walk_meets Ipv6 n || (eqb n 9 || rd && eqb n 19)

-- 19: the stated length fits, and the body has fewer octets than a distinguisher, at the stated end
pub record Short (r : Reading) (rd : Bool) (s : List ℕ) (f : Refused) : Type 0 where
  pub stated : Length
  pub first : length_at s 0 ≡ accepts stated
  pub within : stated.next.at + stated.size ≤ length s
  pub few : stated.size < front_of r rd
  pub is : f ≡ refused 19 [] (at_octet (stated.next.at + stated.size))

-- a refusal of the input by one of them; where it is 6 or 19, by the input's octets
pub record ReadMeets (r : Reading) (rd : Bool) (s : List ℕ) (f : Refused) : Type 0 where
  pub number : read_meets r rd f.number ≡ true
  pub six : f.number ≡ 6 → Widened r s f
  pub short : f.number ≡ 19 → Short r rd s f

or_left : (a b : Bool) → a ≡ true → (a || b) ≡ true
or_left a b e = rw e

walk_read : (r : Reading) (rd : Bool) (n : ℕ) → walk_meets r n ≡ true → read_meets r rd n ≡ true
walk_read Plain rd n e = or_left (walk_meets Plain n) _ e
walk_read Ipv4 rd n e = or_left (walk_meets Ipv4 n) _ e
walk_read Ipv6 rd n e = or_left (walk_meets Ipv6 n) _ e

nine : (r : Reading) (rd : Bool) → read_meets r rd 9 ≡ true
nine Plain rd = refl
nine Ipv4 rd = refl
nine Ipv6 rd = refl

eight : (r : Reading) (rd : Bool) (n : ℕ) → too_long r n ≡ true → read_meets r rd 8 ≡ true
eight Plain rd n e = refl
eight Ipv4 rd n e = let z : ◌≡◌ {A = ℕ} 0 1 = cc in absurd (omega arith)
eight Ipv6 rd n e = let z : ◌≡◌ {A = ℕ} 0 1 = cc in absurd (omega arith)

nineteen : (r : Reading) (rd : Bool) {n : ℕ} → n < front_of r rd → read_meets r rd 19 ≡ true
nineteen Plain rd h = absurd (omega arith)
nineteen Ipv4 true h = refl
nineteen Ipv4 false h = absurd (omega arith)
nineteen Ipv6 true h = refl
nineteen Ipv6 false h = absurd (omega arith)

walk_below : (r : Reading) (n : ℕ) → walk_meets r n ≡ true → n ≡ 19 → ⊥
walk_below Plain n e i = let z : ◌≡◌ {A = ℕ} 0 1 = cc in omega arith
walk_below Ipv4 n e i = let z : ◌≡◌ {A = ℕ} 0 1 = cc in omega arith
walk_below Ipv6 n e i = let z : ◌≡◌ {A = ℕ} 0 1 = cc in omega arith

-- octets of a part that is lent on
part_octet : (s : List ℕ) (from to i : ℕ) → i < length (part s from to) → (get_or (part s from to) i 0 ≡ get_or s (from + i) 0) × (from + i < length s)
part_octet s from to i h =
    let k : i < min (to - from) (length s - from) = rw (length-take, length-drop) at h in
    (get_or-take (to - from) (drop from s) i 0 (omega arith) ∙ get_or-drop from s i 0, omega arith)

widened_moved : (r : Reading) (s : List ℕ) (from to : ℕ) {f : Refused} → Widened r (part s from to) f → Widened r s (moved_by from f)
widened_moved r s from to w =
    let b = w.behind in
    let t = part_octet s from to w.type_place (omega (arith, w.within)) in
    let o = part_octet s from to w.octet_place w.within in
    record {
      type_place = from + w.type_place;
      octet_place = from + w.octet_place;
      behind = omega arith;
      within = o.1;
      type = rw (← t.0) w.type;
      wide = rw (← t.0, ← o.0) w.wide;
      is = ap (moved_by from) w.is ∙ ap (λ (x : ℕ). refused 6 (code_in x ∷ []) (at_octet (from + w.octet_place))) o.0;
    }

module _ (r : Reading) (rd : Bool) (s : List ℕ) where
  -- a refusal by another number than 6 and 19
  plainly : (f : Refused) → read_meets r rd f.number ≡ true → (f.number ≡ 6 → ⊥) → (f.number ≡ 19 → ⊥) → ReadMeets r rd s f
  plainly f e h k = record { number = e; six = λ n. absurd (h n); short = λ n. absurd (k n) }

  one : (f : Refused) → f.number ≡ 1 → ReadMeets r rd s f
  one f e = plainly f (rw e (by_reading_lem r)) (λ n. omega arith) (λ n. omega arith)
    where
      by_reading_lem : (r : Reading) → read_meets r rd 1 ≡ true
      by_reading_lem Plain = refl
      by_reading_lem Ipv4 = refl
      by_reading_lem Ipv6 = refl

  met_moved : (from to family : ℕ) (d : Option ℕ) (used : ℕ) (a : Answer Body) → Met (Meets r (part s from to)) a → Met (ReadMeets r rd s) (ruled family d used (answer_by from a))
  met_moved from to family d used (accepts b) h = tt
  met_moved from to family d used (declines f) h =
      record {
        number = walk_read r rd f.number h.number;
        six = λ n. widened_moved r s from to (h.six n);
        short = λ n. absurd (walk_below r f.number h.number n);
      }

  met_stated : (l : Length) → length_at s 0 ≡ accepts l → Met (ReadMeets r rd s) (stated_at r rd s l.next.at l.size)
  unfolding stated_at
  met_stated l e =
      let start = l.next.at in
      let end = l.next.at + l.size in
      let front = front_of r rd in
      by_test (ltb (length s) end) (λ t. rw t (one _ refl))
      (λ f. by_test (ltb l.size front)
      (λ t. rw (f, t) (
      record {
        number = nineteen r rd (ltb-true l.size front t);
        six = λ n. absurd (omega arith);
        short = λ n. record { stated = l; first = e; within = ltb-false (length s) end f; few = ltb-true l.size front t; is = refl };
      }))
      (λ g.
      let to = bound_of r (length s) end in
      rw (f, g) (met_moved (start + front) to (family_of r) (front_at front s start) end (walk_at r (part s (start + front) to) (l.size - front))
      (met_walk r (part s (start + front) to) (l.size - front)))))

  -- a length is refused by 1
  met_length : (at : ℕ) → Met (ReadMeets r rd s) (length_at s at)
  unfolding length_at
  met_length at =
      by_test (leb (length s) at) (λ t. rw t (one _ refl))
      (λ f. by_test (ltb (get_or s at 0) 240) (λ t. rw (f, t) tt) (λ g. by_test (leb (length s) (at + 1)) (λ t. rw (f, g, t) (one _ refl)) (λ h. rw (f, g, h) tt)))

  met_after : (a : Answer Length) → length_at s 0 ≡ a → Met (ReadMeets r rd s) a → Met (ReadMeets r rd s) (after_length r rd s a)
  met_after (accepts l) e h = met_stated l e
  met_after (declines f) e h = h

  met_at : Met (ReadMeets r rd s) (read_at r rd s)
  unfolding read_at
  met_at =
      by_test (too_long r (length s))
      (λ t. rw t (plainly _ (eight r rd (length s) t) (λ n. omega arith) (λ n. omega arith)))
      (λ f. rw f (met_after (length_at s 0) refl (met_length 0)))

  met_roomed : (a : Answer ReadRule) (w v o : ℕ) → Met (ReadMeets r rd s) a → Met (ReadMeets r rd s) (roomed a w v o)
  met_roomed (accepts x) w v o h =
      by_test (ltb w 64) (λ t. rw t room)
      (λ f. by_test (ltb (shorter v o) (length x.operators)) (λ t. rw (f, t) room) (λ g. rw (f, g) tt))
    where
      room : {c : List ℕ} → ReadMeets r rd s (refused 9 c nowhere)
      room = plainly _ (nine r rd) (λ n. omega arith) (λ n. omega arith)
  met_roomed (declines f) w v o h = h

  met_read : (w v o : ℕ) → Met (ReadMeets r rd s) (read_into r rd s w v o)
  unfolding read_into
  met_read w v o = met_roomed (read_at r rd s) w v o met_at

  pub read_meets_lem : (w v o : ℕ) {f : Refused} → read_into r rd s w v o ≡ declines f → ReadMeets r rd s f
  read_meets_lem w v o e = subst (Met (ReadMeets r rd s)) e (met_read w v o)

-- "InvalidOperator (plain only)"
no_five : (r : Reading) (rd : Bool) → (r ≡ Plain → ⊥) → read_meets r rd 5 ≡ true → ⊥
no_five Plain rd h e = h refl
no_five Ipv4 true h e = let z : ◌≡◌ {A = ℕ} 0 1 = cc in omega arith
no_five Ipv4 false h e = let z : ◌≡◌ {A = ℕ} 0 1 = cc in omega arith
no_five Ipv6 true h e = let z : ◌≡◌ {A = ℕ} 0 1 = cc in omega arith
no_five Ipv6 false h e = let z : ◌≡◌ {A = ℕ} 0 1 = cc in omega arith

pub plain_only : (r : Reading) → (r ≡ Plain → ⊥) → (rd : Bool) (s : List ℕ) (w v o : ℕ) (f : Refused) → read_into r rd s w v o ≡ declines f → f.number ≡ 5 → ⊥
plain_only r h rd s w v o f e n = no_five r rd h (rw n at (read_meets_lem r rd s w v o e).number)

-- the body of an accepted standard reading: the stated octets, of which a distinguisher and the components leave none over
pub record Exact (r : Reading) (rd : Bool) (s : List ℕ) (rule : ReadRule) : Type 0 where
  pub stated : Length
  pub first : length_at s 0 ≡ accepts stated
  pub within : stated.next.at + stated.size ≤ length s
  pub fits : front_of r rd ≤ stated.size
  pub given : Body
  pub chain : Chain r (part s (stated.next.at + front_of r rd) (stated.next.at + stated.size)) (stated.size - front_of r rd) 0 0 0 given (stated.size - front_of r rd)
  pub is : read_rule given (family_of r) (front_at (front_of r rd) s stated.next.at) (stated.next.at + stated.size) ≡ rule

bound_stated : (r : Reading) → (r ≡ Plain → ⊥) → (n m : ℕ) → bound_of r n m ≡ m
bound_stated Plain h n m = absurd (h refl)
bound_stated Ipv4 h n m = refl
bound_stated Ipv6 h n m = refl

pub to_the_last_octet : (r : Reading) → (r ≡ Plain → ⊥) → (rd : Bool) (s : List ℕ) (rule : ReadRule) → read_at r rd s ≡ accepts rule → Exact r rd s rule
to_the_last_octet r h rd s rule e =
    let w = read_walked r rd s rule e in
    let m = front_of r rd in
    let a = w.stated.next.at in
    let n = w.stated.size in
    let b = w.within in
    let k = w.fits in
    let body = part s (a + m) (a + n) in
    let l : length body ≡ n - m = simp (length-take, length-drop) (omega arith) in
    let q : walk_at r body (n - m) ≡ accepts w.given = sym (ap (λ (x : ℕ). walk_at r (part s (a + m) x) (n - m)) (bound_stated r h (length s) (a + n))) ∙ w.walked in
    let u = used_up r body w.given (ap (walk_at r body) l ∙ q) in
    record { stated = w.stated; first = w.first; within = b; fits = k; given = w.given; chain = subst (λ (x : ℕ). Chain r body x 0 0 0 w.given x) l u; is = w.is }
