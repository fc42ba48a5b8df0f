-- Where a reading broke: document 01, "What comes back". Every refusal but 8 and 9 has a place. It is at most the input's length; where an
-- octet is missing it is the end that bounded the read; and the octet there is the one that broke it: inputs of one length that agree up to
-- and including it, and for a bad IPv6 pair in the offset octet behind it, are refused alike.
use Prim.Native.Nat.{ℕ, ◌+◌, ◌-◌, ◌≤◌, ◌<◌}
use mathlib.Core.Path.{◌≡◌, refl, sym, ◌∙◌, ap, subst}
use mathlib.Core.Bool.{Bool, true, false}
use mathlib.Core.List.{List, [], ◌∷◌}
use mathlib.Core.Logic.{◌⊎◌, inl, inr, ⊎_elim}
use native.Mathlib.Omega.{arith}
use borrow.Author.Tests.{lt-ltb, le-ltb, ltb-true, ltb-false}
use lib.Dec.{ltb}
use lib.ListN.{length, take, length-take, length-drop}
use Rattle.std.specs.Prelude.{Option}
use Rattle.ground.specs.Answers.{nowhere, at_octet, place_by, Refused, refused, moved_by, Answer, accepts, refuses, refuses_at, answer_by, declines}
use Rattle.ground.specs.Picks.{pick}
use Rattle.ground.proofs.Answers.{never, same_refusal}
use Rattle.ground.proofs.Cases.{by_test, lt_or_le}
use Rattle.ground.proofs.Places.{Alike, alike_less, take_alike, alike_part, Breaks, breaks_on}
use Rattle.octets.specs.declared.Length.{Length}
use Rattle.octets.specs.Lengths.{length_at}
use Rattle.octets.proofs.Places.{length_breaks, length_short, length_most, length_within, length_alike}
use Rattle.choices.specs.declared.Reading.{Reading}
use Rattle.choices.specs.declared.Reading.TheVariants.{Plain, Ipv4, Ipv6}
use Rattle.choices.specs.Choices.{bound_of, front_of, family_of}
use Rattle.prefixes.proofs.Accepted.{Octets}
use Rattle.prefixes.proofs.Places.{behind}
use Rattle.walk.specs.Walks.{Body, walk_at}
use Rattle.walk.proofs.Places.{walk_breaks}
use Rattle.reading.specs.Readings.{ReadRule, ruled, part, front_at, stated_at, after_length, too_long, read_at, shorter, roomed, read_into}
use Rattle.reading.proofs.Stated.{stated_past, stated_short, stated_components}
use Rattle.reading.proofs.Ways.{bound_in}

-- the end that bounds a read: the input's for a missing length octet and for a stated end past the input, else what the walk is bounded by
abbrev end_by : Reading → ℕ → Answer Length → ℕ
end_by r n (accepts l) = pick (ltb n (l.next.at + l.size)) n (bound_of r n (l.next.at + l.size))
end_by r n (declines f) = n

abbrev pub end_of : Reading → List ℕ → ℕ
end_of r s = end_by r (length s) (length_at s 0)

end_within : (r : Reading) (n : ℕ) (a : Answer Length) → end_by r n a ≤ n
end_within r n (accepts l) =
    by_test (ltb n (l.next.at + l.size))
    (λ t. rw t (omega arith))
    (λ t. rw t (bound_in r n 0 (l.next.at + l.size) (omega arith) (ltb-false n (l.next.at + l.size) t)).1)
end_within r n (declines f) = omega arith

bound_most : (r : Reading) (n end : ℕ) → too_long r n ≡ false → end ≤ 4097 → bound_of r n end ≤ 4097
bound_most Plain n end t h = ltb-false 4097 n t
bound_most Ipv4 n end t h = h
bound_most Ipv6 n end t h = h

end_most : (r : Reading) (s : List ℕ) → too_long r (length s) ≡ false → Octets s → (a : Answer Length) → length_at s 0 ≡ a → end_by r (length s) a ≤ 4097
end_most r s t o (accepts l) e =
    let m = length_most s e (o 1) in
    by_test (ltb (length s) (l.next.at + l.size))
    (λ k. let j = ltb-true (length s) (l.next.at + l.size) k in rw k (omega arith))
    (λ k. rw k (bound_most r (length s) (l.next.at + l.size) t m))
end_most r s t o (declines f) e = let m = length_short s e in omega arith

not_nowhere : {A : Type 0} {p : ℕ} → nowhere ≡ at_octet p → A
not_nowhere e = let z : ◌≡◌ {A = ℕ} 0 1 = cc in absurd (omega arith)

place_in : {p q : ℕ} → at_octet p ≡ at_octet q → p ≡ q
place_in e = cc

-- ---- after a length that is there

ruled_refused : (family : ℕ) (d : Option ℕ) (used start : ℕ) (a : Answer Body) {f : Refused} {A : Type 0} → ruled family d used (answer_by start a) ≡ declines f
    → ((g : Refused) → a ≡ declines g → moved_by start g ≡ f → A) → A
ruled_refused family d used start (accepts b) e k = never (sym e)
ruled_refused family d used start (declines g) e k = k g refl (same_refusal e)

-- what is too short for a distinguisher is read to the stated end
short_bound : (r : Reading) (rd : Bool) (n : ℕ) {size end : ℕ} → size < front_of r rd → bound_of r n end ≡ end
short_bound Plain rd n h = absurd (omega arith)
short_bound Ipv4 rd n h = refl
short_bound Ipv6 rd n h = refl

-- only an octet is missing by 1
not_missing : {A : Type 0} → ◌≡◌ {A = ℕ} 19 1 → A
not_missing e = absurd (omega arith)

module _ (r : Reading) (rd : Bool) (s : List ℕ) (l : Length) (first : length_at s 0 ≡ accepts l) where
  abbrev start : ℕ
  start = l.next.at

  abbrev end : ℕ
  end = l.next.at + l.size

  -- where the walk starts
  abbrev from : ℕ
  from = l.next.at + front_of r rd

  abbrev Broken : Refused → Type 0
  Broken = Breaks (behind r) (λ (u : List ℕ). after_length r rd u (length_at u 0)) s 0 (end_of r s)

  -- inputs that agree up to the body state the same
  after_there : (u : List ℕ) → Alike start s u → after_length r rd u (length_at u 0) ≡ stated_at r rd u start l.size
  after_there u a = ap (after_length r rd u) (length_alike s first u a)

  past_end : length s < end → Broken (refused 1 [] (at_octet (length s)))
  past_end h =
      record {
        place = length s;
        is = refl;
        from = omega arith;
        within = rw (first, lt-ltb (length s) end h) (omega arith);
        missing = λ e. rw (first, lt-ltb (length s) end h);
        same = λ u a.
            after_there u (alike_less (omega (arith, length_within s first)) a) ∙ stated_past r rd u start l.size (omega (arith, a.long))
            ∙ ap (refuses_at 1 []) a.long;
      }

  too_short : end ≤ length s → l.size < front_of r rd → Broken (refused 19 [] (at_octet end))
  too_short h k =
      record {
        place = end;
        is = refl;
        from = omega arith;
        within = rw (first, le-ltb (length s) end h, short_bound r rd (length s) {end = end} k) (omega arith);
        missing = λ e. not_missing e;
        same = λ u a.
            after_there u (alike_less (omega arith) a) ∙ stated_short r rd u start l.size (omega (arith, a.long)) k;
      }

  in_walk : end ≤ length s → front_of r rd ≤ l.size → (g : Refused) → walk_at r (part s from (bound_of r (length s) end)) (l.size - front_of r rd) ≡ declines g
      → Broken (moved_by from g)
  in_walk h t g e =
      let bound = bound_of r (length s) end in
      let size = l.size - front_of r rd in
      let k = bound_in r (length s) from end (omega arith) h in
      let b = walk_breaks r (part s from bound) size e in
      let n : length (part s from bound) ≡ bound - from = simp (length-take, length-drop) (omega arith) in
      record {
        place = from + b.place;
        is = ap (place_by from) b.is;
        from = omega arith;
        within = rw (first, le-ltb (length s) end h) (omega (arith, b.within));
        missing = λ i. rw (first, le-ltb (length s) end h) (omega (arith, b.missing i));
        same = λ u a.
            let c : Alike (from + (b.place + 1 + behind r g.number)) s u = alike_less (omega arith) a in
            let d = b.same (part u from bound) (alike_part from (bound - from) c) in
            let i = front_at (front_of r rd) u start in
            after_there u (alike_less (omega arith) a) ∙ stated_components r rd u start l.size (omega (arith, a.long)) t
            ∙ ap (λ (x : ℕ). ruled (family_of r) i end (answer_by from (walk_at r (part u from (bound_of r x end)) size))) a.long
            ∙ ap (λ (x : Answer Body). ruled (family_of r) i end (answer_by from x)) d;
      }

-- ---- the input

by_length : (r : Reading) (rd : Bool) (s : List ℕ) {f : Refused} (a : Answer Length) → length_at s 0 ≡ a → after_length r rd s a ≡ declines f
    → Breaks (behind r) (λ (u : List ℕ). after_length r rd u (length_at u 0)) s 0 (end_of r s) f
by_length r rd s {f} (accepts l) i e =
    let size = l.size in
    let front = front_of r rd in
    ⊎_elim
    (λ h. subst (Broken r rd s l i) (same_refusal (sym (stated_past r rd s (start r rd s l i) size h) ∙ e)) (past_end r rd s l i h))
    (λ h. ⊎_elim
    (λ k. subst (Broken r rd s l i) (same_refusal (sym (stated_short r rd s (start r rd s l i) size h k) ∙ e)) (too_short r rd s l i h k))
    (λ k. ruled_refused (family_of r) (front_at front s (start r rd s l i)) (end r rd s l i) (from r rd s l i)
    (walk_at r (part s (from r rd s l i) (bound_of r (length s) (end r rd s l i))) (size - front)) (sym (stated_components r rd s (start r rd s l i) size h k) ∙ e)
    (λ g w m. subst (Broken r rd s l i) m (in_walk r rd s l i h k g w)))
    (lt_or_le size front))
    (lt_or_le (length s) (end r rd s l i))
by_length r rd s (declines g) i e =
    let b = length_breaks s (behind r) (i ∙ ap declines (same_refusal e)) in
    record {
      place = b.place;
      is = b.is;
      from = b.from;
      within = subst (λ (x : Answer Length). b.place ≤ end_by r (length s) x) (sym i) b.within;
      missing = λ k. b.missing k ∙ sym (ap (end_by r (length s)) i);
      same = λ u a. ap (after_length r rd u) (b.same u a);
    }

read_by : (r : Reading) (rd : Bool) (s : List ℕ) → too_long r (length s) ≡ false → read_at r rd s ≡ after_length r rd s (length_at s 0)
unfolding read_at
read_by r rd s t = rw t

read_long : (r : Reading) (rd : Bool) (s : List ℕ) → too_long r (length s) ≡ true → read_at r rd s ≡ refuses 8 (length s ∷ [])
unfolding read_at
read_long r rd s t = rw t

module _ (r : Reading) (rd : Bool) (s : List ℕ) {f : Refused} (e : read_at r rd s ≡ declines f) where
  either : (f ≡ refused 8 (length s ∷ []) nowhere) ⊎ Breaks (behind r) (read_at r rd) s 0 (end_of r s) f
  either =
      by_test (too_long r (length s))
      (λ t. inl (same_refusal (sym e ∙ read_long r rd s t)))
      (λ t.
      inr (breaks_on (by_length r rd s (length_at s 0) refl (sym (read_by r rd s t) ∙ e)) (read_at r rd) 0 (omega arith) (λ u a q. read_by r rd u (ap (too_long r) a.long ∙ t) ∙ q)))

  -- every refusal but 8 has a place
  pub has_place : (f.number ≡ 8 → ⊥) → Breaks (behind r) (read_at r rd) s 0 (end_of r s) f
  has_place n = ⊎_elim (λ i. absurd (n (ap (λ (x : Refused). x.number) i))) (λ b. b) either

  module _ {p : ℕ} (h : f.place ≡ at_octet p) where
    placed : Breaks (behind r) (read_at r rd) s 0 (end_of r s) f
    placed = ⊎_elim (λ i. not_nowhere (sym (ap (λ (x : Refused). x.place) i) ∙ h)) (λ b. b) either

    is_place : placed.place ≡ p
    is_place = place_in (sym placed.is ∙ h)

    -- a place is at most the bound, and so at most the input's length
    pub within_bound : p ≤ end_of r s
    within_bound = omega (arith, is_place, placed.within)

    pub within_input : p ≤ length s
    within_input = omega (arith, within_bound, end_within r (length s) (length_at s 0))

    -- so no place is beyond the longest NLRI
    pub place_most : Octets s → p ≤ 4097
    place_most o =
        by_test (too_long r (length s))
        (λ t. not_nowhere (ap (λ (x : Refused). x.place) (same_refusal (sym (read_long r rd s t) ∙ e)) ∙ h))
        (λ t. omega (arith, within_bound, end_most r s t o (length_at s 0) refl))

    -- where an octet is missing, the place is the bound
    pub at_the_bound : f.number ≡ 1 → p ≡ end_of r s
    at_the_bound n = sym is_place ∙ placed.missing n

    -- inputs of one length that agree up to and including the place, and of a bad IPv6 pair in the offset octet behind it, get the same refusal
    -- there
    pub same_there : (u : List ℕ) → length u ≡ length s → take (p + 1 + behind r f.number) u ≡ take (p + 1 + behind r f.number) s → read_at r rd u ≡ declines f
    same_there u l i = placed.same u (rw is_place (take_alike (p + 1 + behind r f.number) s u l i))

-- ---- with room lent: what has a place is refused whatever the room is

unroomed : (a : Answer ReadRule) (w v o : ℕ) {f : Refused} {p : ℕ} → roomed a w v o ≡ declines f → f.place ≡ at_octet p → a ≡ declines f
unroomed (accepts x) w v o e h =
    by_test (ltb w 64)
    (λ t. not_nowhere (ap (λ (y : Refused). y.place) (same_refusal (rw t at e)) ∙ h))
    (λ t. by_test (ltb (shorter v o) (length x.operators))
    (λ k. not_nowhere (ap (λ (y : Refused). y.place) (same_refusal (rw (t, k) at e)) ∙ h))
    (λ k. never (sym (rw (t, k) at e))))
unroomed (declines g) w v o e h = e

module _ (r : Reading) (rd : Bool) (s : List ℕ) (w v o : ℕ) {f : Refused} {p : ℕ} (h : f.place ≡ at_octet p) where
  pub any_room : read_into r rd s w v o ≡ declines f → read_at r rd s ≡ declines f
  unfolding read_into
  any_room e = unroomed (read_at r rd s) w v o e h

  pub in_any_room : read_at r rd s ≡ declines f → read_into r rd s w v o ≡ declines f
  unfolding read_into
  in_any_room e = rw e
