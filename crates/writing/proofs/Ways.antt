-- The ways that a writing goes, over plain lists: the body by its words' frame and its components, the whole by the body and the room, and what the
-- output is after each.
use Prim.Native.Nat.{ℕ, ◌+◌, ◌*◌, ◌/◌, ◌≤◌, ◌<◌}
use mathlib.Core.Path.{◌≡◌, refl, sym, ap, ap₂, ◌∙◌}
use mathlib.Core.Bool.{true, false}
use mathlib.Core.List.{List, [], ◌∷◌, ◌++◌}
use native.Mathlib.Omega.{arith}
use borrow.Author.Tests.{lt-ltb, le-ltb}
use lib.Dec.{ltb}
use lib.ListN.{length, length-append}
use lib.Seq.{sets}
use Rattle.ground.specs.Answers.{Refused, Answer, accepts, refuses, declines}
use Rattle.ground.proofs.Answers.{never}
use Rattle.ground.proofs.Cases.{by_test}
use Rattle.ground.proofs.Overlays.{sets_append}
use Rattle.octets.specs.Lengths.{length_octets, length_into}
use Rattle.choices.specs.declared.Reading.{Reading}
use Rattle.choices.specs.Choices.{standard_of}
use Rattle.stored.specs.Distinguishers.{distinguisher_at}
use Rattle.stored.specs.Stored.{StoredRule, count_at, first_at, pieces_from, records_from, is_framed, is_rule, rule_at}
use Rattle.stored.proofs.Words.{at_outside, at_bad, at_good, framed, rule_framed, by_records, no_frame as unframed}
use Rattle.stored.proofs.Inverse.{accepted}
use Rattle.measuring.specs.Bodies.{lent, distinguisher_octets, body_octets, whole_octets}
use Rattle.measuring.specs.Grounds.{all_taken, body_of, counted}
use Rattle.measuring.proofs.Laws.{Taken, all_records, body_shows, body_bad}
use Rattle.writing.specs.Writings.{octets_in, on_accepted, rule_body, body_from, body_in, nlri_octets, in_room, written_from, written_in}

-- ---- the body

module _ (w : Reading) (ws values octets : List ℕ) where
  by_rule : {a : Answer StoredRule} → rule_at ws 0 ≡ a → body_from w ws values octets ≡ on_accepted a (λ s. rule_body w s values octets)
  unfolding body_from
  by_rule e = ap (λ r. on_accepted r (λ s. rule_body w s values octets)) e

  pub few_words : length ws < 64 → body_from w ws values octets ≡ refuses 10 []
  few_words h = by_rule (at_outside ws 0 (omega arith))

  module _ (h : 64 ≤ length ws) where
    there : 0 < length ws / 64
    there = omega arith

    pub no_frame : is_framed ws 0 ≡ false → body_from w ws values octets ≡ refuses 10 []
    no_frame e = by_rule (at_bad ws 0 there (unframed ws 0 e))

    -- four words that are no component are taken by no writing
    pub by_frame : is_framed ws 0 ≡ true → body_from w ws values octets ≡ body_of w (lent values octets (first_at ws 0)) (distinguisher_at ws 0) (pieces_from (count_at ws 0) ws 0)
    by_frame e =
        let l = lent values octets (first_at ws 0) in
        let ps = pieces_from (count_at ws 0) ws 0 in
        by_test (records_from (count_at ws 0) ws 0)
        (λ r. by_rule (at_good ws 0 there (by_records ws 0 e ∙ r)))
        (λ r. by_rule (at_bad ws 0 there (by_records ws 0 e ∙ r))
        ∙ sym (by_test (all_taken w l ps)
        (λ t. let z : ◌≡◌ {A = ℕ} 0 1 = cc (sym r ∙ all_records w l (count_at ws 0) ws 0 t) in absurd (omega arith))
        (λ t. body_bad w l ps (distinguisher_at ws 0) t)))

-- what a rule that has a body shows
pub record Shown (w : Reading) (ws values octets xs : List ℕ) : Type 0 where
  pub whole : 64 ≤ length ws
  pub rule : is_rule ws 0 ≡ true
  pub few : count_at ws 0 ≤ 13
  pub taken : Taken w (lent values octets (first_at ws 0)) (distinguisher_at ws 0) (pieces_from (count_at ws 0) ws 0)
  pub is : xs ≡ whole_octets w (lent values octets (first_at ws 0)) (distinguisher_at ws 0) (pieces_from (count_at ws 0) ws 0)

module _ (w : Reading) (ws values octets xs : List ℕ) where
  shown_by_lem : (a : Answer StoredRule) → rule_at ws 0 ≡ a → on_accepted a (λ s. rule_body w s values octets) ≡ accepts xs → Shown w ws values octets xs
  shown_by_lem (declines f) r e = never e
  shown_by_lem (accepts s) r e =
      let a = accepted ws 0 s r in
      let h = a.0 in
      let f = framed ws 0 (rule_framed ws 0 a.1) in
      let b = body_shows w (lent values octets (first_at ws 0)) (pieces_from (count_at ws 0) ws 0) (distinguisher_at ws 0) xs (ap (λ x. rule_body w x values octets) (sym a.2) ∙ e) in
      record { whole = omega arith; rule = a.1; few = f.few; taken = b.0; is = b.1 }

  pub shown : body_from w ws values octets ≡ accepts xs → Shown w ws values octets xs
  unfolding body_from
  shown e = shown_by_lem (rule_at ws 0) refl e

-- ---- the output

-- a length takes two octets at most
pub length_most : (n : ℕ) → length (length_octets n) ≤ 2
unfolding length_octets
length_most n = by_test (ltb n 240) (λ e. rw e (omega arith)) (λ e. rw e (omega arith))

pub whole_long : (body : List ℕ) → length (nlri_octets body) ≡ length (length_octets (length body)) + length body
whole_long body = length-append (length_octets (length body)) body

-- an answer that counts so many octets has them
pub has_octets : (a : Answer (List ℕ)) (n : ℕ) → counted a ≡ accepts n → (a ≡ accepts (octets_in a)) × (length (octets_in a) ≡ n)
has_octets (accepts xs) n e = (refl, cc)
has_octets (declines f) n e = let z : ◌≡◌ {A = ℕ} 0 1 = cc in absurd (omega arith)

-- the length, then the body after it
module _ (out body : List ℕ) (n : ℕ) (is : length body ≡ n) (most : n ≤ 4095) (room : length (length_octets n) + n ≤ length out) where
  length_into_lem : length_into n (length out) ≡ length_octets n
  unfolding length_into
  length_into_lem = rw (le-ltb 4095 n most, le-ltb (length out) (length (length_octets n)) (omega arith))

  pub nlri_stored : {o₁ o₂ : List ℕ} {at : ℕ} → at ≡ length (length_octets n) → o₁ ≡ sets out 0 (length_into n (length out)) → o₂ ≡ sets o₁ at body → o₂ ≡ sets out 0 (nlri_octets body)
  nlri_stored {o₁} {o₂} {at} k f g =
      let z : at ≡ 0 + length (length_octets n) = omega arith in
      let s : o₁ ≡ sets out 0 (length_octets n) = f ∙ ap (λ (xs : List ℕ). sets out 0 xs) length_into_lem in
      g ∙ ap₂ (λ (xs : List ℕ) (j : ℕ). sets xs j body) s z
      ∙ sym (sets_append out 0 (length_octets n) body)
      ∙ ap (λ (j : ℕ). sets out 0 (length_octets j ++ body)) (sym is)

-- ---- the answer, and what it leaves of the output
abbrev pub Writes : Answer (List ℕ) → List ℕ → Answer ℕ → List ℕ → Type 0
Writes a out told left = (told ≡ counted a) × (left ≡ sets out 0 (octets_in a))

pub carried : {a b : Answer (List ℕ)} (out : List ℕ) {told : Answer ℕ} {left : List ℕ} → a ≡ b → Writes a out told left → Writes b out told left
carried out e h = (h.0 ∙ ap counted e, h.1 ∙ ap (λ x. sets out 0 (octets_in x)) e)

-- a refusal is the same of whatever would have been accepted, and stays
refused_as : (a : Answer (List ℕ)) (f : Refused) → declines f ≡ counted a → a ≡ declines f
refused_as (accepts xs) f e = let z : ◌≡◌ {A = ℕ} 0 1 = cc in absurd (omega arith)
refused_as (declines g) f e = let s : f ≡ g = cc in ap declines (sym s)

pub refused : (a : Answer (List ℕ)) (out : List ℕ) (g : List ℕ → Answer (List ℕ)) (f : Refused) → declines f ≡ counted a → Writes (on_accepted a g) out (declines f) out
refused a out g f e = let s = refused_as a f e in rw s (refl, refl)

module _ (a : Answer (List ℕ)) (out : List ℕ) (n : ℕ) (told : accepts n ≡ counted a) where
  is_octets : a ≡ accepts (octets_in a)
  is_octets = (has_octets a n (sym told)).0

  long : length (nlri_octets (octets_in a)) ≡ length (length_octets n) + n
  long = let e = (has_octets a n (sym told)).1 in whole_long (octets_in a) ∙ ap (λ (j : ℕ). length (length_octets j) + j) e

  pub no_room : (size : ℕ) → size ≡ length (length_octets n) + n → length out < size → Writes (on_accepted a (in_room (length out))) out (refuses 9 (size ∷ [])) out
  no_room size is h =
      let r : length out < length (nlri_octets (octets_in a)) = omega (arith, long) in
      let s : length (nlri_octets (octets_in a)) ≡ size = long ∙ sym is in
      carried out (sym (ap (λ x. on_accepted x (in_room (length out))) is_octets)) (rw (lt-ltb (length out) (length (nlri_octets (octets_in a))) r, s) (refl, refl))

  pub in_room_lem : (size : ℕ) → size ≡ length (length_octets n) + n → size ≤ length out → {o : List ℕ} → o ≡ sets out 0 (nlri_octets (octets_in a)) → Writes (on_accepted a (in_room (length out))) out (accepts size) o
  in_room_lem size is h {o} e =
      let r : length (nlri_octets (octets_in a)) ≤ length out = omega (arith, long) in
      let s : size ≡ length (nlri_octets (octets_in a)) = is ∙ sym long in
      carried out (sym (ap (λ x. on_accepted x (in_room (length out))) is_octets)) (rw (le-ltb (length out) (length (nlri_octets (octets_in a))) r) (ap accepts s, e))

-- what was measured
module _ (w : Reading) (ws values octets : List ℕ) (n : ℕ) (told : accepts n ≡ counted (body_from w ws values octets)) where
  pub measured_shows : Shown w ws values octets (octets_in (body_from w ws values octets))
  measured_shows = shown w ws values octets (octets_in (body_from w ws values octets)) (has_octets (body_from w ws values octets) n (sym told)).0

  pub measured_whole : 64 ≤ length ws
  measured_whole = measured_shows.whole

  pub measured_long : length (octets_in (body_from w ws values octets)) ≡ n
  measured_long = (has_octets (body_from w ws values octets) n (sym told)).1

  pub measured_most : n ≤ 4095
  measured_most =
      let s = measured_shows in
      let e : length (octets_in (body_from w ws values octets)) ≡ length (whole_octets w (lent values octets (first_at ws 0)) (distinguisher_at ws 0) (pieces_from (count_at ws 0) ws 0)) = ap length s.is in
      omega (arith, measured_long, s.taken.most)

  abbrev front : List ℕ
  front = distinguisher_octets w (distinguisher_at ws 0)

  -- what the distinguisher and the walk that stores ask, and the output after them
  module _ {k m at : ℕ} (is-k : k ≡ count_at ws 0) (is_m : m ≡ first_at ws 0) (is_at : at ≡ length (length_octets n)) where
    abbrev behind : List ℕ
    behind = body_octets w (lent values octets m) (pieces_from k ws 0)

    is_body_lem : octets_in (body_from w ws values octets) ≡ front ++ behind
    is_body_lem = measured_shows.is ∙ rw (is-k, is_m)

    long_body : length front + length behind ≡ n
    long_body = sym (ap length is_body_lem ∙ length-append front behind) ∙ measured_long

    pub put_words : 4 * k ≤ length ws
    put_words = let s = measured_shows in omega (arith, s.few, s.whole)

    pub put_taken : all_taken w (lent values octets m) (pieces_from k ws 0) ≡ true
    put_taken = rw (is-k, is_m) measured_shows.taken.each

    pub front_room : (out : List ℕ) → length (length_octets n) + n ≤ length out → at + length front ≤ length out
    front_room out r = omega (arith, long_body)

    module _ {from : ℕ} (is-from : from ≡ at + length front) where
      pub put_room : (out : List ℕ) → length (length_octets n) + n ≤ length out → from + length behind ≤ length out
      put_room out r = omega (arith, long_body)

      pub put_done : (out : List ℕ) → length (length_octets n) + n ≤ length out → {o₁ o₂ o₃ : List ℕ} → o₁ ≡ sets out 0 (length_into n (length out)) → o₂ ≡ sets o₁ at front
          → o₃ ≡ sets o₂ from behind → o₃ ≡ sets out 0 (nlri_octets (octets_in (body_from w ws values octets)))
      put_done out r {o₁} f g h =
          nlri_stored out (octets_in (body_from w ws values octets)) n measured_long measured_most r is_at f
          (h ∙ ap₂ (λ (xs : List ℕ) (j : ℕ). sets xs j behind) g is-from ∙ sym (sets_append o₁ at front behind) ∙ ap (λ (xs : List ℕ). sets o₁ at xs) (sym is_body_lem))

-- ---- the standard writing, by its family
module _ (family : ℕ) (ws values octets : List ℕ) where
  pub in_standard : (w : Reading) (room : ℕ) → accepts w ≡ standard_of family → written_from w ws values octets room ≡ written_in family ws values octets room
  unfolding written_from written_in body_in
  in_standard w room e = ap (λ a. on_accepted (on_accepted a (λ x. body_from x ws values octets)) (in_room room)) e
