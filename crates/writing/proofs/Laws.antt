-- What callers may use of the writings: each way that one goes, what a rule that is written shows and needs, that a rule's own refusals are the same in
-- any room, how long what is written is, and that a rule put into words is written as its pieces are.
use Prim.Native.Nat.{ℕ, ◌+◌, ◌/◌, ◌≤◌, ◌<◌}
use mathlib.Core.Path.{◌≡◌, refl, sym, ap, ◌∙◌}
use mathlib.Core.Bool.{not}
use mathlib.Core.List.{List, [], ◌∷◌}
use mathlib.Core.Logic.{⊎_elim}
use native.Mathlib.Omega.{arith}
use borrow.Author.Tests.{lt-ltb, le-ltb, ltb-false}
use lib.Dec.{eqb, ltb}
use lib.ListN.{length}
use lib.Seq.{sets}
use Rattle.std.specs.Prelude.{Option}
use Rattle.ground.specs.Answers.{Refused, Answer, accepts, refuses, declines}
use Rattle.ground.proofs.Answers.{never, same_accepted}
use Rattle.ground.proofs.Cases.{by_test, lt_or_le}
use Rattle.octets.specs.Lengths.{length_octets}
use Rattle.choices.specs.declared.Reading.{Reading}
use Rattle.choices.specs.declared.Reading.TheVariants.{Ipv4, Ipv6}
use Rattle.choices.specs.Choices.{standard_of}
use Rattle.stored.specs.declared.Piece.{Piece}
use Rattle.stored.specs.Stored.{Head, StoredRule, stored_rule, rule_words, is_rule, stored_at, rule_at}
use Rattle.stored.proofs.Words.{at_outside, at_bad, at_good}
use Rattle.stored.proofs.Inverse.{FitAll, put_read}
use Rattle.measuring.specs.Bodies.{Lent, lent, whole_octets}
use Rattle.measuring.specs.Grounds.{body_taken, body_of}
use Rattle.measuring.proofs.Laws.{Taken, body_needs}
use Rattle.writing.specs.Writings.{accepted, refuses_rule, on_accepted, rule_body, body_from, body_in, nlri_octets, in_room, written_rule, written_from, written_in}
use Rattle.writing.proofs.Ways.{whole_long, in_standard}
-- a body by its words: fewer than 64, no frame, a frame; and what a rule that has one shows
pub use Rattle.writing.proofs.Ways.{few_words, no_frame, by_frame, Shown, shown, length_most}

-- ---- how long what is written is

pub short_nlri : (body : List ℕ) → length body < 240 → length (nlri_octets body) ≡ 1 + length body
unfolding length_octets
short_nlri body h = whole_long body ∙ rw (lt-ltb (length body) 240 h)

pub long_nlri : (body : List ℕ) → 240 ≤ length body → length (nlri_octets body) ≡ 2 + length body
unfolding length_octets
long_nlri body h = whole_long body ∙ rw (le-ltb (length body) 240 h)

-- ---- the ways that a writing goes, by the body and the room

module _ (w : Reading) (ws values octets : List ℕ) (room : ℕ) where
  pub written_refused : (f : Refused) → body_from w ws values octets ≡ declines f → written_from w ws values octets room ≡ declines f
  unfolding written_from
  written_refused f e = rw e

  module _ (body : List ℕ) (e : body_from w ws values octets ≡ accepts body) where
    pub written_short : room < length (nlri_octets body) → written_from w ws values octets room ≡ refuses 9 (length (nlri_octets body) ∷ [])
    unfolding written_from
    written_short h = rw (e, lt-ltb room (length (nlri_octets body)) h)

    pub written_whole : length (nlri_octets body) ≤ room → written_from w ws values octets room ≡ accepts (nlri_octets body)
    unfolding written_from
    written_whole h = rw (e, le-ltb room (length (nlri_octets body)) h)

-- by the family: the reading that it names, or none
module _ (family : ℕ) (ws values octets : List ℕ) where
  module _ (w : Reading) (e : standard_of family ≡ accepts w) where
    pub body_in_lem : body_in family ws values octets ≡ body_from w ws values octets
    unfolding body_in
    body_in_lem = ap (λ a. on_accepted a (λ x. body_from x ws values octets)) e

    pub written_in_lem : (room : ℕ) → written_in family ws values octets room ≡ written_from w ws values octets room
    written_in_lem room = sym (in_standard family ws values octets w room (sym e))

  module _ (f : Refused) (e : standard_of family ≡ declines f) where
    pub body_no_family : body_in family ws values octets ≡ declines f
    unfolding body_in
    body_no_family = ap (λ a. on_accepted a (λ x. body_from x ws values octets)) e

    pub written_no_family : (room : ℕ) → written_in family ws values octets room ≡ declines f
    unfolding written_in
    written_no_family room = ap (λ a. on_accepted a (in_room room)) body_no_family

-- ---- what a rule that is written shows

pub record Wrote (w : Reading) (ws values octets : List ℕ) (room : ℕ) (xs : List ℕ) : Type 0 where
  pub body : List ℕ
  pub measured : body_from w ws values octets ≡ accepts body
  pub is : xs ≡ nlri_octets body
  pub fits : length xs ≤ room

room_shows : (room : ℕ) (body xs : List ℕ) → in_room room body ≡ accepts xs → (xs ≡ nlri_octets body) × (length xs ≤ room)
room_shows room body xs e =
    by_test (ltb room (length (nlri_octets body)))
    (λ t. never (rw t at e))
    (λ t.
    let s : nlri_octets body ≡ xs = same_accepted (rw t at e) in
    let n : length (nlri_octets body) ≡ length xs = ap length s in
    let h = ltb-false room (length (nlri_octets body)) t in
    (sym s, omega arith))

module _ (w : Reading) (ws values octets : List ℕ) (room : ℕ) (xs : List ℕ) where
  wrote_by : (a : Answer (List ℕ)) → body_from w ws values octets ≡ a → on_accepted a (in_room room) ≡ accepts xs → Wrote w ws values octets room xs
  wrote_by (accepts body) q e = let s = room_shows room body xs e in record { body = body; measured = q; is = s.0; fits = s.1 }
  wrote_by (declines f) q e = never e

  pub wrote : written_from w ws values octets room ≡ accepts xs → Wrote w ws values octets room xs
  unfolding written_from
  wrote e = wrote_by (body_from w ws values octets) refl e

-- the reading of a family in which something was written
pub record Named (family : ℕ) : Type 0 where
  pub reading : Reading
  pub is : standard_of family ≡ accepts reading

module _ (family : ℕ) (ws values octets : List ℕ) where
  named_by : (xs : List ℕ) (a : Answer Reading) → standard_of family ≡ a → on_accepted a (λ x. body_from x ws values octets) ≡ accepts xs → Named family
  named_by xs (accepts w) q e = record { reading = w; is = q }
  named_by xs (declines f) q e = never e

  pub body_named : (xs : List ℕ) → body_in family ws values octets ≡ accepts xs → Named family
  unfolding body_in
  body_named xs e = named_by xs (standard_of family) refl e

  room_named : (room : ℕ) (xs : List ℕ) (a : Answer (List ℕ)) → body_in family ws values octets ≡ a → on_accepted a (in_room room) ≡ accepts xs → Named family
  room_named room xs (accepts b) q e = body_named b q
  room_named room xs (declines f) q e = never e

  pub written_named : (room : ℕ) (xs : List ℕ) → written_in family ws values octets room ≡ accepts xs → Named family
  unfolding written_in
  written_named room xs e = room_named room xs (body_in family ws values octets) refl e

-- and what it needs
module _ (w : Reading) (ws values octets : List ℕ) (s : StoredRule) (e : rule_at ws 0 ≡ accepts s) where
  pub body_as_lem : body_from w ws values octets ≡ rule_body w s values octets
  unfolding body_from
  body_as_lem = ap (λ a. on_accepted a (λ r. rule_body w r values octets)) e

  pub written_as_lem : (room : ℕ) → written_from w ws values octets room ≡ written_rule w s values octets room
  unfolding written_from written_rule
  written_as_lem room = ap (λ a. on_accepted a (in_room room)) body_as_lem

  pub writes : Taken w (lent values octets s.head.first) s.head.distinguisher s.pieces → (room : ℕ)
      → length (nlri_octets (whole_octets w (lent values octets s.head.first) s.head.distinguisher s.pieces)) ≤ room
      → written_from w ws values octets room ≡ accepts (nlri_octets (whole_octets w (lent values octets s.head.first) s.head.distinguisher s.pieces))
  writes t room h =
      let l = lent values octets s.head.first in
      let d = s.head.distinguisher in
      written_whole w ws values octets room (whole_octets w l d s.pieces) (body_as_lem ∙ body_needs w l s.pieces d t) h

-- ---- in any room

-- a body is refused by one of these or not at all
own_body_lem : (w : Reading) (l : Lent) (d : Option ℕ) (ps : List Piece) → refuses_rule (body_of w l d ps) ≡ not (accepted (body_of w l d ps))
unfolding body_of
own_body_lem w l d ps =
    by_test (body_taken w l ps)
    (λ e. by_test (ltb 4095 (length (whole_octets w l d ps))) (λ m. rw (e, m)) (λ m. rw (e, m)))
    (λ e. rw e)

own_from : (w : Reading) (ws values octets : List ℕ) → refuses_rule (body_from w ws values octets) ≡ not (accepted (body_from w ws values octets))
unfolding body_from
own_from w ws values octets =
    ⊎_elim
    (λ h. by_test (is_rule ws 0)
    (λ r. rw (at_good ws 0 h r) (own_body_lem w (lent values octets (stored_at ws 0).head.first) (stored_at ws 0).head.distinguisher (stored_at ws 0).pieces))
    (λ r. rw (at_bad ws 0 h r)))
    (λ h. rw (at_outside ws 0 h))
    (lt_or_le 0 (length ws / 64))

own_in : (family : ℕ) (ws values octets : List ℕ) → refuses_rule (body_in family ws values octets) ≡ not (accepted (body_in family ws values octets))
unfolding body_in standard_of
own_in family ws values octets =
    by_test (eqb family 4)
    (λ e. rw e (own_from Ipv4 ws values octets))
    (λ e. by_test (eqb family 6)
    (λ d. rw (e, d) (own_from Ipv6 ws values octets))
    (λ d. rw (e, d)))

whatever_room : (room : ℕ) (a : Answer (List ℕ)) → refuses_rule a ≡ not (accepted a) → accepted a ≡ not (refuses_rule (on_accepted a (in_room room)))
whatever_room room (accepts body) e = by_test (ltb room (length (nlri_octets body))) (λ t. rw t) (λ t. rw t)
whatever_room room (declines f) e = rw e

-- "any rule the standard writing .. refuses by 11, 10 or 7; every other is well-formed": it has a body, and room is not asked
pub in_any_room : (family : ℕ) (ws values octets : List ℕ) (room : ℕ) → accepted (body_in family ws values octets) ≡ not (refuses_rule (written_in family ws values octets room))
unfolding written_in
in_any_room family ws values octets room = whatever_room room (body_in family ws values octets) (own_in family ws values octets)

-- ---- a rule put into words is written as its pieces are
module _ (ps : List Piece) (h : Head) (few : length ps ≤ 13) (fit : FitAll ps) (octet : h.family < 256) (w : Reading) (ws values octets : List ℕ) (there : 64 ≤ length ws) where
  pub put_body : body_from w (sets ws 0 (rule_words ps h)) values octets ≡ rule_body w (stored_rule ps h) values octets
  put_body = body_as_lem w (sets ws 0 (rule_words ps h)) values octets (stored_rule ps h) (put_read ps h few fit octet ws 0 (omega arith))

  pub put_written : (room : ℕ) → written_from w (sets ws 0 (rule_words ps h)) values octets room ≡ written_rule w (stored_rule ps h) values octets room
  put_written room = written_as_lem w (sets ws 0 (rule_words ps h)) values octets (stored_rule ps h) (put_read ps h few fit octet ws 0 (omega arith)) room
