-- Well-formed rules: in the document's words, whatever the room (`in_any_room`); what matching and ranking ask of a rule (`rankable`); and the ways that
-- the code's test of one goes.
use Prim.Native.Nat.{ℕ, ◌-◌, ◌%◌, ◌≤◌, ◌<◌}
use mathlib.Core.Path.{◌≡◌, refl, sym, ap, ◌∙◌, subst}
use mathlib.Core.Bool.{Bool, true, false, not, false≢true}
use mathlib.Core.List.{List, [], ◌∷◌}
use mathlib.Core.Logic.{⊎_elim}
use native.Mathlib.Omega.{arith}
use lib.ListN.{length, drop, length-drop}
use Rattle.std.specs.declared.option.Option.TheVariants.{Some, None}
use Rattle.ground.specs.Answers.{Refused, Answer, accepts, refuses, declines}
use Rattle.ground.proofs.Cases.{both, lt_or_le}
use Rattle.choices.specs.declared.Reading.{Reading}
use Rattle.choices.specs.declared.Reading.TheVariants.{Plain}
use Rattle.choices.specs.Choices.{standard_of}
use Rattle.stored.specs.declared.Piece.{Piece}
use Rattle.stored.specs.declared.Piece.TheVariants.{Prefix, Operators, NoRecord}
use Rattle.stored.specs.Stored.{StoredRule, count_at, family_at, first_at, pieces_from, is_framed}
use Rattle.stored.proofs.Words.{many, no_family}
use Rattle.measuring.specs.Bodies.{Lent, lent}
use Rattle.measuring.specs.Grounds.{piece_taken, all_taken}
use Rattle.measuring.proofs.Laws.{Standard, standard_shows, list_shows, taken_none, all_more}
use Rattle.writing.specs.Writings.{on_accepted, body_from, body_in, written_in, refuses_rule, accepted as has_body}
use Rattle.writing.proofs.Laws.{few_words, no_frame, shown, body_in_lem, body_no_family, body_named, in_any_room as any_room}
use Rattle.ranking.specs.Ranks.{Inside, AllInside, Rankable}
use Rattle.verdicts.specs.Verdicts.{accepted, well_formed, judged}
use Rattle.verdicts.proofs.RestOfWords.{family_rest, stored_rest, rule_rest}

-- ---- in the document's words

same_accepted : (a : Answer (List ℕ)) → accepted a ≡ has_body a
same_accepted (accepts xs) = refl
same_accepted (declines f) = refl

-- "(any rule the standard writing in the rule's own family refuses by 11, 10 or 7; every other is well-formed)"
pub in_any_room : (words values octets : List ℕ) (at room : ℕ) → well_formed words values octets at ≡ not (refuses_rule (written_in (family_at words at) (drop at words) values octets room))
unfolding well_formed
in_any_room words values octets at room =
    same_accepted (body_in (family_at words at) (drop at words) values octets) ∙ any_room (family_at words at) (drop at words) values octets room

-- ---- what matching and ranking ask: 64 words that are a rule, and operators within the lent lists

-- an empty list could name any place, and no standard writing takes it
module _ (w : Reading) (u : Standard w) (l : Lent) where
  one_inside : (p : Piece) → piece_taken w l p ≡ true → Inside (length l.values) (length l.octets) l.first p
  one_inside (Prefix t p) e = tt
  one_inside (Operators t start n) e = let s = list_shows w u l t start n e in (s.values, s.octets)
  one_inside NoRecord e = absurd (false≢true (sym (taken_none w l) ∙ e))

  all_inside : (ps : List Piece) → all_taken w l ps ≡ true → AllInside (length l.values) (length l.octets) l.first ps
  all_inside [] e = tt
  all_inside (p ∷ ps) e = let b = both (piece_taken w l p) (all_taken w l ps) (sym (all_more w l p ps) ∙ e) in (one_inside p b.0, all_inside ps b.1)

module _ (family : ℕ) (ws values octets : List ℕ) where
  front_rankable : (a : Answer (List ℕ)) → body_in family ws values octets ≡ a → accepted a ≡ true → Rankable ws 0 values octets
  front_rankable (declines f) q e = absurd (false≢true e)
  front_rankable (accepts xs) q e =
      let n = body_named family ws values octets xs q in
      let w = n.reading in
      let s = shown w ws values octets xs (sym (body_in_lem family ws values octets w n.is) ∙ q) in
      record {
        whole = s.whole;
        rule = s.rule;
        inside = all_inside w (standard_shows family w n.is).0 (lent values octets (first_at ws 0)) (pieces_from (count_at ws 0) ws 0) s.taken.each;
      }

pub rankable : (words values octets : List ℕ) (at : ℕ) → well_formed words values octets at ≡ true → Rankable words at values octets
unfolding well_formed
rankable words values octets at e =
    let r = front_rankable (family_at words at) (drop at words) values octets (body_in (family_at words at) (drop at words) values octets) refl e in
    record {
      whole = omega (arith, length-drop at words, r.whole);
      rule = sym (rule_rest at words) ∙ r.rule;
      inside = subst (λ (s : StoredRule). AllInside (length values) (length octets) s.head.first s.pieces) (stored_rest at words) r.inside;
    }

-- ---- what is told of a rule

pub judged_some : (formed met : Bool) {m : Bool} → Some m ≡ judged formed met → (formed ≡ true) × (m ≡ met)
judged_some true met e = (refl, cc)
judged_some false met e = cc

pub judged_none : (formed met : Bool) → None ≡ judged formed met → formed ≡ false
judged_none true met e = cc
judged_none false met e = refl

-- ---- the ways of the test

-- what is measured in no writing is well-formed in no family
module _ (ws values octets : List ℕ) (none : (w : Reading) → body_from w ws values octets ≡ refuses 10 []) where
  in_none : (a : Answer Reading) → accepted (on_accepted a (λ w. body_from w ws values octets)) ≡ false
  in_none (accepts w) = ap accepted (none w)
  in_none (declines f) = refl

  not_formed : (family : ℕ) → accepted (body_in family ws values octets) ≡ false
  unfolding body_in
  not_formed family = in_none (standard_of family)

-- a family that is no octet is no frame
not_framed : (ws : List ℕ) → 256 ≤ family_at ws 0 → is_framed ws 0 ≡ false
not_framed ws h = ⊎_elim (λ k. many ws 0 k) (λ k. no_family ws 0 k (omega arith)) (lt_or_le 13 (count_at ws 0))

module _ (ws values octets : List ℕ) (at : ℕ) where
  pub few_left : length ws - at < 64 → false ≡ well_formed ws values octets at
  unfolding well_formed
  few_left h =
      let k : length (drop at ws) < 64 = omega (arith, length-drop at ws) in
      sym (not_formed (drop at ws) values octets (λ w. few_words w (drop at ws) values octets k) (family_at ws at))

  module _ (there : 64 ≤ length ws - at) where
    -- so it may be cut to one
    by_octet : accepted (body_in (family_at ws at % 256) (drop at ws) values octets) ≡ well_formed ws values octets at
    unfolding well_formed
    by_octet =
        let k : 64 ≤ length (drop at ws) = omega (arith, length-drop at ws) in
        ⊎_elim
        (λ h. let e : family_at ws at % 256 ≡ family_at ws at = omega arith in ap (λ (f : ℕ). accepted (body_in f (drop at ws) values octets)) e)
        (λ h.
        let far : 256 ≤ family_at (drop at ws) 0 = subst (λ (f : ℕ). 256 ≤ f) (sym (family_rest at ws)) h in
        let none = not_formed (drop at ws) values octets (λ w. no_frame w (drop at ws) values octets k (not_framed (drop at ws) far)) in
        none (family_at ws at % 256) ∙ sym (none (family_at ws at)))
        (lt_or_le (family_at ws at) 256)

    pub as_measured : (w : Reading) → accepts w ≡ standard_of (family_at ws at % 256) → accepted (body_from w (drop at ws) values octets) ≡ well_formed ws values octets at
    as_measured w e = ap accepted (sym (body_in_lem (family_at ws at % 256) (drop at ws) values octets w (sym e))) ∙ by_octet

    pub not_plain : (w : Reading) → accepts w ≡ standard_of (family_at ws at % 256) → w ≡ Plain → ⊥
    not_plain w e z = subst Standard z (standard_shows (family_at ws at % 256) w (sym e)).0

    pub no_standard : (f : Refused) → declines f ≡ standard_of (family_at ws at % 256) → false ≡ well_formed ws values octets at
    no_standard f e = sym (ap accepted (body_no_family (family_at ws at % 256) (drop at ws) values octets f (sym e))) ∙ by_octet
