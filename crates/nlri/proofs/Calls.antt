-- The rule by value in the plain reading and writing: the words of what was read are a rule's, so what is made of them is the rule; and what was stored
-- is what is written.
use Prim.Native.Nat.{ℕ}
use mathlib.Core.Path.{◌≡◌, refl, sym, ap, ◌∙◌}
use mathlib.Core.Bool.{Bool, true, false, ◌||◌}
use mathlib.Core.List.{List, []}
use native.Mathlib.Omega.{arith}
use Rattle.std.proofs.Common.{slice_index_or, Fits, w8}
use lib.Dec.{ltb}
use lib.ListN.{replicate}
use lib.Seq.{sets}
use Rattle.ground.specs.Answers.{Answer, accepts, refuses, declines}
use Rattle.ground.proofs.Answers.{same_accepted, same_refusal}
use Rattle.ground.proofs.Cases.{by_test}
use Rattle.refusals.specs.declared.Fault.{Fault}
use Rattle.refusals.specs.Refusals.{refusal}
use Rattle.choices.specs.declared.Reading.{Reading}
use Rattle.choices.specs.declared.Reading.TheVariants.{Plain}
use Rattle.prefixes.proofs.Accepted.{Octets}
use Rattle.rules.specs.declared.FlowSpecNlri.{FlowSpecNlri}
use Rattle.rules.specs.Components.{holds_one, components_of}
use Rattle.stored.specs.Stored.{head, rule_at}
use Rattle.stored.proofs.Inverse.{put_read}
use Rattle.reading.specs.declared.Taken.{Taken}
use Rattle.reading.specs.Readings.{ReadRule, read_into, taken_of, words_of}
use Rattle.reading.proofs.Walked.{into_read, read_rule_lem, read_family, family_octet}
use Rattle.writing.specs.Writings.{counted, octets_in, written_from}
use Rattle.writing.proofs.Laws.{written_as_lem}
use Rattle.nlri.specs.declared.Parsed.{Parsed}
use Rattle.nlri.specs.Nlri.{rule_in, stored_of, store_answer}
use Rattle.nlri.specs.Calls.{nlri_of, parsed, parsed_of, written_nlri}

-- ---- reading: the words of nothing, and those of a rule in their place
abbrev blank : List ℕ
blank = replicate 64 0

-- what is answered with a rule made of the words, once it is known what was taken
abbrev with_rule : Taken → Answer FlowSpecNlri → Answer Parsed
with_rule t (accepts rule) = accepts (parsed t rule)
with_rule t (declines f) = declines f

module _ (r : Reading) (rd : Bool) (s : List ℕ) (w v o : ℕ) where
  read_by : Octets s → (a : Answer ReadRule) → read_into r rd s w v o ≡ a → (t : Taken) → accepts t ≡ taken_of a → with_rule t (rule_in (rule_at (sets blank 0 (words_of a)) 0)) ≡ parsed_of a
  read_by h (accepts rule) e t k =
      let q = into_read r rd s w v o rule e in
      let g = read_rule_lem r rd s rule h q in
      let f = read_family r rd s rule q in
      let l = family_octet r in
      ap (λ x. with_rule t (rule_in x)) (put_read rule.pieces (head rule.family 0 rule.distinguisher) (omega (arith, g.few)) g.fit (omega arith) blank 0 (omega arith))
      ∙ ap (λ (u : Taken). accepts (parsed u (nlri_of rule))) (same_accepted k)
  read_by h (declines f) e t k = let z : ◌≡◌ {A = ℕ} 0 1 = cc in absurd (omega arith)

  -- the words of what was read are a rule's, so what is made of them is the rule
  module _ (h : (i : ℕ) → Fits w8 (slice_index_or s i 0)) (m : List ℕ) (is : m ≡ sets blank 0 (words_of (read_into r rd s w v o))) (t : Taken) (e : accepts t ≡ taken_of (read_into r rd s w v o)) where
    by_words : (x : Answer FlowSpecNlri) → x ≡ rule_in (rule_at m 0) → with_rule t x ≡ parsed_of (read_into r rd s w v o)
    by_words x k = ap (with_rule t) (k ∙ ap (λ (ws : List ℕ). rule_in (rule_at ws 0)) is) ∙ read_by (λ i. omega (arith, h i)) (read_into r rd s w v o) refl t e

    pub parsed_read : (rule : FlowSpecNlri) → accepts rule ≡ rule_in (rule_at m 0) → accepts (parsed t rule) ≡ parsed_of (read_into r rd s w v o)
    parsed_read rule k = by_words (accepts rule) k

    pub parsed_refused : (f : Fault) → refusal f ≡ rule_in (rule_at m 0) → refusal f ≡ parsed_of (read_into r rd s w v o)
    parsed_refused f k = by_words (refusal f) k

-- ---- writing: what was stored in the words of nothing
module _ (r : FlowSpecNlri) where
  abbrev bad : Bool
  bad = ltb 13 r.count || holds_one 1 (components_of r)

  is_bad : bad ≡ true → store_answer blank 0 r ≡ refuses 10 []
  unfolding store_answer
  is_bad e = rw e

  is_good : bad ≡ false → store_answer blank 0 r ≡ accepts tt
  unfolding store_answer
  is_good e = rw e

  refused : (values octets : List ℕ) (room : ℕ) (f : Fault) → refusal f ≡ store_answer blank 0 r → written_nlri r values octets room ≡ refusal f
  unfolding written_nlri
  refused values octets room f k =
      by_test bad
      (λ e. let g : refusal {A = List ℕ} f ≡ refuses 10 [] = ap declines (same_refusal (k ∙ is_bad e)) in rw (g, e))
      (λ e. let z : ◌≡◌ {A = ℕ} 0 1 = cc (is_good e, k) in absurd (omega arith))

  pub value_refused : (values octets : List ℕ) (room : ℕ) (f : Fault) → refusal f ≡ store_answer blank 0 r → refusal f ≡ counted (written_nlri r values octets room)
  value_refused values octets room f k = sym (ap counted (refused values octets room f k))

  pub value_kept : (values octets out : List ℕ) (room : ℕ) (f : Fault) → refusal f ≡ store_answer blank 0 r → out ≡ sets out 0 (octets_in (written_nlri r values octets room))
  value_kept values octets out room f k = ap (λ x. sets out 0 (octets_in x)) (sym (refused values octets room f k))

  pub value_is : accepts tt ≡ store_answer blank 0 r → (values octets : List ℕ) (room : ℕ) (w : List ℕ) → rule_at w 0 ≡ accepts (stored_of r) → written_nlri r values octets room ≡ written_from Plain w values octets room
  unfolding written_nlri
  value_is k values octets room w e =
      by_test bad
      (λ t. let z : ◌≡◌ {A = ℕ} 0 1 = cc (is_bad t, k) in absurd (omega arith))
      (λ t. rw t (sym (written_as_lem Plain w values octets (stored_of r) e room)))
