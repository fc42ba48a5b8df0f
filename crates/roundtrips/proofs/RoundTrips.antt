-- The four statements on whole rules, in one place. They are over the definitions that the contracts cite: `read_at`, `read_into` and
-- `standard_into` are what `read_into` and `read` of `reading` answer and leave behind, and `krubbadin_read`; `written_from` and `written_in` are
-- so of `write_from` and `write` of `writing`, and `krubbadin_write`. A standard reading or writing is one that is not plain.
--
-- (a) Round trip. `written_read`: what the standard writing wrote of the rule in the lent words, the standard reading accepts, also with
--     anything after it; it gives the rule's components and operators back and uses the octets that were written. They come in canonical form
--     (specs/Trips.antt): the same components and operators, places counted from 0 on, reserved bits 0. `written_read_same`: a rule in that
--     form comes back as it is. `written_read_in`: the first, of the functions that are told a family and lent room.
-- (b) One canonical form. `read_written`: what the standard reading accepted, the standard writing accepts wherever its octets have room. They
--     are no more than were read, and with anything after them they are read as the same rule. The rule's words and operators stand at the
--     front of the lent lists, whatever follows them. `read_canonical`: there the rule is in canonical form. `read_written_in`: the first, of
--     the functions that are told a family, with the lists as the reading leaves them.
-- (c) The body is exact. `body_exact`: an accepted standard reading uses the stated length to its last octet, and its components leave none
--     over.
-- (d) No second answer. `read_once`, `written_once`: two answers that meet one contract are the same. What a call leaves in the lent lists is
--     stated whole in its contract, so that has no second either.
--
-- Words are below 2 ^ 64 and the octets of an input below 256, as their types have it (`Words`, `Octets`). Assumes nothing else.
use Prim.Native.Nat.{ℕ}
use mathlib.Core.Path.{◌≡◌, sym, ap, ◌∙◌}
use mathlib.Core.Bool.{Bool}
use mathlib.Core.List.{List, [], ◌++◌, map}
use lib.ListN.{length}
use lib.Seq.{sets}
use Rattle.std.specs.declared.result.Result.{Result}
use Rattle.ground.specs.Answers.{accepts}
use Rattle.refusals.specs.declared.Fault.{Fault}
use Rattle.refusals.specs.Refusals.{answered}
use Rattle.choices.specs.declared.Reading.{Reading}
use Rattle.choices.specs.declared.Reading.TheVariants.{Plain}
use Rattle.choices.specs.Choices.{family_of}
use Rattle.operators.specs.Ops.{octet_of, number_of}
use Rattle.prefixes.proofs.Accepted.{Octets}
use Rattle.stored.specs.Stored.{head, rule_words, StoredRule, stored_rule, rule_at}
use Rattle.walk.specs.Walks.{body}
use Rattle.measuring.specs.Bodies.{lent, ops_of}
use Rattle.measuring.specs.Grounds.{all_operators}
use Rattle.measuring.proofs.Laws.{standard_shows}
use Rattle.reading.specs.declared.Taken.{Taken}
use Rattle.reading.specs.Readings.{ReadRule, read_rule, read_at, standard_into}
use Rattle.reading.proofs.Laws.{Exact, to_the_last_octet}
use Rattle.reading.proofs.Once.{into_once}
use Rattle.writing.specs.Writings.{written_from, written_in}
use Rattle.writing.proofs.Laws.{written_named, written_in_lem}
use Rattle.writing.proofs.Once.{written_once as IsWritten-one}
use Rattle.roundtrips.specs.Trips.{canonical, Canonical, expected, Words, Room, Again}
use Rattle.roundtrips.proofs.CanonicalForm.{canonical_same}
use Rattle.roundtrips.proofs.FamiliesAndRooms.{standard, not_plain, standard_into_lem, with_room}
use Rattle.roundtrips.proofs.ReadRules.{rewritten, read_fronts, into_written}
use Rattle.roundtrips.proofs.WrittenRules.{written_back}

-- (a)
module _ (w : Reading) (h : w ≡ Plain → ⊥) (words values octets : List ℕ) (room : ℕ) (xs : List ℕ) (rule : StoredRule) where
  pub written_read : Words words → rule_at words 0 ≡ accepts rule → written_from w words values octets room ≡ accepts xs
      → (ys : List ℕ)
      → read_at w (expected rule.head.distinguisher) (xs ++ ys) ≡ accepts (read_rule (canonical rule values octets) (family_of w) rule.head.distinguisher (length xs))
  written_read ws i e ys = written_back w (standard w h) words values octets room xs rule ws i e ys

  pub written_read_same : Words words → rule_at words 0 ≡ accepts rule → Canonical rule values octets → written_from w words values octets room ≡ accepts xs
      → (ys : List ℕ)
      → read_at w (expected rule.head.distinguisher) (xs ++ ys)
      ≡ accepts (read_rule (body rule.pieces (ops_of (lent values octets rule.head.first) 0 (all_operators rule.pieces))) (family_of w) rule.head.distinguisher (length xs))
  written_read_same ws i c e ys =
      written_read ws i e ys ∙ ap (λ b. accepts (read_rule b (family_of w) rule.head.distinguisher (length xs))) (canonical_same rule values octets c)

pub written_read_in : (family : ℕ) (words values octets : List ℕ) (room : ℕ) (xs : List ℕ) (rule : StoredRule)
    → Words words → rule_at words 0 ≡ accepts rule → written_in family words values octets room ≡ accepts xs
    → (ys : List ℕ) (lentWords lentValues lentOctets : ℕ) → Room (read_rule (canonical rule values octets) family rule.head.distinguisher (length xs)) lentWords lentValues lentOctets
    → standard_into family (expected rule.head.distinguisher) (xs ++ ys) lentWords lentValues lentOctets
    ≡ accepts (read_rule (canonical rule values octets) family rule.head.distinguisher (length xs))
written_read_in family words values octets room xs rule ws i e ys a b c r =
    let n = written_named family words values octets room xs e in
    let w = n.reading in
    let st = standard_shows family w n.is in
    let q = sym (written_in_lem family words values octets w n.is room) ∙ e in
    let p = written_read w (not_plain w st.0) words values octets room xs rule ws i q ys in
    let d = rule.head.distinguisher in
    standard_into_lem family (expected d) (xs ++ ys) a b c w n.is
    ∙ with_room w (expected d) (xs ++ ys) (read_rule (canonical rule values octets) family d (length xs)) a b c
    (p ∙ ap (λ (f : ℕ). accepts (read_rule (canonical rule values octets) f d (length xs))) st.1) r

-- (b)
module _ (w : Reading) (h : w ≡ Plain → ⊥) (rd : Bool) (s : List ℕ) (rule : ReadRule) where
  pub read_written : Octets s → read_at w rd s ≡ accepts rule → (words values octets : List ℕ)
      → Again
      (written_from w (rule_words rule.pieces (head rule.family 0 rule.distinguisher) ++ words) (map number_of rule.operators ++ values) (map octet_of rule.operators ++ octets))
      (read_at w rd) rule
  read_written o e words values octets = rewritten w (standard w h) rd words values octets s rule o e

  pub read_canonical : Octets s → read_at w rd s ≡ accepts rule → (values octets : List ℕ)
      → Canonical (stored_rule rule.pieces (head rule.family 0 rule.distinguisher)) (map number_of rule.operators ++ values) (map octet_of rule.operators ++ octets)
  read_canonical o e values octets = read_fronts w (standard w h) rd [] values octets s rule o e

pub read_written_in : (family : ℕ) (rd : Bool) (s words values octets : List ℕ) (rule : ReadRule)
    → Octets s → standard_into family rd s (length words) (length values) (length octets) ≡ accepts rule
    → Again
    (written_in family (sets words 0 (rule_words rule.pieces (head rule.family 0 rule.distinguisher))) (sets values 0 (map number_of rule.operators)) (sets octets 0 (map octet_of rule.operators)))
    (λ x. standard_into family rd x (length words) (length values) (length octets)) rule
read_written_in family rd s words values octets rule o e = into_written family rd s words values octets rule o e

-- (c)
pub body_exact : (w : Reading) → (w ≡ Plain → ⊥) → (rd : Bool) (s : List ℕ) (rule : ReadRule) → read_at w rd s ≡ accepts rule → Exact w rd s rule
body_exact = to_the_last_octet

-- (d)
pub read_once : (a b : Result Taken Fault) → answered a ≡ answered b → a ≡ b
read_once = into_once

pub written_once : (a b : Result ℕ Fault) → answered a ≡ answered b → a ≡ b
written_once = IsWritten-one
