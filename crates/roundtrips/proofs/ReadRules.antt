-- A whole rule that was read is in canonical form, and is written again: with its words and operators at the front of lent lists, and from the
-- lists that the reading left.
use Prim.Native.Nat.{ℕ, ◌+◌, ◌-◌, ◌≤◌, ◌<◌}
use mathlib.Core.Path.{◌≡◌, refl, sym, ap, ap₂, ◌∙◌, subst}
use mathlib.Core.Bool.{Bool}
use mathlib.Core.List.{List, [], ◌++◌, map, append-nil}
use native.Mathlib.Omega.{arith}
use lib.ListN.{length, drop, length-append, length-map}
use lib.Seq.{sets, sets-eq}
use Rattle.std.specs.Prelude.{Option}
use Rattle.ground.specs.Answers.{accepts}
use Rattle.octets.specs.Lengths.{length_octets}
use Rattle.choices.specs.declared.Reading.{Reading}
use Rattle.choices.specs.Choices.{front_of, family_of}
use Rattle.operators.specs.Ops.{Op, octet_of, number_of, ops_in}
use Rattle.prefixes.proofs.Accepted.{Octets}
use Rattle.stored.specs.declared.Piece.{Piece}
use Rattle.stored.specs.Stored.{Head, head, rule_words, stored_rule, rule_at}
use Rattle.stored.proofs.Words.{at_good}
use Rattle.stored.proofs.Inverse.{length_rule, rule_here}
use Rattle.walk.specs.Walks.{Body, body}
use Rattle.reading.specs.Readings.{ReadRule, read_rule, part, front_at, read_at, standard_into}
use Rattle.reading.proofs.Bodies.{Rule}
use Rattle.reading.proofs.Walked.{into_read, read_rule_lem, octets_part, family_octet}
use Rattle.reading.proofs.Laws.{to_the_last_octet}
use Rattle.measuring.specs.Bodies.{ops_of, distinguisher_octets, body_octets, whole_octets}
use Rattle.measuring.proofs.Laws.{Standard, Taken, standard_shows}
use Rattle.writing.specs.Writings.{nlri_octets, written_from, written_in}
use Rattle.writing.proofs.Laws.{writes, written_in_lem}
use Rattle.roundtrips.specs.Trips.{Canonical, expected, Again}
use Rattle.roundtrips.proofs.CanonicalForm.{named_on}
use Rattle.roundtrips.proofs.Distinguishers.{Word, front_long, front_expected, front_word}
use Rattle.roundtrips.proofs.FamiliesAndRooms.{not_plain, standard_into_lem, read_named, had_room, with_room}
use Rattle.roundtrips.proofs.Lengths.{length_stated}
use Rattle.roundtrips.proofs.Operators.{ops_there}
use Rattle.roundtrips.proofs.ReadBodies.{front_lent, Taking, taking}
use Rattle.roundtrips.proofs.WrittenRules.{taken_back}

-- a rule's words at the front of others
stored_front : (ps : List Piece) (h : Head) (words : List ℕ) → Rule 0 ps → h.family < 256 → rule_at (rule_words ps h ++ words) 0 ≡ accepts (stored_rule ps h)
stored_front ps h words r f =
    let ws = rule_words ps h ++ words in
    let n = r.few in
    let m : length ws ≡ 64 + length words = length-append (rule_words ps h) words ∙ ap (λ (j : ℕ). j + length words) (length_rule ps h (omega arith)) in
    let i = rule_here ps h (omega arith) r.fit f ws 0 words refl in
    at_good ws 0 (omega arith) i.0 ∙ ap accepts i.1

-- a rule that was read, with its words and operators at the front of lent lists
module _ (w : Reading) (st : Standard w) (rd : Bool) (words values octets : List ℕ) where
  abbrev Fronted : ReadRule → Type 0
  Fronted rule =
      Again (written_from w (rule_words rule.pieces (head rule.family 0 rule.distinguisher) ++ words) (map number_of rule.operators ++ values) (map octet_of rule.operators ++ octets))
      (read_at w rd) rule

  -- what is behind it: a distinguisher just if one was expected, components, and a length that is no shorter than the one that is written
  pub record Behind (b : Body) (d : Option ℕ) (n used : ℕ) : Type 0 where
    pub rule : Rule 0 b.pieces
    pub taking : Taking w (front_lent b.operators values octets) 0 0 0 b n
    pub told : expected d ≡ rd
    pub word : Word d
    pub most : front_of w rd + n ≤ 4095
    pub least : length (length_octets (front_of w rd + n)) + (front_of w rd + n) ≤ used

  by_taking : (b : Body) (d : Option ℕ) (n used : ℕ) → Behind b d n used → Fronted (read_rule b (family_of w) d used)
  by_taking b d n used x =
      let h = head (family_of w) 0 d in
      let t = x.taking in
      let s = stored_rule b.pieces h in
      let vs = map number_of b.operators ++ values in
      let os = map octet_of b.operators ++ octets in
      let c = t.count in
      let f = t.few in
      let long = t.long in
      let bs = whole_octets w (front_lent b.operators values octets) d b.pieces in
      let i : length (distinguisher_octets w d) ≡ front_of w rd = front_long w st d ∙ ap (front_of w) x.told in
      let j = length-append (distinguisher_octets w d) (body_octets w (front_lent b.operators values octets) b.pieces) in
      let g : length bs ≡ front_of w rd + n = omega arith in
      let m = x.most in
      let u = x.least in
      let k : Taken w (front_lent b.operators values octets) d b.pieces = record { few = omega arith; each = t.taken; order = t.order; most = omega arith } in
      let z : length (nlri_octets bs) ≡ length (length_octets (front_of w rd + n)) + (front_of w rd + n) =
      length-append (length_octets (length bs)) bs ∙ ap (λ (o : ℕ). length (length_octets o) + o) g in
      record {
        out = nlri_octets bs;
        no_longer = omega arith;
        written = λ room y. writes w (rule_words b.pieces h ++ words) vs os s (stored_front b.pieces h words x.rule (family_octet w)) k room y;
        back = λ ys.
            ap (λ (e : Bool). read_at w e (nlri_octets bs ++ ys)) (sym x.told) ∙ taken_back w st s vs os t.sound x.word k ys
            ∙ ap₂ (λ (p : List Piece) (y : List Op). accepts (read_rule (body p y) (family_of w) d (length (nlri_octets bs)))) t.place t.clear;
      }

  -- the same of its form
  abbrev Fronts : ReadRule → Type 0
  Fronts rule =
      Canonical (stored_rule rule.pieces (head rule.family 0 rule.distinguisher)) (map number_of rule.operators ++ values) (map octet_of rule.operators ++ octets)

  canonical_taking : (b : Body) (d : Option ℕ) (n used : ℕ) → Taking w (front_lent b.operators values octets) 0 0 0 b n → Fronts (read_rule b (family_of w) d used)
  canonical_taking b d n used t =
      let os = b.operators in
      let f : ops_of (front_lent os values octets) 0 (length os) ≡ os =
      ap (λ (l : List Op). ops_in (map number_of l ++ values) (map octet_of l ++ octets) 0 (length os)) (sym (append-nil os)) ∙ ops_there values octets [] os [] in
      record {
        counted = t.place;
        clear = t.clear ∙ sym (named_on (front_lent os values octets) b.pieces 0 t.place ∙ ap (ops_of (front_lent os values octets) 0) t.count ∙ f);
      }

  module _ (s : List ℕ) (rule : ReadRule) (o : Octets s) (e : read_at w rd s ≡ accepts rule) where
    by_reading_lem : (P : ReadRule → Type 0) → ((b : Body) (d : Option ℕ) (n used : ℕ) → Behind b d n used → P (read_rule b (family_of w) d used)) → P rule
    by_reading_lem P f =
        let x = to_the_last_octet w (not_plain w st) rd s rule e in
        let front = front_of w rd in
        let at = x.stated.next.at in
        let n = x.stated.size in
        let b = x.given in
        let d = front_at front s at in
        let l = length_stated s x.stated o x.first in
        let p = octets_part s (at + front) (at + n) o in
        let m = l.most in
        let k = l.least in
        let i = x.fits in
        let c : front + (n - front) ≡ n = omega arith in
        subst P x.is (f b d (n - front) (at + n)
        (record {
          rule = read_rule_lem w rd s (read_rule b (family_of w) d (at + n)) o (e ∙ ap accepts (sym x.is));
          taking = taking w st (part s (at + front) (at + n)) p (n - front) b.operators values octets x.chain refl;
          told = front_expected s at w st rd;
          word = front_word s at w rd o (omega (arith, x.within));
          most = omega arith;
          least = rw c (omega arith);
        }))

    pub rewritten : Fronted rule
    rewritten = by_reading_lem Fronted by_taking

    pub read_fronts : Fronts rule
    read_fronts = by_reading_lem Fronts (λ b d n used x. canonical_taking b d n used x.taking)

-- ---- from the lists that the reading left

front : (l vs : List ℕ) → length vs ≤ length l → sets l 0 vs ≡ vs ++ drop (length vs) l
front l vs h = let z : 0 + length vs ≡ length vs = omega arith in sets-eq vs l 0 (omega arith) ∙ ap (λ (n : ℕ). vs ++ drop n l) z

module _ (family : ℕ) (rd : Bool) (s words values octets : List ℕ) (rule : ReadRule) (o : Octets s) (e : standard_into family rd s (length words) (length values) (length octets) ≡ accepts rule) where
  pub into_written : Again
      (written_in family (sets words 0 (rule_words rule.pieces (head rule.family 0 rule.distinguisher))) (sets values 0 (map number_of rule.operators)) (sets octets 0 (map octet_of rule.operators)))
      (λ x. standard_into family rd x (length words) (length values) (length octets)) rule
  into_written =
      let i = read_named family rd s (length words) (length values) (length octets) rule e in
      let w = i.reading in
      let st = (standard_shows family w i.is).0 in
      let d = sym (standard_into_lem family rd s (length words) (length values) (length octets) w i.is) ∙ e in
      let q = into_read w rd s (length words) (length values) (length octets) rule d in
      let r = had_room w rd s rule (length words) (length values) (length octets) d in
      let f = (read_rule_lem w rd s rule o q).few in
      let h = head rule.family 0 rule.distinguisher in
      let xs = rule_words rule.pieces h in
      let vs = map number_of rule.operators in
      let os = map octet_of rule.operators in
      let n : length xs ≡ 64 = length_rule rule.pieces h (omega arith) in
      let k : length vs ≡ length rule.operators = length-map rule.operators number_of in
      let m : length os ≡ length rule.operators = length-map rule.operators octet_of in
      let u = r.for_rule in
      let v = r.in_values in
      let y = r.in_octets in
      let a = rewritten w st rd (drop (length xs) words) (drop (length vs) values) (drop (length os) octets) s rule o q in
      record {
        out = a.out;
        no_longer = a.no_longer;
        written = λ room g.
            written_in_lem family (sets words 0 xs) (sets values 0 vs) (sets octets 0 os) w i.is room
            ∙ ap₂ (λ (j l : List ℕ). written_from w j l (sets octets 0 os) room) (front words xs (omega arith)) (front values vs (omega arith))
            ∙ ap (λ (j : List ℕ). written_from w (xs ++ drop (length xs) words) (vs ++ drop (length vs) values) j room) (front octets os (omega arith))
            ∙ a.written room g;
        back = λ ys.
            standard_into_lem family rd (a.out ++ ys) (length words) (length values) (length octets) w i.is
            ∙ with_room w rd (a.out ++ ys) (read_rule (body rule.pieces rule.operators) rule.family rule.distinguisher (length a.out)) (length words) (length values) (length octets)
            (a.back ys) record { for_rule = u; in_values = v; in_octets = y };
      }
