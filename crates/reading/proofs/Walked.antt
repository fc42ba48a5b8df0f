-- What is behind a rule that was read: the length and the walk that gave it; and that it is a rule, whose words give it back.
use Prim.Native.Nat.{ℕ, zero, suc, ◌+◌, ◌-◌, ◌≤◌, ◌<◌}
use mathlib.Core.Path.{◌≡◌, refl, sym, ap, ap₂, ◌∙◌, subst}
use mathlib.Core.Bool.{Bool, true}
use mathlib.Core.List.{List, [], ◌∷◌}
use native.Mathlib.Omega.{arith}
use borrow.Author.Tests.{ltb-false, leb-false}
use lib.Dec.{ltb, leb}
use lib.ListN.{length, get_or, take, drop}
use lib.Seq.{get_or-drop, sets}
use Rattle.std.specs.Prelude.{None, Option}
use Rattle.stored.specs.Stored.{head, rule_words}
use Rattle.stored.specs.Distinguishers.{distinguished_with}
use Rattle.stored.proofs.Words.{rule_distinguished}
use Rattle.ground.proofs.Answers.{never, same_accepted}
use Rattle.ground.specs.Answers.{Answer, answer_by, accepts, declines}
use Rattle.ground.proofs.Cases.{by_test}
use Rattle.octets.specs.declared.Length.{Length}
use Rattle.octets.specs.Lengths.{length_at}
use Rattle.choices.specs.declared.Reading.{Reading}
use Rattle.choices.specs.declared.Reading.TheVariants.{Plain, Ipv4, Ipv6}
use Rattle.choices.specs.Choices.{bound_of, front_of, family_of}
use Rattle.prefixes.proofs.Accepted.{Octets}
use Rattle.walk.specs.Walks.{Body, walk_at}
use Rattle.reading.specs.Readings.{ReadRule, read_rule, ruled, part, front_at, stated_at, after_length, too_long, read_at, shorter, roomed, read_into}
use Rattle.reading.specs.Parts.{is_body, body_in, body_at, is_read, rule_in, read_of, body_start}
use Rattle.reading.proofs.Ways.{after_of, bound_in}
use Rattle.reading.proofs.Bodies.{Rule, body_rule}

-- the octets that the walk sees: those behind a distinguisher, up to the bound
abbrev pub seen_by : Reading → Bool → List ℕ → Length → List ℕ
seen_by r rd s l = part s (l.next.at + front_of r rd) (bound_of r (length s) (l.next.at + l.size))

-- the length, and the walk over what follows it and a distinguisher
pub record Walked (r : Reading) (rd : Bool) (s : List ℕ) (rule : ReadRule) : Type 0 where
  pub stated : Length
  pub first : length_at s 0 ≡ accepts stated
  pub within : stated.next.at + stated.size ≤ length s
  pub fits : front_of r rd ≤ stated.size
  pub given : Body
  pub walked : walk_at r (seen_by r rd s stated) (stated.size - front_of r rd) ≡ accepts given
  pub is : read_rule given (family_of r) (front_at (front_of r rd) s stated.next.at) (stated.next.at + stated.size) ≡ rule

module _ (r : Reading) (rd : Bool) (s : List ℕ) (rule : ReadRule) where
  by_walk : (l : Length) → length_at s 0 ≡ accepts l → l.next.at + l.size ≤ length s → front_of r rd ≤ l.size → (a : Answer Body)
      → walk_at r (seen_by r rd s l) (l.size - front_of r rd) ≡ a
      → ruled (family_of r) (front_at (front_of r rd) s l.next.at) (l.next.at + l.size) (answer_by (l.next.at + front_of r rd) a) ≡ accepts rule → Walked r rd s rule
  by_walk l i h k (accepts b) q e = record { stated = l; first = i; within = h; fits = k; given = b; walked = q; is = same_accepted e }
  by_walk l i h k (declines f) q e = never e

  by_length : (a : Answer Length) → length_at s 0 ≡ a → after_length r rd s a ≡ accepts rule → Walked r rd s rule
  unfolding stated_at
  by_length (accepts l) i e =
      by_test (ltb (length s) (l.next.at + l.size))
      (λ t. never (rw t at e))
      (λ f. by_test (ltb l.size (front_of r rd))
      (λ t. never (rw (f, t) at e))
      (λ g.
      by_walk l i (ltb-false (length s) (l.next.at + l.size) f) (ltb-false l.size (front_of r rd) g) (walk_at r (seen_by r rd s l) (l.size - front_of r rd)) refl
      (rw (f, g) at e)))
  by_length (declines f) i e = never e

  pub read_walked : read_at r rd s ≡ accepts rule → Walked r rd s rule
  unfolding read_at
  read_walked e = by_test (too_long r (length s)) (λ t. never (rw t at e)) (λ f. by_length (length_at s 0) refl (rw f at e))

-- what is accepted with room is accepted
unroomed : (a : Answer ReadRule) (w v o : ℕ) (rule : ReadRule) → roomed a w v o ≡ accepts rule → a ≡ accepts rule
unroomed (accepts x) w v o rule e =
    by_test (ltb w 64)
    (λ t. never (rw t at e))
    (λ f. by_test (ltb (shorter v o) (length x.operators)) (λ t. never (rw (f, t) at e)) (λ g. rw (f, g) at e))
unroomed (declines f) w v o rule e = never e

pub into_read : (r : Reading) (rd : Bool) (s : List ℕ) (w v o : ℕ) (rule : ReadRule) → read_into r rd s w v o ≡ accepts rule → read_at r rd s ≡ accepts rule
unfolding read_into
into_read r rd s w v o rule e = unroomed (read_at r rd s) w v o rule e

-- the octets of a part
octets_take : (k : ℕ) (s : List ℕ) → Octets s → Octets (take k s)
octets_take zero s h i = omega arith
octets_take (suc k) [] h i = omega arith
octets_take (suc k) (x ∷ s) h zero = h 0
octets_take (suc k) (x ∷ s) h (suc i) = octets_take k s (λ j. h (suc j)) i

pub octets_part : (s : List ℕ) (from to : ℕ) → Octets s → Octets (part s from to)
octets_part s from to h = octets_take (to - from) (drop from s) (λ i. rw get_or-drop (h (from + i)))

-- what was read is a rule
pub read_rule_lem : (r : Reading) (rd : Bool) (s : List ℕ) (rule : ReadRule) → Octets s → read_at r rd s ≡ accepts rule → Rule 0 rule.pieces
read_rule_lem r rd s rule o e =
    let w = read_walked r rd s rule e in
    let a = w.stated.next.at in
    let b = bound_of r (length s) (a + w.stated.size) in
    subst (λ (x : ReadRule). Rule 0 x.pieces) w.is
    (body_rule r (seen_by r rd s w.stated) (w.stated.size - front_of r rd) w.given (octets_part s (a + front_of r rd) b o) w.walked)

pub read_family : (r : Reading) (rd : Bool) (s : List ℕ) (rule : ReadRule) → read_at r rd s ≡ accepts rule → family_of r ≡ rule.family
read_family r rd s rule e = ap (λ (x : ReadRule). x.family) (read_walked r rd s rule e).is

pub family_octet : (r : Reading) → family_of r < 256
family_octet Plain = omega arith
family_octet Ipv4 = omega arith
family_octet Ipv6 = omega arith

-- where a body starts, by the first octet of the length
pub starts : (s : List ℕ) {l : Length} → length_at s 0 ≡ accepts l → (0 < length s) × (l.next.at ≡ body_start (get_or s 0 0))
unfolding length_at
starts s {l} e =
    by_test (leb (length s) 0)
    (λ t. never (rw t at e))
    (λ f. by_test (ltb (get_or s 0 0) 240)
    (λ t. let n = after_of (rw (f, t) at e) in let g = leb-false (length s) 0 f in (omega arith, rw t (sym n)))
    (λ k. by_test (leb (length s) 1)
    (λ t. never (rw (f, k, t) at e))
    (λ g. let n = after_of (rw (f, k, g) at e) in let i = leb-false (length s) 0 f in (omega arith, rw k (sym n)))))

-- what the second pass goes by, once an input was tested: where its length ends, how many octets stand before the first component, and where its part ends
pub record Tested (r : Reading) (rd : Bool) (s : List ℕ) (used at front end : ℕ) : Type 0 where
  pub some : 0 < length s
  pub fits : at + front ≤ length s
  pub start : at + front ≤ used
  pub within : (at + front ≤ end) × (end ≤ length s)
  pub walked : is_body (walk_at r (part s (at + front) end) (used - (at + front))) ≡ true
  pub is : read_of r rd s ≡ read_rule (body_at r (part s (at + front) end) (used - (at + front))) (family_of r) (front_at front s at) used

read_in_lem : (a : Answer ReadRule) → is_read a ≡ true → a ≡ accepts (rule_in a)
read_in_lem (accepts x) e = refl
read_in_lem (declines f) e = let z : ◌≡◌ {A = ℕ} 0 1 = cc in absurd (omega arith)

tested : (r : Reading) (rd : Bool) (s : List ℕ) {used : ℕ} → is_read (read_at r rd s) ≡ true → used ≡ (read_of r rd s).used
    → Tested r rd s used (body_start (get_or s 0 0)) (front_of r rd) (bound_of r (length s) used)
tested r rd s {used} h u =
    let w = read_walked r rd s (read_of r rd s) (read_in_lem (read_at r rd s) h) in
    let a = body_start (get_or s 0 0) in
    let b = w.stated.next.at in
    let m = front_of r rd in
    let k = starts s w.first in
    let e : b ≡ a = k.1 in
    let f : b + w.stated.size ≡ used = ap (λ (x : ReadRule). x.used) w.is ∙ sym u in
    let t = w.fits in
    let g : w.stated.size - m ≡ used - (a + m) = omega arith in
    let n = w.within in
    let q : walk_at r (part s (a + m) (bound_of r (length s) used)) (used - (a + m)) ≡ accepts w.given =
    subst (λ (x : ℕ). walk_at r (part s (x + m) (bound_of r (length s) used)) (used - (a + m)) ≡ accepts w.given) e
    (subst (λ (y : ℕ). walk_at r (part s (b + m) (bound_of r (length s) y)) (used - (a + m)) ≡ accepts w.given) f
    (subst (λ (z : ℕ). walk_at r (part s (b + m) (bound_of r (length s) (b + w.stated.size))) z ≡ accepts w.given) g w.walked)) in
    record {
      some = k.0;
      fits = omega arith;
      start = omega arith;
      within = bound_in r (length s) (a + m) used (omega arith) (omega arith);
      walked = ap is_body q;
      is = sym w.is ∙ ap₂ (λ (x y : ℕ). read_rule w.given (family_of r) (front_at m s x) y) e f
          ∙ ap (λ (x : Answer Body). read_rule (body_in x) (family_of r) (front_at m s a) used) (sym q);
    }

-- by what the code has computed
pub tested_read : (r : Reading) (rd : Bool) (s : List ℕ) {used at front end : ℕ} → at ≡ body_start (get_or s 0 0) → front ≡ front_of r rd → end ≡ bound_of r (length s) used
    → is_read (read_at r rd s) ≡ true → used ≡ (read_of r rd s).used → Tested r rd s used at front end
tested_read r rd s a f b h u = rw (a, f, b) (tested r rd s h u)

-- the words that the second pass stores, and a distinguisher over them, are those of the rule that was read
pub words_tested : (r : Reading) (rd : Bool) (s : List ℕ) (used at front end : ℕ) → Tested r rd s used at front end → (words : List ℕ) (first : ℕ) {stored : List ℕ} {d : Option ℕ}
    → stored ≡ sets words 0 (rule_words (body_at r (part s (at + front) end) (used - (at + front))).pieces (head (family_of r) first None))
    → length (body_at r (part s (at + front) end) (used - (at + front))).pieces ≤ 13 → d ≡ front_at front s at
    → distinguished_with d stored 0 ≡ sets words 0 (rule_words (read_of r rd s).pieces (head (read_of r rd s).family first (read_of r rd s).distinguisher))
words_tested r rd s used at front end t words first e few f =
    rw (t.is, e, f) (rule_distinguished words 0 (family_of r) first (body_at r (part s (at + front) end) (used - (at + front))).pieces few (front_at front s at))
