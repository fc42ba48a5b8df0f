-- Rules of virtual networks, read: document 01, "Rules of virtual networks"; RFC 8955, 8. The plain reading knows no distinguisher. A standard one gives
-- 19 exactly where one is expected, the stated length fits and the body has fewer than eight octets, at the stated end (`short_only`,
-- `short_told`). Behind eight octets it goes on as without one from there: the same components, the same refusals at the same places
-- (`counts_on`), and with nothing behind them it is a rule with no components (`nothing_behind`).
use Prim.Native.Nat.{ℕ, ◌+◌, ◌-◌, ◌≤◌, ◌<◌}
use mathlib.Core.Path.{◌≡◌, refl, sym, ◌∙◌, ap, ap₂, subst}
use mathlib.Core.Bool.{Bool, true, false}
use mathlib.Core.List.{List, [], ◌∷◌}
use native.Mathlib.Omega.{arith}
use lib.ListN.{length, take, drop}
use Rattle.std.specs.Prelude.{None, Some, Option}
use Rattle.ground.specs.Answers.{Refused, Answer, accepts, refuses, refuses_at, answer_by, declines}
use Rattle.ground.specs.Picks.{pick}
use Rattle.octets.specs.declared.Length.{Length}
use Rattle.octets.specs.Spell.{value_of}
use Rattle.octets.specs.Lengths.{length_at}
use Rattle.choices.specs.declared.Reading.{Reading}
use Rattle.choices.specs.declared.Reading.TheVariants.{Plain, Ipv4, Ipv6}
use Rattle.choices.specs.Choices.{bound_of, front_of, family_of}
use Rattle.walk.specs.Walks.{Body, body, walk_from, walk_at}
use Rattle.reading.specs.Readings.{ReadRule, read_rule, ruled, part, front_at, components_at, stated_at, after_length, too_long, read_at, roomed, read_into}
use Rattle.reading.proofs.Laws.{Short, read_meets_lem}
use Rattle.reading.proofs.Stated.{stated_short, stated_components, front_without}

-- ---- "The plain reading knows none"

plain_after : (s : List ℕ) (a : Answer Length) → after_length Plain true s a ≡ after_length Plain false s a
unfolding stated_at
plain_after s (accepts l) = refl
plain_after s (declines f) = refl

pub plain_knows_none : (s : List ℕ) (w v o : ℕ) → read_into Plain true s w v o ≡ read_into Plain false s w v o
unfolding read_into read_at
plain_knows_none s w v o =
    ap (λ (a : Answer ReadRule). roomed (pick (too_long Plain (length s)) (refuses 8 (length s ∷ [])) a) w v o) (plain_after s (length_at s 0))

-- ---- "A body of fewer than eight octets is then ShortDistinguisher, after the stated length is found to fit and before the first type"

expected_by : (r : Reading) (rd : Bool) {n : ℕ} → n < front_of r rd → rd ≡ true
expected_by Plain rd h = absurd (omega arith)
expected_by Ipv4 true h = refl
expected_by Ipv4 false h = absurd (omega arith)
expected_by Ipv6 true h = refl
expected_by Ipv6 false h = absurd (omega arith)

not_in_plain : (r : Reading) (rd : Bool) {n : ℕ} → n < front_of r rd → r ≡ Plain → ⊥
not_in_plain r rd {n} h e = let z : n < front_of Plain rd = subst (λ (x : Reading). n < front_of x rd) e h in omega arith

-- only there
pub short_only : (r : Reading) (rd : Bool) (s : List ℕ) (w v o : ℕ) (f : Refused) → read_into r rd s w v o ≡ declines f → f.number ≡ 19
    → (rd ≡ true) × ((r ≡ Plain → ⊥) × Short r rd s f)
short_only r rd s w v o f e n =
    let h = (read_meets_lem r rd s w v o e).short n in
    (expected_by r rd h.few, (not_in_plain r rd h.few, h))

-- and there always
module _ (s : List ℕ) (l : Length) (first : length_at s 0 ≡ accepts l) (fits : l.next.at + l.size ≤ length s) (few : l.size < 8) where
  short_at : (r : Reading) → (r ≡ Plain → ⊥) → read_at r true s ≡ refuses_at 19 [] (l.next.at + l.size)
  unfolding read_at
  short_at Plain h = absurd (h refl)
  short_at Ipv4 h = ap (after_length Ipv4 true s) first ∙ stated_short Ipv4 true s l.next.at l.size fits few
  short_at Ipv6 h = ap (after_length Ipv6 true s) first ∙ stated_short Ipv6 true s l.next.at l.size fits few

  pub short_told : (r : Reading) → (r ≡ Plain → ⊥) → (w v o : ℕ) → read_into r true s w v o ≡ refuses_at 19 [] (l.next.at + l.size)
  unfolding read_into
  short_told r h w v o = ap (λ (a : Answer ReadRule). roomed a w v o) (short_at r h)

-- ---- "The components' places count on from there"

abbrev pub distinguished : Option ℕ → Answer ReadRule → Answer ReadRule
distinguished d (accepts x) = accepts (read_rule (body x.pieces x.operators) x.family d x.used)
distinguished d (declines f) = declines f

ruled_with : (family : ℕ) (d e : Option ℕ) (used : ℕ) (a : Answer Body) → ruled family d used a ≡ distinguished d (ruled family e used a)
ruled_with family d e used (accepts b) = refl
ruled_with family d e used (declines f) = refl

-- the eight octets from a place on
abbrev pub spelled_at : List ℕ → ℕ → Option ℕ
spelled_at s at = Some (value_of (take 8 (drop at s)))

module _ (r : Reading) (front : front_of r true ≡ 8) (none : front_of r false ≡ 0) (s : List ℕ) (start size : ℕ) (fits : start + size ≤ length s) (long : 8 ≤ size) where
  stated_on : stated_at r true s start size ≡ distinguished (spelled_at s start) (stated_at r false s (start + 8) (size - 8))
  unfolding front_at
  stated_on =
      let e : start + 8 + (size - 8) ≡ start + size = omega arith in
      let f : start + 8 + 0 ≡ start + 8 = omega arith in
      let g : size - 8 - 0 ≡ size - 8 = omega arith in
      stated_components r true s start size fits (omega arith) ∙ ap (λ (x : ℕ). components_at r x s start size) front
      ∙ ruled_with (family_of r) (spelled_at s start) None (start + size) (answer_by (start + 8) (walk_at r (part s (start + 8) (bound_of r (length s) (start + size))) (size - 8)))
      ∙ ap (distinguished (spelled_at s start))
      (sym (stated_components r false s (start + 8) (size - 8) (omega arith) (omega arith) ∙ ap (λ (x : ℕ). components_at r x s (start + 8) (size - 8)) none
      ∙ ap₂ (λ (x y : ℕ). ruled (family_of r) None x (answer_by y (walk_at r (part s y (bound_of r (length s) x)) (size - 8 - 0)))) e f
      ∙ ap (λ (x : ℕ). ruled (family_of r) None (start + size) (answer_by (start + 8) (walk_at r (part s (start + 8) (bound_of r (length s) (start + size))) x))) g))

empty_body : (r : Reading) → front_of r false ≡ 0 → (s : List ℕ) (start : ℕ) → start ≤ length s → stated_at r false s start 0 ≡ accepts (read_rule (body [] []) (family_of r) None start)
unfolding front_at walk_at walk_from
empty_body r none s start h =
    let e : start + 0 ≡ start = omega arith in
    stated_components r false s start 0 (omega arith) (omega arith) ∙ ap (λ (x : ℕ). components_at r x s start 0) none
    ∙ ap (λ (x : ℕ). accepts (read_rule (body [] []) (family_of r) None x)) e

module _ (s : List ℕ) (l : Length) (first : length_at s 0 ≡ accepts l) (fits : l.next.at + l.size ≤ length s) (long : 8 ≤ l.size) where
  pub counts_on : (r : Reading) → (r ≡ Plain → ⊥) → read_at r true s ≡ distinguished (spelled_at s l.next.at) (stated_at r false s (l.next.at + 8) (l.size - 8))
  unfolding read_at
  counts_on Plain h = absurd (h refl)
  counts_on Ipv4 h = ap (after_length Ipv4 true s) first ∙ stated_on Ipv4 refl refl s l.next.at l.size fits long
  counts_on Ipv6 h = ap (after_length Ipv6 true s) first ∙ stated_on Ipv6 refl refl s l.next.at l.size fits long

  -- "Exactly eight octets is a rule with no components"
  pub nothing_behind : l.size ≡ 8 → (r : Reading) → (r ≡ Plain → ⊥) → read_at r true s ≡ accepts (read_rule (body [] []) (family_of r) (spelled_at s l.next.at) (l.next.at + 8))
  nothing_behind e r h =
      counts_on r h
      ∙ ap (distinguished (spelled_at s l.next.at)) (ap (λ (x : ℕ). stated_at r false s (l.next.at + 8) (x - 8)) e ∙ empty_body r (front_without r) s (l.next.at + 8) (omega arith))
