-- The turns of the second walk, over plain lists: `Stored` is the loop's invariant. What is to be stored in all is what is stored and what is left
-- at the place, so at the end all of it is.
use Prim.Native.Nat.{ℕ, ◌+◌, ◌*◌, ◌≤◌, ◌<◌}
use mathlib.Core.Path.{◌≡◌, refl, sym, ◌∙◌, ap, ap₂}
use mathlib.Core.Bool.{true}
use mathlib.Core.List.{List, [], ◌∷◌, ◌++◌, map}
use native.Mathlib.Omega.{arith}
use lib.ListN.{length, get_or, length-append, length-map}
use lib.Seq.{sets, length-sets}
use Rattle.ground.specs.Answers.{Answer, accepts, declines}
use Rattle.ground.proofs.Overlays.{sets_append}
use Rattle.choices.specs.declared.Reading.{Reading}
use Rattle.operators.specs.Ops.{Op, octet_of, number_of}
use Rattle.stored.specs.Pieces.{piece_words}
use Rattle.stored.specs.Stored.{Head, all_words, tail_words, rule_words}
use Rattle.stored.proofs.Words.{rule_whole}
use Rattle.lists.specs.Runs.{Places}
use Rattle.walk.specs.Walks.{FoundAt, component_at, Body, body, joined, walk_at}
use Rattle.walk.proofs.Components.{Here, here}
use Rattle.walk.specs.Turns.{rest}
use Rattle.walk.proofs.Turns.{rest_first, rest_end, rest_refused, rest_part}
use Rattle.reading.specs.Parts.{is_found, found_in, is_body, body_in, typed_here, Standing, found_here, body_at}
use Rattle.reading.proofs.Components.{false_true}

map_append : (f : Op → ℕ) (a b : List Op) → map f (a ++ b) ≡ map f a ++ map f b
map_append f [] b = refl
map_append f (x ∷ a) b = ap (λ (l : List ℕ). f x ∷ l) (map_append f a b)

-- what is left of the body
abbrev left : Reading → List ℕ → ℕ → ℕ → ℕ → ℕ → ℕ → Body
left r s stop at previous start j = body_in (rest r s stop at previous start j)

-- of a body that was accepted, the rest is
joined_body : (p : FoundAt) (a : Answer Body) → is_body (joined p a) ≡ true
    → (is_body a ≡ true) × (body_in (joined p a) ≡ body (p.piece ∷ (body_in a).pieces) (p.operators ++ (body_in a).operators))
joined_body p (accepts b) e = (refl, refl)
joined_body p (declines f) e = false_true e

pub record Stored (r : Reading) (s : List ℕ) (stop first : ℕ) (ws₀ vs₀ os₀ ws vs os : List ℕ) (at start j : ℕ) : Type 0 where
  pub previous : ℕ
  pub few : j ≤ previous
  pub known : previous ≤ 13
  pub place : start ≤ at
  pub accepted : is_body (rest r s stop at previous start j) ≡ true
  pub total : j + length (left r s stop at previous start j).pieces ≡ length (body_at r s stop).pieces
  pub words : sets ws₀ 0 (all_words (body_at r s stop).pieces) ≡ sets ws (4 * j) (all_words (left r s stop at previous start j).pieces)
  pub values : sets vs₀ first (map number_of (body_at r s stop).operators) ≡ sets vs (first + start) (map number_of (left r s stop at previous start j).operators)
  pub octets : sets os₀ first (map octet_of (body_at r s stop).operators) ≡ sets os (first + start) (map octet_of (left r s stop at previous start j).operators)
  pub in_words : 64 ≤ length ws
  pub in_values : first + start + length (left r s stop at previous start j).operators ≤ length vs
  pub in_octets : first + start + length (left r s stop at previous start j).operators ≤ length os
  pub long_words : length ws ≡ length ws₀
  pub long_values : length vs ≡ length vs₀
  pub long_octets : length os ≡ length os₀

pub stored_first : (r : Reading) (s : List ℕ) (stop first : ℕ) (ws vs os : List ℕ) → is_body (walk_at r s stop) ≡ true → 64 ≤ length ws
    → Places first (length (body_at r s stop).operators) (length vs) (length os) → Stored r s stop first ws vs os ws vs os 0 0 0
stored_first r s stop first ws vs os ok w m =
    let z : first ≡ first + 0 = omega arith in
    let e = rest_first r s stop in
    let b = ap body_in e in
    let n = ap (λ (x : Body). length x.pieces) b in
    let o = ap (λ (x : Body). length x.operators) b in
    record {
      previous = 0;
      few = omega arith;
      known = omega arith;
      place = omega arith;
      accepted = sym (ap is_body e) ∙ ok;
      total = omega arith;
      words = ap (λ (x : Body). sets ws 0 (all_words x.pieces)) b;
      values = ap₂ (λ (i : ℕ) (x : Body). sets vs i (map number_of x.operators)) z b;
      octets = ap₂ (λ (i : ℕ) (x : Body). sets os i (map octet_of x.operators)) z b;
      in_words = w;
      in_values = omega (arith, m.in_values);
      in_octets = omega (arith, m.in_octets);
      long_words = refl;
      long_values = refl;
      long_octets = refl;
    }

module _ {r : Reading} {s : List ℕ} {stop first : ℕ} {ws₀ vs₀ os₀ ws vs os : List ℕ} {at start j : ℕ} (h : Stored r s stop first ws₀ vs₀ os₀ ws vs os at start j) where
  pub few_of : j ≤ 13
  few_of = omega (arith, h.few, h.known)

  -- nothing is left: what is stored, with the words that follow the components, is all
  pub stored_end : stop ≤ at → (said : Head) {ws' : List ℕ} → ws' ≡ sets ws (0 + 4 * j) (tail_words j said)
      → (ws' ≡ sets ws₀ 0 (rule_words (body_at r s stop).pieces said))
      × ((vs ≡ sets vs₀ first (map number_of (body_at r s stop).operators))
      × ((os ≡ sets os₀ first (map octet_of (body_at r s stop).operators)) × (length (body_at r s stop).pieces ≤ 13)))
  unfolding all_words
  stored_end k said {ws'} e =
      let z = ap body_in (rest_end r s stop at h.previous start j few_of k) in
      let n = ap (λ (x : Body). length x.pieces) z in
      let w : ws ≡ sets ws₀ 0 (all_words (body_at r s stop).pieces) = sym (h.words ∙ ap (λ (x : Body). sets ws (4 * j) (all_words x.pieces)) z) in (
        rule_whole ws₀ ws ws' 0 j said (body_at r s stop).pieces (omega (arith, h.total)) w e,
        (
          sym (h.values ∙ ap (λ (x : Body). sets vs (first + start) (map number_of x.operators)) z),
          (sym (h.octets ∙ ap (λ (x : Body). sets os (first + start) (map octet_of x.operators)) z), omega (arith, h.total, few_of)),
        ),
      )

  module _ (k : at < stop) where
    by_answer : (a : Answer FoundAt) → component_at r s at h.previous start ≡ a → a ≡ accepts (found_in a)
    by_answer (accepts p) e = refl
    by_answer (declines f) e = false_true (ap is_body (sym (rest_refused r s stop at h.previous start j few_of k e)) ∙ h.accepted)

    some : component_at r s at h.previous start ≡ accepts (found_in (component_at r s at h.previous start))
    some = by_answer (component_at r s at h.previous start) refl

    typed : typed_here r s at start ≡ accepts (found_in (component_at r s at h.previous start))
    unfolding typed_here
    typed = (here r s at h.previous start some).typed

    found : component_at r s at h.previous start ≡ accepts (found_here r s at start)
    found = some ∙ ap accepts (sym (ap found_in typed))

    spot : Here r s at h.previous start (found_here r s at start)
    spot = here r s at h.previous start found

    pub standing : Standing r s at start
    standing = record { within = spot.within; first = omega (arith, spot.rises); most = spot.most; accepted = ap is_found typed }

    pub bounds : (at + length (found_here r s at start).operators < (found_here r s at start).next) × ((found_here r s at start).next ≤ length s)
    bounds = (spot.past, spot.inside)

    -- the walk from the next place on
    abbrev onward : Answer Body
    onward = rest r s stop (found_here r s at start).next (get_or s at 0) (start + length (found_here r s at start).operators) (j + 1)

    onward_body : (is_body onward ≡ true)
        × (left r s stop at h.previous start j ≡ body ((found_here r s at start).piece ∷ (body_in onward).pieces) ((found_here r s at start).operators ++ (body_in onward).operators))
    onward_body =
        let e = rest_part r s stop at h.previous start j few_of k found in
        let q = joined_body (found_here r s at start) onward (sym (ap is_body e) ∙ h.accepted) in
        (q.0, ap body_in e ∙ q.1)

    counted : length (left r s stop at h.previous start j).operators ≡ length (found_here r s at start).operators + length (body_in onward).operators
    counted = ap (λ (x : Body). length x.operators) onward_body.1 ∙ length-append (found_here r s at start).operators (body_in onward).operators

    pub asked : (4 * j + 4 ≤ length ws) × Places (first + start) (length (found_here r s at start).operators) (length vs) (length os)
    asked =
        let c = counted in
        let l = spot.most in
        let u = spot.rises in
        (omega (arith, h.few, h.in_words), record { in_values = omega (arith, h.in_values); in_octets = omega (arith, h.in_octets) })

    stored : (g : Op → ℕ) (l : List ℕ) {l₀ l' : List ℕ} → l₀ ≡ sets l (first + start) (map g (left r s stop at h.previous start j).operators)
        → l' ≡ sets l (first + start) (map g (found_here r s at start).operators) → l₀ ≡ sets l' (first + (start + length (found_here r s at start).operators)) (map g (body_in onward).operators)
    stored g l p q =
        let n : length (map g (found_here r s at start).operators) ≡ length (found_here r s at start).operators = simp length-map in
        let i : first + start + length (map g (found_here r s at start).operators) ≡ first + (start + length (found_here r s at start).operators) = omega (arith, n) in
        p ∙ ap (λ (x : Body). sets l (first + start) (map g x.operators)) onward_body.1
        ∙ ap (sets l (first + start)) (map_append g (found_here r s at start).operators (body_in onward).operators)
        ∙ sets_append l (first + start) (map g (found_here r s at start).operators) (map g (body_in onward).operators)
        ∙ ap₂ (λ (x : List ℕ) (y : ℕ). sets x y (map g (body_in onward).operators)) (sym q) i

    worded : {ws' : List ℕ} → ws' ≡ sets ws (4 * j) (piece_words (found_here r s at start).piece)
        → sets ws₀ 0 (all_words (body_at r s stop).pieces) ≡ sets ws' (4 * (j + 1)) (all_words (body_in onward).pieces)
    unfolding all_words
    worded is =
        let i : 4 * j + 4 ≡ 4 * (j + 1) = omega arith in
        h.words ∙ ap (λ (x : Body). sets ws (4 * j) (all_words x.pieces)) onward_body.1
        ∙ sets_append ws (4 * j) (piece_words (found_here r s at start).piece) (all_words (body_in onward).pieces)
        ∙ ap₂ (λ (x : List ℕ) (y : ℕ). sets x y (all_words (body_in onward).pieces)) (sym is) i

    pub stored_more : {at' n' : ℕ} (ws' vs' os' : List ℕ) → at' ≡ (found_here r s at start).next → n' ≡ length (found_here r s at start).operators
        → ws' ≡ sets ws (4 * j) (piece_words (found_here r s at start).piece)
        → vs' ≡ sets vs (first + start) (map number_of (found_here r s at start).operators) → os' ≡ sets os (first + start) (map octet_of (found_here r s at start).operators)
        → Stored r s stop first ws₀ vs₀ os₀ ws' vs' os' at' (start + n') (j + 1)
    stored_more ws' vs' os' is_at is-n is-ws is-vs is-os =
        let b = bounds in
        let c = counted in
        let m = ap (λ (x : Body). length x.pieces) onward_body.1 in
        let lw : length ws' ≡ length ws = ap length is-ws ∙ length-sets ws (4 * j) (piece_words (found_here r s at start).piece) in
        let lv : length vs' ≡ length vs = ap length is-vs ∙ length-sets vs (first + start) (map number_of (found_here r s at start).operators) in
        let lo : length os' ≡ length os = ap length is-os ∙ length-sets os (first + start) (map octet_of (found_here r s at start).operators) in
        rw (is_at, is-n)
        (record {
          previous = get_or s at 0;
          few = omega (arith, h.few, spot.rises);
          known = spot.most;
          place = omega (arith, h.place);
          accepted = onward_body.0;
          total = omega (arith, h.total);
          words = worded is-ws;
          values = stored number_of vs h.values is-vs;
          octets = stored octet_of os h.octets is-os;
          in_words = omega (arith, h.in_words);
          in_values = omega (arith, h.in_values);
          in_octets = omega (arith, h.in_octets);
          long_words = lw ∙ h.long_words;
          long_values = lv ∙ h.long_values;
          long_octets = lo ∙ h.long_octets;
        })
