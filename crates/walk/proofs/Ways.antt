-- The ways that one component goes, over plain lists: one law for each return of `component_at`.
use Prim.Native.Nat.{ℕ, ◌+◌, ◌≤◌, ◌<◌}
use mathlib.Core.Path.{◌≡◌, refl, sym, ◌∙◌, ap}
use mathlib.Core.List.{List, [], ◌∷◌}
use borrow.Author.Tests.{le-leb, lt-leb, lt-ltb, le-ltb}
use lib.ListN.{length, get_or}
use Rattle.ground.specs.Answers.{Answer, accepts, refuses_at, declines}
use Rattle.choices.specs.declared.Reading.{Reading}
use Rattle.choices.specs.Choices.{last_type}
use Rattle.prefixes.specs.declared.Extent.{Extent}
use Rattle.prefixes.specs.Prefixes.{extent_at, prefix_on, prefix_at}
use Rattle.prefixes.proofs.Laws.{prefix_by}
use Rattle.lists.specs.declared.Tally.{Tally}
use Rattle.lists.specs.Lists.{tally, list_at, ops_at, recorded_ops}
use Rattle.lists.proofs.Laws.{recorded_counts}
use Rattle.walk.specs.Walks.{prefix_found, list_found, typed_at, component_at, seen}

module _ (r : Reading) (s : List ℕ) (at previous start : ℕ) where
  pub found_missing : length s ≤ at → component_at r s at previous start ≡ refuses_at 1 [] (length s)
  unfolding component_at
  found_missing h = simp (le-leb _ _ h)

  module _ (h : at < length s) where
    pub found_order : get_or s at 0 ≤ previous → component_at r s at previous start ≡ refuses_at 2 (previous ∷ get_or s at 0 ∷ []) at
    unfolding component_at
    found_order k = simp (lt-leb _ _ h, le-leb _ _ k)

    module _ (k : previous < get_or s at 0) where
      pub found_type : last_type r < get_or s at 0 → component_at r s at previous start ≡ refuses_at 3 (get_or s at 0 ∷ []) at
      unfolding component_at
      found_type l = simp (lt-leb _ _ h, lt-leb _ _ k, lt-ltb _ _ l)

      pub found_typed : get_or s at 0 ≤ last_type r → component_at r s at previous start ≡ typed_at r (get_or s at 0) s (at + 1) start
      unfolding component_at
      found_typed l = simp (lt-leb _ _ h, lt-leb _ _ k, le-ltb _ _ l)

module _ (r : Reading) (t : ℕ) (s : List ℕ) (at start : ℕ) where
  pub typed_prefix : t ≤ 2 → typed_at r t s at start ≡ prefix_found t (prefix_at r s at)
  unfolding typed_at
  typed_prefix h = simp (le-leb _ _ h)

  pub typed_list : 2 < t → typed_at r t s at start ≡ list_found t start (recorded_ops r t (ops_at s at)) (list_at r t s at)
  unfolding typed_at
  typed_list h = simp (lt-leb _ _ h)

-- what is seen of a prefix, and of a list what is measured
abbrev pub extended : Answer Extent → Answer Tally
extended (accepts e) = accepts (tally 0 e.next.at)
extended (declines f) = declines f

seen_prefix : (r : Reading) (s : List ℕ) (t : ℕ) (a : Answer Extent) → seen (prefix_found t (prefix_on r s a)) ≡ extended a
seen_prefix r s t (accepts e) = refl
seen_prefix r s t (declines f) = refl

seen_list : (r : Reading) (t : ℕ) (s : List ℕ) (at start : ℕ) (a : Answer Tally) → list_at r t s at ≡ a → seen (list_found t start (recorded_ops r t (ops_at s at)) a) ≡ a
seen_list r t s at start (accepts l) e = ap (λ (n : ℕ). accepts (tally n l.next.at)) (recorded_counts r t s at e)
seen_list r t s at start (declines f) e = refl

-- a component, seen
module _ (r : Reading) (s : List ℕ) (at previous start : ℕ) (h : at < length s) (k : previous < get_or s at 0) (l : get_or s at 0 ≤ last_type r) where
  pub prefix_seen : get_or s at 0 ≤ 2 → {a : Answer Extent} → a ≡ extent_at r s (at + 1) → extended a ≡ seen (component_at r s at previous start)
  prefix_seen m {a} e =
      sym (ap seen (found_typed r s at previous start h k l ∙ typed_prefix r (get_or s at 0) s (at + 1) start m ∙ ap (prefix_found (get_or s at 0)) (prefix_by r s (at + 1) (sym e)))
      ∙ seen_prefix r s (get_or s at 0) a)

  pub list_seen : 2 < get_or s at 0 → {a : Answer Tally} → a ≡ list_at r (get_or s at 0) s (at + 1) → a ≡ seen (component_at r s at previous start)
  list_seen m e =
      e
      ∙ sym (ap seen (found_typed r s at previous start h k l ∙ typed_list r (get_or s at 0) s (at + 1) start m)
      ∙ seen_list r (get_or s at 0) s (at + 1) start (list_at r (get_or s at 0) s (at + 1)) refl)
