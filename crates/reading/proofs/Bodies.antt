-- What was accepted is a rule that its words give back: it has 13 components at most, and each field fits its width. By induction over the walk.
use Prim.Native.Nat.{ℕ, zero, suc, ◌+◌, ◌-◌, ◌*◌, ◌^◌, ◌≤◌, ◌<◌}
use mathlib.Core.Path.{◌≡◌, refl, sym, ◌∙◌, ap, subst}
use mathlib.Core.List.{List, [], ◌∷◌}
use mathlib.Core.Logic.{⊎_elim}
use native.Mathlib.Nat.{lt_of_le_of_lt, div-mul-le_self}
use native.Mathlib.Omega.{arith}
use borrow.Author.Tests.{leb-true, le-leb, lt-leb}
use lib.Dec.{leb}
use lib.ListN.{length, get_or}
use Rattle.ground.proofs.Answers.{never}
use Rattle.ground.specs.Answers.{Answer, accepts, declines}
use Rattle.ground.proofs.Cases.{by_test, lt_or_le}
use Rattle.choices.specs.declared.Reading.{Reading}
use Rattle.choices.specs.declared.Reading.TheVariants.{Plain, Ipv4, Ipv6}
use Rattle.operators.specs.Ops.{Op}
use Rattle.stored.specs.declared.Piece.{Piece}
use Rattle.stored.proofs.Inverse.{FitPrefix, Fit, FitAll}
use Rattle.prefixes.specs.declared.PrefixAt.{PrefixAt}
use Rattle.prefixes.specs.Prefixes.{octets_of, offset_in, named_at, front_address, plain_prefix, ipv4_prefix, made_in, spelled_at, prefix_at}
use Rattle.prefixes.proofs.Addresses.{front_lt}
use Rattle.prefixes.proofs.Laws.{Ranged, taken_ranged, prefix_ways}
use Rattle.prefixes.proofs.Accepted.{Octets, taken_value, front_value}
use Rattle.lists.specs.declared.Tally.{Tally}
use Rattle.lists.specs.Lists.{list_at, ops_at, recorded_ops}
use Rattle.walk.specs.Walks.{FoundAt, prefix_found, list_found, component_at, Body, joined, turn, walk_from, walk_at}
use Rattle.walk.proofs.Ways.{typed_prefix, typed_list}
use Rattle.walk.proofs.Components.{Here, here}

-- the prefix of each reading fits its widths
plain_fits : (len v : ℕ) → len ≤ 128 → v < 2 ^ (8 * octets_of len) → FitPrefix (plain_prefix len v)
plain_fits len v h b =
    by_test (leb len 32)
    (λ t. let m = leb-true len 32 t in let k : 8 * octets_of len ≤ 32 = omega arith in rw t (omega arith, front_lt 32 len v k b))
    (λ f. rw f (omega arith))

ipv4_fits : (len v : ℕ) → len ≤ 32 → v < 2 ^ (8 * octets_of len) → FitPrefix (ipv4_prefix len v)
ipv4_fits len v h b =
    let k : 8 * octets_of len ≤ 32 = omega arith in
    (omega arith, lt_of_le_of_lt (div-mul-le_self (front_address 32 len v) (2 ^ (32 - len))) (front_lt 32 len v k b))

made_fits : (r : Reading) (len off v : ℕ) → Ranged r len off → v < 2 ^ (8 * octets_of (len - off)) → FitPrefix (made_in r len off v)
made_fits Plain len off v (h, z) b = plain_fits len v h (front_value len v (subst (λ (j : ℕ). v < 2 ^ (8 * octets_of (len - j))) z b))
made_fits Ipv4 len off v (h, z) b = ipv4_fits len v h (front_value len v (subst (λ (j : ℕ). v < 2 ^ (8 * octets_of (len - j))) z b))
made_fits Ipv6 len off v (h, l) b = (omega arith, omega arith)

abbrev FitIn : Answer PrefixAt → Type 0
FitIn (accepts q) = FitPrefix q.prefix
FitIn (declines f) = Unit {0}

prefix_fits : (r : Reading) (s : List ℕ) (at : ℕ) (q : PrefixAt) → Octets s → prefix_at r s at ≡ accepts q → FitPrefix q.prefix
prefix_fits r s at q o e =
    subst FitIn e
    (prefix_ways r s at FitIn tt tt
    (λ k. made_fits r (get_or s at 0) (offset_in r s at) (spelled_at s (named_at r s at)) (taken_ranged r s at k) (taken_value r s at o k)))

piece_in : {x p : FoundAt} → accepts x ≡ accepts p → x.piece ≡ p.piece
piece_in {x} {p} e = let z : x ≡ p = cc in ap (λ (y : FoundAt). y.piece) z

by_prefix : (r : Reading) (t : ℕ) (s : List ℕ) (at : ℕ) (p : FoundAt) → Octets s → 1 ≤ t → t ≤ 2 → (a : Answer PrefixAt) → prefix_at r s at ≡ a → prefix_found t a ≡ accepts p → Fit p.piece
by_prefix r t s at p o l h (accepts q) i e = subst Fit (piece_in e) (l, h, prefix_fits r s at q o i)
by_prefix r t s at p o l h (declines f) i e = never e

by_list : (t start : ℕ) (os : List Op) (p : FoundAt) → 3 ≤ t → t ≤ 13 → (a : Answer Tally) → list_found t start os a ≡ accepts p → Fit p.piece
by_list t start os p l h (accepts q) e = subst Fit (piece_in e) (l, h)
by_list t start os p l h (declines f) e = never e

piece_fits : (r : Reading) (s : List ℕ) (at previous start : ℕ) (p : FoundAt) → Octets s → Here r s at previous start p → Fit p.piece
piece_fits r s at previous start p o d =
    let t = get_or s at 0 in
    let m = d.most in
    let u = d.rises in
    ⊎_elim
    (λ h. by_list t start (recorded_ops r t (ops_at s (at + 1))) p (omega arith) m (list_at r t s (at + 1)) (sym (typed_list r t s (at + 1) start h) ∙ d.typed))
    (λ h. by_prefix r t s (at + 1) p o (omega arith) h (prefix_at r s (at + 1)) refl (sym (typed_prefix r t s (at + 1) start h) ∙ d.typed))
    (lt_or_le 2 t)

-- pieces after one of a type
pub record Rule (previous : ℕ) (ps : List Piece) : Type 0 where
  pub few : length ps + previous ≤ 13
  pub fit : FitAll ps

rule_none : (previous : ℕ) → previous ≤ 13 → Rule previous []
rule_none previous h = record { few = omega arith; fit = tt }

rule_more : (previous t : ℕ) (p : Piece) (ps : List Piece) → previous < t → Fit p → Rule t ps → Rule previous (p ∷ ps)
rule_more previous t p ps h g w = record { few = omega (arith, w.few); fit = (g, w.fit) }

pieces_in_lem : {x b : Body} → accepts x ≡ accepts b → x.pieces ≡ b.pieces
pieces_in_lem {x} {b} e = let z : x ≡ b = cc in ap (λ (y : Body). y.pieces) z

by_rest : (previous t : ℕ) (p : FoundAt) (b : Body) → previous < t → Fit p.piece → (a : Answer Body) → ((d : Body) → a ≡ accepts d → Rule t d.pieces)
    → joined p a ≡ accepts b → Rule previous b.pieces
by_rest previous t p b h g (accepts d) ih e = subst (Rule previous) (pieces_in_lem e) (rule_more previous t p.piece d.pieces h g (ih d refl))
by_rest previous t p b h g (declines f) ih e = never e

by_found : (r : Reading) (s : List ℕ) (at previous start : ℕ) (b : Body) → Octets s → (go : ℕ → ℕ → ℕ → Answer Body)
    → ((a t i : ℕ) (d : Body) → t ≤ 13 → go a t i ≡ accepts d → Rule t d.pieces)
    → (a : Answer FoundAt) → component_at r s at previous start ≡ a → turn (get_or s at 0) start a go ≡ accepts b → Rule previous b.pieces
by_found r s at previous start b o go ih (accepts p) i e =
    let d = here r s at previous start i in
    by_rest previous (get_or s at 0) p b d.rises (piece_fits r s at previous start p o d) (go p.next (get_or s at 0) (start + length p.operators))
    (λ x w. ih p.next (get_or s at 0) (start + length p.operators) x d.most w) e
by_found r s at previous start b o go ih (declines f) i e = never e

rule_from : (k : ℕ) (r : Reading) (s : List ℕ) (stop at previous start : ℕ) (b : Body) → Octets s → previous ≤ 13 → walk_from k r s stop at previous start ≡ accepts b
    → Rule previous b.pieces
unfolding walk_from
rule_from zero r s stop at previous start b o h e = never e
rule_from (suc k) r s stop at previous start b o h e =
    ⊎_elim
    (λ l.
    by_found r s at previous start b o (walk_from k r s stop) (λ a t i d m w. rule_from k r s stop a t i d o m w) (component_at r s at previous start) refl
    (rw (lt-leb stop at l) at e))
    (λ l. subst (Rule previous) (pieces_in_lem (rw (le-leb stop at l) at e)) (rule_none previous h))
    (lt_or_le at stop)

pub body_rule : (r : Reading) (s : List ℕ) (stop : ℕ) (b : Body) → Octets s → walk_at r s stop ≡ accepts b → Rule 0 b.pieces
unfolding walk_at
body_rule r s stop b o e = rule_from 14 r s stop 0 0 0 b o (omega arith) e
