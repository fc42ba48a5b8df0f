-- The ways that one component is stored, over plain lists: what was accepted is a prefix or a list, and what `put_part` leaves is its words and
-- its operators.
use Prim.Native.Nat.{ℕ, ◌+◌, ◌≤◌, ◌<◌}
use mathlib.Core.Path.{◌≡◌, refl, sym, ◌∙◌, ap}
use mathlib.Core.Bool.{true, false}
use mathlib.Core.List.{List, [], map}
use native.Mathlib.Omega.{arith}
use lib.ListN.{length, get_or}
use lib.Seq.{sets}
use Rattle.ground.specs.Answers.{Answer, accepts, declines}
use Rattle.choices.specs.declared.Reading.{Reading}
use Rattle.operators.specs.Ops.{Op, octet_of, number_of}
use Rattle.stored.specs.declared.Piece.TheVariants.{Prefix, Operators}
use Rattle.stored.specs.Pieces.{piece_words}
use Rattle.prefixes.specs.declared.Extent.{Extent}
use Rattle.prefixes.specs.declared.PrefixAt.{PrefixAt}
use Rattle.prefixes.specs.Prefixes.{extent_at, prefix_on, prefix_at, is_extent}
use Rattle.prefixes.proofs.Laws.{prefix_by}
use Rattle.lists.specs.declared.Tally.{Tally}
use Rattle.lists.specs.Lists.{list_at, ops_at, recorded_ops, is_accepted, Accepted}
use Rattle.lists.specs.Runs.{Places}
use Rattle.lists.proofs.Records.{recorded_length}
use Rattle.lists.proofs.Laws.{recorded_counts, with_tally}
use Rattle.walk.specs.Walks.{FoundAt, found_at, prefix_found, list_found}
use Rattle.walk.proofs.Ways.{typed_prefix, typed_list}
use Rattle.reading.specs.Parts.{is_found, found_in, typed_here, Standing, found_here}

-- what `put_part` answers and leaves
abbrev pub Post : Reading → List ℕ → ℕ → ℕ → ℕ → (ws vs os : List ℕ) → ℕ → (ws' vs' os' : List ℕ) → ℕ → ℕ → Type 0
Post r s at first start ws vs os word ws' vs' os' at' n' =
    (ws' ≡ sets ws word (piece_words (found_here r s at start).piece))
    × ((vs' ≡ sets vs (first + start) (map number_of (found_here r s at start).operators))
    × ((os' ≡ sets os (first + start) (map octet_of (found_here r s at start).operators))
    × ((at' ≡ (found_here r s at start).next) × (n' ≡ length (found_here r s at start).operators))))

post_of : (r : Reading) (s : List ℕ) (at first start : ℕ) (p : FoundAt) → typed_here r s at start ≡ accepts p → (ws vs os : List ℕ) (word : ℕ) {ws' vs' os' : List ℕ} {at' n' : ℕ}
    → ws' ≡ sets ws word (piece_words p.piece) → vs' ≡ sets vs (first + start) (map number_of p.operators) → os' ≡ sets os (first + start) (map octet_of p.operators)
    → at' ≡ p.next → n' ≡ length p.operators → Post r s at first start ws vs os word ws' vs' os' at' n'
post_of r s at first start p e ws vs os word a b c d f = (rw e a, (rw e b, (rw e c, (rw e d, rw e f))))

-- a test that is both
pub false_true : {A : Type 0} → false ≡ true → A
false_true e = let z : ◌≡◌ {A = ℕ} 0 1 = cc in absurd (omega arith)

-- a list, a prefix of which a component was accepted is accepted
whole_of : (t start : ℕ) (os : List Op) (a : Answer Tally) → is_found (list_found t start os a) ≡ true → is_accepted a ≡ true
whole_of t start os (accepts l) e = refl
whole_of t start os (declines f) e = e

extent_of_lem : (r : Reading) (s : List ℕ) (t : ℕ) (a : Answer Extent) → is_found (prefix_found t (prefix_on r s a)) ≡ true → is_extent a ≡ true
extent_of_lem r s t (accepts x) e = refl
extent_of_lem r s t (declines f) e = e

module _ (r : Reading) (s : List ℕ) (at first start : ℕ) (h : Standing r s at start) where
  module _ (o : get_or s at 0 ≤ 2) where
    here_prefix : typed_here r s at start ≡ prefix_found (get_or s at 0) (prefix_at r s (at + 1))
    unfolding typed_here
    here_prefix = typed_prefix r (get_or s at 0) s (at + 1) start o

    pub extent_there : is_extent (extent_at r s (at + 1)) ≡ true
    extent_there =
        extent_of_lem r s (get_or s at 0) (extent_at r s (at + 1))
        (sym (ap (λ (a : Answer PrefixAt). is_found (prefix_found (get_or s at 0) a)) (prefix_by r s (at + 1) refl)) ∙ sym (ap is_found here_prefix) ∙ h.accepted)

    pub prefix_post : (ws vs os : List ℕ) (word : ℕ) {ws' : List ℕ} {q : PrefixAt} → prefix_at r s (at + 1) ≡ accepts q
        → ws' ≡ sets ws word (piece_words (Prefix (get_or s at 0) q.prefix)) → Post r s at first start ws vs os word ws' vs os q.next.at 0
    prefix_post ws vs os word {q = q} e is =
        post_of r s at first start (found_at (Prefix (get_or s at 0) q.prefix) [] q.next.at) (here_prefix ∙ ap (prefix_found (get_or s at 0)) e) ws vs os word is refl refl refl refl

  module _ (o : 2 < get_or s at 0) where
    abbrev t : ℕ
    t = get_or s at 0

    here_list : typed_here r s at start ≡ list_found t start (recorded_ops r t (ops_at s (at + 1))) (list_at r t s (at + 1))
    unfolding typed_here
    here_list = typed_list r t s (at + 1) start o

    pub list_whole : Accepted r t s (at + 1)
    list_whole = whole_of t start (recorded_ops r t (ops_at s (at + 1))) (list_at r t s (at + 1)) (sym (ap is_found here_list) ∙ h.accepted)

    here_found : {l : Tally} → list_at r t s (at + 1) ≡ accepts l
        → typed_here r s at start ≡ accepts (found_at (Operators t start l.count) (recorded_ops r t (ops_at s (at + 1))) l.next.at)
    here_found e = here_list ∙ ap (list_found t start (recorded_ops r t (ops_at s (at + 1)))) e

    operators_count : length (found_here r s at start).operators ≡ length (ops_at s (at + 1))
    operators_count =
        with_tally (list_at r t s (at + 1)) list_whole
        (λ l e. ap (λ (a : Answer FoundAt). length (found_in a).operators) (here_found e) ∙ recorded_length r t (ops_at s (at + 1)))

    pub list_room : {v w : ℕ} → Places (first + start) (length (found_here r s at start).operators) v w → Places (first + start) (length (ops_at s (at + 1))) v w
    list_room m = let e = operators_count in record { in_values = omega (arith, m.in_values); in_octets = omega (arith, m.in_octets) }

    pub list_post : (ws vs os : List ℕ) (word : ℕ) {ws' vs' os' : List ℕ} {l : Tally} → list_at r t s (at + 1) ≡ accepts l
        → ws' ≡ sets ws word (piece_words (Operators t start l.count))
        → vs' ≡ sets vs (first + start) (map number_of (recorded_ops r t (ops_at s (at + 1)))) → os' ≡ sets os (first + start) (map octet_of (recorded_ops r t (ops_at s (at + 1))))
        → Post r s at first start ws vs os word ws' vs' os' l.next.at l.count
    list_post ws vs os word e is is-vs is-os = post_of r s at first start _ (here_found e) ws vs os word is is-vs is-os refl (sym (recorded_counts r t s (at + 1) e))
