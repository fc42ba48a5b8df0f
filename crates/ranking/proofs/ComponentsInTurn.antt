-- Two components by the pieces that their words are, and the components of two stored rules as the walk over their words meets them.
use Prim.Native.Nat.{ℕ, zero, suc, ◌+◌, ◌*◌, ◌≤◌, ◌<◌, min}
use mathlib.Core.Path.{◌≡◌, refl, sym, ◌∙◌, ap, ap₂, subst}
use mathlib.Core.Bool.{true, false}
use mathlib.Core.List.{List, [], ◌∷◌}
use native.Mathlib.Omega.{arith}
use lib.Dec.{eqb}
use lib.ListN.{length, get_or, drop, length-map, get_or-map}
use borrow.Author.Tests.{eqb-true}
use Rattle.std.specs.Ordering.{is_ne, MatchOrdering}
use Rattle.std.proofs.lemmas.Cmp.{tied_itself}
use Rattle.ground.proofs.Cases.{both}
use Rattle.operators.specs.declared.Kind.{Kind}
use Rattle.operators.specs.Ops.{kind_of, Op, ops_in, list_octets}
use Rattle.stored.specs.declared.Piece.{Piece}
use Rattle.stored.specs.declared.Piece.TheVariants.{Prefix, Operators, NoRecord}
use Rattle.stored.specs.Pieces.{is_record, same_quad, quad_at, piece_at}
use Rattle.stored.specs.Views.{NoList}
use Rattle.stored.specs.Stored.{count_at, first_at, pieces_from, stored_at}
use Rattle.stored.proofs.Words.{length_pieces, piece_in, framed, rule_framed}
use Rattle.ranking.specs.Ranks.{Ordering, Precedes, Equal, Follows, lower, then_by, rank_octets, Content, prefixed, listed, Compared, compared, compared_list, compared_of, rank_content, rank_compared, rank, all_compared, rank_of, Inside, AllInside, Rankable}
use Rattle.ranking.proofs.Orders.{low_equal, equal_same, then_told, told_equal}
use Rattle.ranking.proofs.Keys.{compared_ordered}
use Rattle.ranking.proofs.LeftInTurn.{Passed, none_passed, one_ended, next_tells}

-- ---- two components

-- what the types tell, then the contents
pub by_tags : (t u : ℕ) (c d : Content) (o : Ordering) → o ≡ lower t u → then_by o (rank_content c d) ≡ rank_compared (compared t c) (compared u d)
unfolding rank_compared
by_tags t u c d o e = ap (λ (q : Ordering). then_by q (rank_content c d)) e

-- the contents are asked where the types are the same
pub by_tags_with : (t u : ℕ) (c d : Content) (o r : Ordering) {Same : Type 0} → o ≡ lower t u → MatchOrdering o (r ≡ Precedes) Same (r ≡ Follows)
    → (Equal ≡ lower t u → Same → r ≡ rank_compared (compared t c) (compared u d)) → r ≡ rank_compared (compared t c) (compared u d)
by_tags_with t u c d Precedes r e m f = m ∙ by_tags t u c d Precedes e
by_tags_with t u c d Equal r e m f = f e m
by_tags_with t u c d Follows r e m f = m ∙ by_tags t u c d Follows e

-- nor where they are not
pub by_first : (t u : ℕ) (c d : Content) (o : Ordering) → o ≡ lower t u → (o ≡ Equal → ⊥) → o ≡ rank_compared (compared t c) (compared u d)
by_first t u c d Precedes e n = by_tags t u c d Precedes e
by_first t u c d Equal e n = absurd (n refl)
by_first t u c d Follows e n = by_tags t u c d Follows e

-- lists of one type, whose kind it tells
pub by_lists : (t u : ℕ) (os ps : List Op) (k : Kind) → k ≡ kind_of t → Equal ≡ lower t u
    → rank_octets (list_octets k os) (list_octets k ps) ≡ rank_compared (compared t (listed (list_octets (kind_of t) os))) (compared u (listed (list_octets (kind_of u) ps)))
by_lists t u os ps k e z =
    ap₂ (λ (a b : Kind). rank_octets (list_octets a os) (list_octets b ps)) e (e ∙ ap kind_of (equal_same t u (sym z)))
    ∙ by_tags t u (listed (list_octets (kind_of t) os)) (listed (list_octets (kind_of u) ps)) Equal z

same_piece : (ws : List ℕ) (at : ℕ) (ws2 : List ℕ) (at2 : ℕ) → same_quad (quad_at ws at) (quad_at ws2 at2) ≡ true → piece_at ws at ≡ piece_at ws2 at2
unfolding piece_at
same_piece ws at ws2 at2 e =
    let a = both (eqb (get_or ws at 0) (get_or ws2 at2 0)) _ e in
    let b = both (eqb (get_or ws (at + 1) 0) (get_or ws2 (at2 + 1) 0)) _ a.1 in
    let c = both (eqb (get_or ws (at + 2) 0) (get_or ws2 (at2 + 2) 0)) _ b.1 in
    let m : get_or ws at 0 ≡ get_or ws2 at2 0 = eqb-true _ _ a.0 in
    let x : get_or ws (at + 1) 0 ≡ get_or ws2 (at2 + 1) 0 = eqb-true _ _ b.0 in
    let y : get_or ws (at + 2) 0 ≡ get_or ws2 (at2 + 2) 0 = eqb-true _ _ c.0 in
    let z : get_or ws (at + 3) 0 ≡ get_or ws2 (at2 + 3) 0 = eqb-true _ _ c.1 in
    rw (m, x, y, z)

module _ (values octets : List ℕ) (first : ℕ) where
  -- what is told of a piece
  pub as_told : (a : Compared) (p q : Piece) → p ≡ q → rank_compared a (compared_of values octets first q) ≡ rank_compared a (compared_of values octets first p)
  as_told a p q e = sym (ap (λ (x : Piece). rank_compared a (compared_of values octets first x)) e)

  -- a list, and a piece that is one of the same type
  pub list_told : (t u start n : ℕ) (os ps : List Op) (k : Kind) (p : Piece) → k ≡ kind_of t → Equal ≡ lower t u
      → ps ≡ ops_in values octets (first + start) n → p ≡ Operators u start n
      → rank_octets (list_octets k os) (list_octets k ps) ≡ rank_compared (compared_list t os) (compared_of values octets first p)
  list_told t u start n os ps k p e z m q =
      rw m (by_lists t u os (ops_in values octets (first + start) n) k e z) ∙ as_told (compared_list t os) p (Operators u start n) q

  module _ (values2 octets2 : List ℕ) (first2 : ℕ) where
    pub both_told : (a b p q : Piece) → p ≡ a → q ≡ b
        → rank_compared (compared_of values octets first a) (compared_of values2 octets2 first2 b) ≡ rank_compared (compared_of values octets first p) (compared_of values2 octets2 first2 q)
    both_told a b p q e f = sym (ap₂ (λ (x y : Piece). rank_compared (compared_of values octets first x) (compared_of values2 octets2 first2 y)) e f)

    -- lists of one type, as two views show them
    pub by_views : (t start n t2 start2 n2 : ℕ) (p q : Piece) (k : Kind) (os ps : List Op) → p ≡ Operators t start n → q ≡ Operators t2 start2 n2 → t ≡ t2 → k ≡ kind_of t
        → os ≡ ops_in values octets (first + start) n → ps ≡ ops_in values2 octets2 (first2 + start2) n2
        → rank_octets (list_octets k os) (list_octets k ps) ≡ rank_compared (compared_of values octets first p) (compared_of values2 octets2 first2 q)
    by_views t start n t2 start2 n2 p q k os ps a b e f x y =
        rw (x, y) (by_lists t t2 (ops_in values octets (first + start) n) (ops_in values2 octets2 (first2 + start2) n2) k f (sym (low_equal t t2 e)))
        ∙ both_told (Operators t start n) (Operators t2 start2 n2) p q a b

    -- what is no list is all in its words
    no_list_equal : (p : Piece) → NoList p → Equal ≡ rank_compared (compared_of values octets first p) (compared_of values2 octets2 first2 p)
    no_list_equal (Prefix tag p) n = sym (tied_itself compared_ordered (compared tag (prefixed p)))
    no_list_equal (Operators tag start count) n = absurd n
    no_list_equal NoRecord n = sym (tied_itself compared_ordered (compared 0 (listed [])))

    -- and four words the same name the same piece
    pub same_words_equal : (ws : List ℕ) (at : ℕ) (ws2 : List ℕ) (at2 : ℕ) → NoList (piece_at ws at) → same_quad (quad_at ws at) (quad_at ws2 at2) ≡ true
        → Equal ≡ rank_compared (compared_of values octets first (piece_at ws at)) (compared_of values2 octets2 first2 (piece_at ws2 at2))
    same_words_equal ws at ws2 at2 n s =
        no_list_equal (piece_at ws at) n
        ∙ both_told (piece_at ws at) (piece_at ws at) (piece_at ws at) (piece_at ws2 at2) refl (sym (same_piece ws at ws2 at2 s))

-- a rule has no NoRecord
pub inside_record : (v o first : ℕ) (p : Piece) → Inside v o first p → is_record p ≡ true
inside_record v o first (Prefix tag p) i = refl
inside_record v o first (Operators tag start n) i = refl
inside_record v o first NoRecord i = absurd i

pub inside_told : (v o first : ℕ) (p q : Piece) → p ≡ q → Inside v o first p → Inside v o first q
inside_told v o first p q e i = subst (λ (x : Piece). Inside v o first x) e i

-- ---- the components of a rule

inside_in : (v o first : ℕ) (ps : List Piece) (i : ℕ) → i < length ps → AllInside v o first ps → Inside v o first (get_or ps i NoRecord)
inside_in v o first [] i h a = absurd (omega arith)
inside_in v o first (p ∷ ps) zero h a = a.0
inside_in v o first (p ∷ ps) (suc i) h a = inside_in v o first ps i (omega arith) a.1

-- a rule whose walk has begun: how many components it has, and where its operators begin
pub record Begun (words : List ℕ) (at : ℕ) (values octets : List ℕ) (count first : ℕ) : Type 0 where
  pub rankable : Rankable words at values octets
  pub counted : count ≡ count_at words at
  pub begins : first ≡ first_at words at

module _ {words : List ℕ} {at : ℕ} {values octets : List ℕ} {count first : ℕ} (w : Begun words at values octets count first) where
  pub few : count ≤ 13
  few = rw w.counted (framed words at (rule_framed words at w.rankable.rule)).few

  length_compared : length (all_compared values octets (stored_at words at)) ≡ count
  length_compared =
      length-map (pieces_from (count_at words at) words at) (compared_of values octets (first_at words at)) ∙ length_pieces (count_at words at) words at ∙ sym w.counted

  module _ (i : ℕ) (h : i < count) where
    at_place : piece_at words (at + 4 * i) ≡ get_or (pieces_from (count_at words at) words at) i NoRecord
    at_place = piece_in (count_at words at) words at i (rw w.counted at h)

    compared_at : get_or (all_compared values octets (stored_at words at)) i (compared 0 (listed [])) ≡ compared_of values octets first (piece_at words (at + 4 * i))
    compared_at =
        get_or-map (compared_of values octets (first_at words at)) (pieces_from (count_at words at) words at) i NoRecord
        ∙ ap₂ (λ (f : ℕ) (p : Piece). compared_of values octets f p) (sym w.begins) (sym at_place)

    pub inside_at : Inside (length values) (length octets) first (piece_at words (at + 4 * i))
    inside_at =
        rw (w.begins, at_place)
        (inside_in (length values) (length octets) (first_at words at) (pieces_from (count_at words at) words at) i (rw (length_pieces (count_at words at) words at, ← w.counted) h) w.rankable.inside)

-- ---- the walk over two rules: i components of each are passed

pub record ComponentsPassed (words : List ℕ) (at : ℕ) (values octets : List ℕ) (words2 : List ℕ) (at2 : ℕ) (values2 octets2 : List ℕ) (i : ℕ) : Type 0 where
  pub passed : Passed rank_compared (all_compared values octets (stored_at words at)) (all_compared values2 octets2 (stored_at words2 at2)) i

module _ {words : List ℕ} {at : ℕ} {values octets : List ℕ} {words2 : List ℕ} {at2 : ℕ} {values2 octets2 : List ℕ} where
  pub no_components : ComponentsPassed words at values octets words2 at2 values2 octets2 0
  no_components = record { passed = none_passed rank_compared _ _ }

  module _ {count first count2 first2 i : ℕ} (w : Begun words at values octets count first) (w2 : Begun words2 at2 values2 octets2 count2 first2)
      (p : ComponentsPassed words at values octets words2 at2 values2 octets2 i) where
    n : length (all_compared values octets (stored_at words at)) ≡ count
    n = length_compared w

    n2 : length (all_compared values2 octets2 (stored_at words2 at2)) ≡ count2
    n2 = length_compared w2

    pub components_end : i ≤ min count count2 → min count count2 ≤ i → rank_of values octets (stored_at words at) values2 octets2 (stored_at words2 at2) ≡ lower count2 count
    unfolding rank_of
    components_end h l = one_ended rank_compared _ _ i p.passed (compared 0 (listed [])) (rw (n, n2) h) (rw (n, n2) l) ∙ ap₂ lower n2 n

    module _ (h : i < count) (l : i < count2) where
      tells : (o : Ordering) → rank_compared (compared_of values octets first (piece_at words (at + 4 * i))) (compared_of values2 octets2 first2 (piece_at words2 (at2 + 4 * i))) ≡ o
          → rank_of values octets (stored_at words at) values2 octets2 (stored_at words2 at2) ≡ then_by o (rank (drop (i + 1) (all_compared values octets (stored_at words at))) (drop (i + 1) (all_compared values2 octets2 (stored_at words2 at2))))
      unfolding rank_of
      tells o e =
          next_tells rank_compared _ _ i p.passed (compared 0 (listed [])) (rw n h) (rw n2 l) o
          (ap₂ (λ (a b : Compared). rank_compared a b) (compared_at w i h) (compared_at w2 i l) ∙ e)

      pub components_tell : (o : Ordering) → o ≡ rank_compared (compared_of values octets first (piece_at words (at + 4 * i))) (compared_of values2 octets2 first2 (piece_at words2 (at2 + 4 * i))) → is_ne o ≡ true
          → o ≡ rank_of values octets (stored_at words at) values2 octets2 (stored_at words2 at2)
      components_tell o e n = sym (tells o (sym e) ∙ then_told o _ n)

      pub components_equal : (o : Ordering) → o ≡ rank_compared (compared_of values octets first (piece_at words (at + 4 * i))) (compared_of values2 octets2 first2 (piece_at words2 (at2 + 4 * i))) → is_ne o ≡ false
          → ComponentsPassed words at values octets words2 at2 values2 octets2 (i + 1)
      unfolding rank_of
      components_equal o e n = record { passed = record { same = tells Equal (sym e ∙ told_equal o n) } }
