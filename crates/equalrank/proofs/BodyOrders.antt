-- Two bodies, component by component: where two components are no prefixes of one type, or are of one length, their octets are in the order of their
-- rank, whatever follows. So rank is equal exactly where the octets are the same, and it is their order where the first components that differ are so.
use Prim.Native.Nat.{ℕ, zero, suc, ◌+◌}
use mathlib.Core.Path.{◌≡◌, refl, sym, ◌∙◌, ap, ap₂}
use mathlib.Core.Bool.{Bool, true, ◌&&◌, false≢true}
use mathlib.Core.List.{List, [], ◌∷◌, ◌++◌, map, append-nil}
use lib.Dec.{ltb}
use Rattle.ground.proofs.Cases.{both}
use Rattle.choices.specs.declared.Reading.{Reading}
use Rattle.operators.specs.Ops.{kind_of, list_octets}
use Rattle.stored.specs.declared.Piece.{Piece}
use Rattle.stored.specs.declared.Piece.TheVariants.{Prefix, Operators, NoRecord}
use Rattle.stored.specs.Pieces.{type_of, quad_at, piece_at}
use Rattle.stored.specs.Stored.{pieces_from}
use Rattle.listwriting.proofs.Laws.{taken_ends}
use Rattle.measuring.specs.Bodies.{Lent, ops_of, prefix_octets, piece_octets, body_octets}
use Rattle.measuring.specs.Grounds.{piece_taken, all_taken}
use Rattle.measuring.proofs.Laws.{Standard, octets_prefix, octets_list, body_none, body_more, taken_prefix, taken_none, list_shows, all_more}
use Rattle.ranking.specs.Ranks.{Ordering, Precedes, Equal, Follows, lower, then_by, in_turn, rank_octets, front_of, rank_prefix, Compared, compared_of, rank_compared, rank}
use Rattle.ranking.proofs.Orders.{never, equal_same, then_first, then_second, then_assoc, then_where}
use Rattle.ranking.proofs.Laws.{is_prefix, by_type, same_octets, octets_same, equal_length}
use Rattle.roundtrips.proofs.WrittenComponents.{type_first}
use Rattle.equalrank.specs.Pairs.{AlikeLong, DifferByOctets, first_ended, second_ended, here, later}
use Rattle.equalrank.proofs.PrefixOrders.{prefix_order, same_length}
use Rattle.equalrank.proofs.ListOrders.{list_order}

-- ---- the pieces of stored words: the type says whether one is a prefix

abbrev prefix_type : ℕ → Bool
prefix_type t = ltb 0 t && ltb t 3

abbrev Typed : Piece → Type 0
Typed p = is_prefix p ≡ prefix_type (type_of p)

abbrev pub AllTyped : List Piece → Type 0
AllTyped [] = Unit {0}
AllTyped (p ∷ ps) = Typed p × AllTyped ps

pub all_typed : (n : ℕ) (ws : List ℕ) (at : ℕ) → AllTyped (pieces_from n ws at)
unfolding pieces_from piece_at
all_typed zero ws at = tt
all_typed (suc n) ws at = (by_type (quad_at ws at), all_typed n ws (at + 4))

-- ---- two components

-- the types, then what follows them
by_types : (t u : ℕ) (c z v : Ordering) → (t ≡ u → v ≡ then_by c z) → then_by (lower t u) v ≡ then_by (then_by (lower t u) c) z
by_types t u c z v f = then_where (lower t u) (λ e. f (equal_same t u e)) ∙ sym (then_assoc (lower t u) c z)

module _ (w : Reading) (st : Standard w) (l m : Lent) where
  abbrev one : Piece → Compared
  one p = compared_of l.values l.octets l.first p

  abbrev two : Piece → Compared
  two q = compared_of m.values m.octets m.first q

  module _ (xs ys : List ℕ) where
    abbrev InOrder : Piece → Piece → Type 0
    InOrder p q = rank_octets (piece_octets w l p ++ xs) (piece_octets w m q ++ ys) ≡ then_by (rank_compared (one p) (two q)) (rank_octets xs ys)

    -- octets after the types
    typed_order : (t u : ℕ) (ps qs : List ℕ) (c : Ordering) → (t ≡ u → rank_octets (ps ++ xs) (qs ++ ys) ≡ then_by c (rank_octets xs ys))
        → rank_octets ((t ∷ ps) ++ xs) ((u ∷ qs) ++ ys) ≡ then_by (then_by (lower t u) c) (rank_octets xs ys)
    unfolding in_turn
    typed_order t u ps qs c f = by_types t u c (rank_octets xs ys) (rank_octets (ps ++ xs) (qs ++ ys)) f

    component_order : (p q : Piece) → Typed p → Typed q → piece_taken w l p ≡ true → piece_taken w m q ≡ true → AlikeLong p q → InOrder p q
    unfolding rank_compared
    component_order (Prefix t p) (Prefix u q) i j d e s =
        rw (octets_prefix w l t p, octets_prefix w m u q)
        (typed_order t u (prefix_octets w p) (prefix_octets w q) (rank_prefix p q)
        (λ z. prefix_order p q w st (sym (taken_prefix w l t p) ∙ d) (sym (taken_prefix w m u q) ∙ e) (s z) xs ys))
    component_order (Prefix t p) (Operators u start n) i j d e s =
        rw (octets_prefix w l t p, octets_list w m u start n)
        (typed_order t u (prefix_octets w p) (list_octets (kind_of u) (ops_of m start n)) Precedes
        (λ z. absurd (false≢true (j ∙ ap prefix_type (sym z) ∙ sym i))))
    component_order (Operators t start n) (Prefix u q) i j d e s =
        rw (octets_list w l t start n, octets_prefix w m u q)
        (typed_order t u (list_octets (kind_of t) (ops_of l start n)) (prefix_octets w q) Follows
        (λ z. absurd (false≢true (i ∙ ap prefix_type z ∙ sym j))))
    component_order (Operators t start n) (Operators u start2 k) i j d e s =
        let os = ops_of l start n in
        let ps = ops_of m start2 k in
        rw (octets_list w l t start n, octets_list w m u start2 k)
        (typed_order t u (list_octets (kind_of t) os) (list_octets (kind_of u) ps) (rank_octets (list_octets (kind_of t) os) (list_octets (kind_of u) ps))
        (λ z. rw (← z) (list_order (kind_of t) xs ys os ps (taken_ends os (list_shows w st l t start n d).taken) (taken_ends ps (list_shows w st m u start2 k e).taken))))
    component_order NoRecord q i j d e s = absurd (false≢true (sym (taken_none w l) ∙ d))
    component_order (Prefix t p) NoRecord i j d e s = absurd (false≢true (sym (taken_none w m) ∙ e))
    component_order (Operators t start n) NoRecord i j d e s = absurd (false≢true (sym (taken_none w m) ∙ e))

  -- ---- two bodies

  abbrev ranks : List Piece → List Piece → Ordering
  ranks ps qs = rank (map one ps) (map two qs)

  -- prefixes of one type that rank equal are of one length, and so are those with the same octets
  equal_long : (p q : Piece) → rank_compared (one p) (two q) ≡ Equal → AlikeLong p q
  unfolding rank_compared
  equal_long (Prefix t p) (Prefix u q) e = λ z. equal_length (front_of p) (front_of q) (then_second (lower t u) (rank_prefix p q) e)
  equal_long (Prefix t p) (Operators u start n) e = tt
  equal_long (Prefix t p) NoRecord e = tt
  equal_long (Operators t start n) q e = tt
  equal_long NoRecord q e = tt

  same_long : (p q : Piece) → piece_taken w l p ≡ true → piece_taken w m q ≡ true → (xs ys : List ℕ) → piece_octets w l p ++ xs ≡ piece_octets w m q ++ ys → AlikeLong p q
  same_long (Prefix t p) (Prefix u q) d e xs ys z = λ y.
      let s : t ∷ (prefix_octets w p ++ xs) ≡ u ∷ (prefix_octets w q ++ ys) =
      ap (λ (o : List ℕ). o ++ xs) (sym (octets_prefix w l t p)) ∙ z ∙ ap (λ (o : List ℕ). o ++ ys) (octets_prefix w m u q) in
      same_length p q w st (sym (taken_prefix w l t p) ∙ d) (sym (taken_prefix w m u q) ∙ e) xs ys (cc)
  same_long (Prefix t p) (Operators u start n) d e xs ys z = tt
  same_long (Prefix t p) NoRecord d e xs ys z = tt
  same_long (Operators t start n) q d e xs ys z = tt
  same_long NoRecord q d e xs ys z = tt

  -- a component has octets
  none_some : (q : Piece) → piece_taken w m q ≡ true → (ys : List ℕ) → rank_octets [] (piece_octets w m q ++ ys) ≡ Follows
  unfolding in_turn
  none_some q e ys = rw (type_first w m q e).is

  some_none : (p : Piece) → piece_taken w l p ≡ true → (xs : List ℕ) → rank_octets (piece_octets w l p ++ xs) [] ≡ Precedes
  unfolding in_turn
  some_none p e xs = rw (type_first w l p e).is

  -- the facts of two bodies
  abbrev pub Two : List Piece → List Piece → Type 0
  Two ps qs = AllTyped ps × AllTyped qs × (all_taken w l ps ≡ true) × (all_taken w m qs ≡ true)

  firsts_taken : (p : Piece) (ps : List Piece) (q : Piece) (qs : List Piece) → Two (p ∷ ps) (q ∷ qs) → (piece_taken w l p ≡ true) × (piece_taken w m q ≡ true) × Two ps qs
  firsts_taken p ps q qs t =
      let d = both (piece_taken w l p) (all_taken w l ps) (sym (all_more w l p ps) ∙ t.2) in
      let e = both (piece_taken w m q) (all_taken w m qs) (sym (all_more w m q qs) ∙ t.3) in
      (d.0, e.0, (t.0.1, t.1.1, d.1, e.1))

  -- the first components of two bodies, and the rest of both
  first_order : (p : Piece) (ps : List Piece) (q : Piece) (qs : List Piece) → Two (p ∷ ps) (q ∷ qs) → AlikeLong p q
      → rank_octets (body_octets w l (p ∷ ps)) (body_octets w m (q ∷ qs)) ≡ then_by (rank_compared (one p) (two q)) (rank_octets (body_octets w l ps) (body_octets w m qs))
  first_order p ps q qs t s =
      let f = firsts_taken p ps q qs t in
      ap₂ rank_octets (body_more w l p ps) (body_more w m q qs)
      ∙ component_order (body_octets w l ps) (body_octets w m qs) p q t.0.0 t.1.0 f.0 f.1 s

  -- one of them ended
  first_none : (q : Piece) (qs : List Piece) → Two [] (q ∷ qs) → rank_octets (body_octets w l []) (body_octets w m (q ∷ qs)) ≡ Follows
  first_none q qs t =
      let e = both (piece_taken w m q) (all_taken w m qs) (sym (all_more w m q qs) ∙ t.3) in
      ap₂ rank_octets (body_none w l) (body_more w m q qs) ∙ none_some q e.0 (body_octets w m qs)

  second_none : (p : Piece) (ps : List Piece) → Two (p ∷ ps) [] → rank_octets (body_octets w l (p ∷ ps)) (body_octets w m []) ≡ Precedes
  second_none p ps t =
      let d = both (piece_taken w l p) (all_taken w l ps) (sym (all_more w l p ps) ∙ t.2) in
      ap₂ rank_octets (body_more w l p ps) (body_none w m) ∙ some_none p d.0 (body_octets w l ps)

  pub equal_same_octets : (ps qs : List Piece) → Two ps qs → ranks ps qs ≡ Equal → rank_octets (body_octets w l ps) (body_octets w m qs) ≡ Equal
  unfolding in_turn
  equal_same_octets [] [] t e = ap₂ rank_octets (body_none w l) (body_none w m)
  equal_same_octets [] (q ∷ qs) t e = never (cc)
  equal_same_octets (p ∷ ps) [] t e = never (cc)
  equal_same_octets (p ∷ ps) (q ∷ qs) t e =
      let c = rank_compared (one p) (two q) in
      let h = then_first c (ranks ps qs) e in
      let f = firsts_taken p ps q qs t in
      first_order p ps q qs t (equal_long p q h)
      ∙ ap₂ then_by h (equal_same_octets ps qs f.2 (then_second c (ranks ps qs) e))

  pub same_octets_equal : (ps qs : List Piece) → Two ps qs → body_octets w l ps ≡ body_octets w m qs → ranks ps qs ≡ Equal
  unfolding in_turn
  same_octets_equal [] [] t e = refl
  same_octets_equal [] (q ∷ qs) t e = let z = sym (first_none q qs t) ∙ ap (λ (o : List ℕ). rank_octets o (body_octets w m (q ∷ qs))) e ∙ octets_same (body_octets w m (q ∷ qs)) in never (cc)
  same_octets_equal (p ∷ ps) [] t e = let z = sym (second_none p ps t) ∙ ap (λ (o : List ℕ). rank_octets o (body_octets w m [])) e ∙ octets_same (body_octets w m []) in never (cc)
  same_octets_equal (p ∷ ps) (q ∷ qs) t e =
      let c = rank_compared (one p) (two q) in
      let f = firsts_taken p ps q qs t in
      let xs = body_octets w l ps in
      let ys = body_octets w m qs in
      let s = same_long p q f.0 f.1 xs ys (sym (body_more w l p ps) ∙ e ∙ body_more w m q qs) in
      let z : then_by c (rank_octets xs ys) ≡ Equal =
      sym (first_order p ps q qs t s) ∙ ap (λ (o : List ℕ). rank_octets o (body_octets w m (q ∷ qs))) e ∙ octets_same (body_octets w m (q ∷ qs)) in
      ap₂ then_by (then_first c (rank_octets xs ys) z) (same_octets_equal ps qs f.2 (same_octets xs ys (then_second c (rank_octets xs ys) z)))

  -- components that rank equal have the same octets
  equal_octets : (p q : Piece) → Typed p → Typed q → piece_taken w l p ≡ true → piece_taken w m q ≡ true → rank_compared (one p) (two q) ≡ Equal → piece_octets w l p ≡ piece_octets w m q
  equal_octets p q i j d e h =
      let z : rank_octets (piece_octets w l p ++ []) (piece_octets w m q ++ []) ≡ Equal =
      component_order [] [] p q i j d e (equal_long p q h) ∙ ap₂ then_by h (octets_same []) in
      sym (append-nil (piece_octets w l p)) ∙ same_octets (piece_octets w l p ++ []) (piece_octets w m q ++ []) z ∙ append-nil (piece_octets w m q)

  pub by_octets : (ps qs : List Piece) → Two ps qs → DifferByOctets (piece_octets w l) (piece_octets w m) ps qs → ranks ps qs ≡ rank_octets (body_octets w l ps) (body_octets w m qs)
  unfolding in_turn
  by_octets [] [] t d = elim d [ ]
  by_octets [] (q ∷ qs) t first_ended = sym (first_none q qs t)
  by_octets (p ∷ ps) [] t second_ended = sym (second_none p ps t)
  by_octets (p ∷ ps) (q ∷ qs) t (here n s) =
      let f = firsts_taken p ps q qs t in
      then_where (rank_compared (one p) (two q)) (λ h. absurd (n (equal_octets p q t.0.0 t.1.0 f.0 f.1 h)))
      ∙ sym (first_order p ps q qs t s)
  by_octets (p ∷ ps) (q ∷ qs) t (later e d) =
      let f = firsts_taken p ps q qs t in
      ap (λ (o : Ordering). then_by (rank_compared (one p) (two q)) o) (by_octets ps qs f.2 d)
      ∙ sym (first_order p ps q qs t (same_long p q f.0 f.1 [] [] (ap (λ (o : List ℕ). o ++ []) e)))
