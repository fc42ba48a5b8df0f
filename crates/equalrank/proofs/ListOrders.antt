-- Lists that the standard writing takes are in the order of their octets, whatever follows these: the end mark stands in the last operator's octet, so
-- that no list is the front of another.
use Prim.Native.Nat.{ℕ, ◌/◌, ◌<◌, ◌≤◌}
use mathlib.Core.Path.{◌≡◌, sym, ◌∙◌, ap, ap₂}
use mathlib.Core.Bool.{true, not, ◌&&◌, false≢true}
use mathlib.Core.List.{List, [], ◌∷◌, ◌++◌, append_assoc}
use native.Mathlib.Omega.{arith}
use borrow.Author.Tests.{leb-true, leb-false, not-true}
use lib.Dec.{leb}
use Rattle.ground.proofs.Cases.{both}
use Rattle.operators.specs.declared.Kind.{Kind}
use Rattle.operators.specs.Ops.{cleared_in, Op, op_octets, list_octets}
use Rattle.listwriting.specs.Lists.{fits_in, ends}
use Rattle.listwriting.proofs.Laws.{ends_none, ends_last, ends_more}
use Rattle.ranking.specs.Ranks.{Ordering, Equal, lower, then_by, in_turn, rank_octets, cut_to, rank_op}
use Rattle.ranking.proofs.Orders.{equal_same, then_first, then_assoc, then_none, then_where}
use Rattle.ranking.proofs.OperatorsInTurn.{operator_then, operators_in_turn}
use Rattle.roundtrips.proofs.Clearing.{cleared_high}
use Rattle.roundtrips.proofs.Operators.{octets_none, octets_first}

-- an operator with the end mark and one without are not equal
same_mark : (k : Kind) (o p : Op) → rank_op k o p ≡ Equal → o.octet / 128 ≡ p.octet / 128
unfolding rank_op
same_mark k o p e =
    let x = cleared_in k o.octet in
    let y = cleared_in k p.octet in
    sym (cleared_high k o.octet)
    ∙ ap (λ (n : ℕ). n / 128) (equal_same x y (then_first (lower x y) (lower (cut_to o.octet o.value) (cut_to p.octet p.value)) e))
    ∙ cleared_high k p.octet

-- the mark of an operator that ends a list, and of one that does not
marked : (o : Op) → ends (o ∷ []) ≡ true → 128 ≤ o.octet
marked o d = leb-true 128 o.octet (both (fits_in o.octet o.value) (leb 128 o.octet) (sym (ends_last o) ∙ d)).1

unmarked : (o i : Op) (os : List Op) → ends (o ∷ i ∷ os) ≡ true → (o.octet < 128) × (ends (i ∷ os) ≡ true)
unmarked o i os d =
    let b = both (fits_in o.octet o.value) (not (leb 128 o.octet) && ends (i ∷ os)) (sym (ends_more o i os) ∙ d) in
    let c = both (not (leb 128 o.octet)) (ends (i ∷ os)) b.1 in
    (leb-false 128 o.octet (not-true (leb 128 o.octet) c.0), c.1)

module _ (k : Kind) (xs ys : List ℕ) where
  -- the first operators, then the rest of the lists with what follows
  firsts : (o p : Op) (os ps : List Op)
      → rank_octets (list_octets k (o ∷ os) ++ xs) (list_octets k (p ∷ ps) ++ ys) ≡ then_by (rank_op k o p) (rank_octets (list_octets k os ++ xs) (list_octets k ps ++ ys))
  firsts o p os ps =
      ap₂ rank_octets
      (ap (λ (l : List ℕ). l ++ xs) (octets_first k o os) ∙ append_assoc (op_octets k o) (list_octets k os) xs)
      (ap (λ (l : List ℕ). l ++ ys) (octets_first k p ps) ∙ append_assoc (op_octets k p) (list_octets k ps) ys)
      ∙ operator_then k o p (list_octets k os ++ xs) (list_octets k ps ++ ys)

  in_turn_lem : (os ps : List Op) → ends os ≡ true → ends ps ≡ true → rank_octets (list_octets k os ++ xs) (list_octets k ps ++ ys) ≡ then_by (in_turn (rank_op k) os ps) (rank_octets xs ys)
  unfolding in_turn
  in_turn_lem [] ps d e = absurd (false≢true (sym ends_none ∙ d))
  in_turn_lem (o ∷ os) [] d e = absurd (false≢true (sym ends_none ∙ e))
  in_turn_lem (o ∷ []) (p ∷ []) d e =
      firsts o p [] []
      ∙ ap₂ (λ (l m : List ℕ). then_by (rank_op k o p) (rank_octets (l ++ xs) (m ++ ys))) (octets_none k) (octets_none k)
      ∙ ap (λ (q : Ordering). then_by q (rank_octets xs ys)) (sym (then_none (rank_op k o p)))
  in_turn_lem (o ∷ []) (p ∷ j ∷ ps) d e =
      firsts o p [] (j ∷ ps)
      ∙ then_where (rank_op k o p) (λ z. let m = same_mark k o p z in absurd (omega (arith, marked o d, (unmarked p j ps e).0)))
      ∙ sym (then_assoc (rank_op k o p) (in_turn (rank_op k) [] (j ∷ ps)) (rank_octets xs ys))
  in_turn_lem (o ∷ i ∷ os) (p ∷ []) d e =
      firsts o p (i ∷ os) []
      ∙ then_where (rank_op k o p) (λ z. let m = same_mark k o p z in absurd (omega (arith, marked p e, (unmarked o i os d).0)))
      ∙ sym (then_assoc (rank_op k o p) (in_turn (rank_op k) (i ∷ os) []) (rank_octets xs ys))
  in_turn_lem (o ∷ i ∷ os) (p ∷ j ∷ ps) d e =
      firsts o p (i ∷ os) (j ∷ ps)
      ∙ ap (λ (q : Ordering). then_by (rank_op k o p) q) (in_turn_lem (i ∷ os) (j ∷ ps) (unmarked o i os d).1 (unmarked p j ps e).1)
      ∙ sym (then_assoc (rank_op k o p) (in_turn (rank_op k) (i ∷ os) (j ∷ ps)) (rank_octets xs ys))

  pub list_order : (os ps : List Op) → ends os ≡ true → ends ps ≡ true
      → rank_octets (list_octets k os ++ xs) (list_octets k ps ++ ys) ≡ then_by (rank_octets (list_octets k os) (list_octets k ps)) (rank_octets xs ys)
  list_order os ps d e = in_turn_lem os ps d e ∙ ap (λ (q : Ordering). then_by q (rank_octets xs ys)) (sym (operators_in_turn k os ps))
