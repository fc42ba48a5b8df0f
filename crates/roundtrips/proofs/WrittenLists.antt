-- A list that the standard writing takes reads back in every reading that takes its widths, wherever it stands: its octets are a chain of operators, each as it was
-- written, with its reserved bits 0.
use Prim.Native.Nat.{ℕ, suc, ◌+◌, ◌*◌, ◌^◌, ◌<◌}
use mathlib.Core.Path.{◌≡◌, refl, sym, ◌∙◌, ap, ap₂, subst}
use mathlib.Core.Bool.{true, not, ◌&&◌, false≢true}
use mathlib.Core.List.{List, [], ◌∷◌, ◌++◌, map, append_assoc}
use native.Mathlib.Nat.{mod-eq_of_lt}
use native.Mathlib.Omega.{arith}
use borrow.Author.Tests.{ltb-true, lt-leb, leb-true, leb-false, not-true}
use lib.Dec.{leb, ltb}
use lib.ListN.{length, length-append, length-map, get_or, take, drop}
use lib.Seq.{get_or-append_seam, drop-append-add, take_at}
use Rattle.ground.specs.Answers.{accepts}
use Rattle.ground.proofs.Cases.{both}
use Rattle.octets.specs.Widths.{code_in, width_of}
use Rattle.octets.specs.Spell.{value_of, spelled}
use Rattle.octets.proofs.Spells.{length_spelled, value_spelled}
use Rattle.choices.specs.declared.Reading.{Reading}
use Rattle.choices.specs.Choices.{codes_in, refused_in}
use Rattle.operators.specs.declared.Kind.{Kind}
use Rattle.operators.specs.Ops.{kind_of, cleared_in, Op, op, op_octets, list_octets}
use Rattle.lists.specs.Lists.{tally, after_op, operator_at, list_at, ops_at, cleared_op, recorded_ops}
use Rattle.lists.proofs.Laws.{operator_taken, Chain, last, more, chain_list, chain_ops, recorded_none, recorded_first}
use Rattle.listwriting.specs.Lists.{fits_in, ends, takes, narrow}
use Rattle.listwriting.proofs.Laws.{ends_none, ends_last, ends_more, taken_first, taken_ends, narrow_first}
use Rattle.roundtrips.proofs.Operators.{octets_none, octets_first, octets_more}
use Rattle.roundtrips.proofs.Clearing.{cleared_code, cleared_width, cleared_mark, cleared_taken, cleared_clear, first_same}

-- one operator
module _ (r : Reading) (t : ℕ) (o : Op) (fits : o.value < 2 ^ (8 * width_of o.octet)) (width : code_in o.octet < codes_in r t) (xs ys : List ℕ) where
  one_back : operator_at r t (xs ++ (op_octets (kind_of t) o ++ ys)) (length xs) ≡ accepts (cleared_op (kind_of t) o)
  one_back =
      let k = kind_of t in
      let x = cleared_in k o.octet in
      let w = width_of o.octet in
      let zs = spelled w o.value ++ ys in
      let s = xs ++ (x ∷ zs) in
      let g : get_or s (length xs) 0 ≡ x = get_or-append_seam xs x zs 0 in
      let u : width_of (get_or s (length xs) 0) ≡ w = ap width_of g ∙ cleared_width k o.octet in
      let n : length s ≡ length xs + suc (length zs) = length-append xs (x ∷ zs) in
      let m : length zs ≡ w + length ys = length-append (spelled w o.value) ys ∙ ap (λ (j : ℕ). j + length ys) (length_spelled w o.value) in
      let v : value_of (take (width_of (get_or s (length xs) 0)) (drop (length xs + 1) s)) ≡ o.value =
      ap₂ (λ (j : ℕ) (l : List ℕ). value_of (take j l)) u (drop-append-add xs (x ∷ zs) 1)
      ∙ ap value_of (take_at (spelled w o.value) ys w (length_spelled w o.value))
      ∙ value_spelled w o.value
      ∙ mod-eq_of_lt fits in
      let c : code_in (get_or s (length xs) 0) ≡ code_in o.octet = ap code_in g ∙ cleared_code k o.octet in
      operator_taken r t s (length xs) (lt-leb (codes_in r t) (code_in (get_or s (length xs) 0)) (omega arith)) (omega arith) (ap (refused_in r k) g ∙ cleared_taken r k o.octet) ∙ ap₂ (λ (y z : ℕ). accepts (op y z)) g v

-- the first operator of a written list, and the octets after it with it before them
module _ (k : Kind) (o : Op) (os : List Op) (xs ys s : List ℕ) (e : s ≡ xs ++ (list_octets k (o ∷ os) ++ ys)) where
  apart : s ≡ xs ++ (op_octets k o ++ (list_octets k os ++ ys))
  apart = e ∙ ap (λ (l : List ℕ). xs ++ (l ++ ys)) (octets_first k o os) ∙ ap (λ (l : List ℕ). xs ++ l) (append_assoc (op_octets k o) (list_octets k os) ys)

  moved : s ≡ (xs ++ op_octets k o) ++ (list_octets k os ++ ys)
  moved = apart ∙ sym (append_assoc xs (op_octets k o) (list_octets k os ++ ys))

  moved_length : length xs + 1 + width_of o.octet ≡ length (xs ++ op_octets k o)
  moved_length = omega (arith, length-append xs (op_octets k o), length_spelled (width_of o.octet) o.value)

chained : (r : Reading) (t : ℕ) (os : List Op) → ends os ≡ true → narrow (codes_in r t) os ≡ true → (xs ys s : List ℕ) → s ≡ xs ++ (list_octets (kind_of t) os ++ ys)
    → (at to : ℕ) → at ≡ length xs → at + length (list_octets (kind_of t) os) ≡ to → Chain r t s at (map (cleared_op (kind_of t)) os) to
chained r t [] d u xs ys s e at to p q = absurd (false≢true (sym ends_none ∙ d))
chained r t (o ∷ []) d u xs ys s e at to p q =
    let k = kind_of t in
    let b = both (fits_in o.octet o.value) (leb 128 o.octet) (sym (ends_last o) ∙ d) in
    let a = both (ltb (code_in o.octet) (codes_in r t)) (narrow (codes_in r t) []) (sym (narrow_first (codes_in r t) o []) ∙ u) in
    let f : operator_at r t s at ≡ accepts (cleared_op k o) =
    ap₂ (operator_at r t) (apart k o [] xs ys s e) p ∙ one_back r t o (ltb-true _ _ b.0) (ltb-true _ _ a.0) xs (list_octets k [] ++ ys) in
    let z : length (list_octets k []) ≡ 0 = ap length (octets_none k) in
    let n : after_op at (cleared_op k o) ≡ to = omega (arith, octets_more k o [], cleared_width k o.octet) in
    subst (Chain r t s at (cleared_op k o ∷ [])) n (last f (leb-true 128 _ (cleared_mark k o.octet ∙ b.1)))
chained r t (o ∷ i ∷ os) d u xs ys s e at to p q =
    let k = kind_of t in
    let b = both (fits_in o.octet o.value) (not (leb 128 o.octet) && ends (i ∷ os)) (sym (ends_more o i os) ∙ d) in
    let a = both (ltb (code_in o.octet) (codes_in r t)) (narrow (codes_in r t) (i ∷ os)) (sym (narrow_first (codes_in r t) o (i ∷ os)) ∙ u) in
    let c = both (not (leb 128 o.octet)) (ends (i ∷ os)) b.1 in
    let f : operator_at r t s at ≡ accepts (cleared_op k o) =
    ap₂ (operator_at r t) (apart k o (i ∷ os) xs ys s e) p ∙ one_back r t o (ltb-true _ _ b.0) (ltb-true _ _ a.0) xs (list_octets k (i ∷ os) ++ ys) in
    let w = cleared_width k o.octet in
    let m = moved_length k o (i ∷ os) xs ys s e in
    let n : after_op at (cleared_op k o) + length (list_octets k (i ∷ os)) ≡ to = omega (arith, octets_more k o (i ∷ os)) in
    more f (leb-false 128 _ (cleared_mark k o.octet ∙ not-true (leb 128 o.octet) c.0))
    (chained r t (i ∷ os) c.1 a.1 (xs ++ op_octets k o) ys s (moved k o (i ∷ os) xs ys s e) (after_op at (cleared_op k o)) to (omega arith) n)

-- what is recorded of a cleared list without AND first is that list
cleared_recorded : (r : Reading) (t : ℕ) (os : List Op) → takes os ≡ true → recorded_ops r t (map (cleared_op (kind_of t)) os) ≡ map (cleared_op (kind_of t)) os
cleared_recorded r t [] d = recorded_none r t
cleared_recorded r t (o ∷ os) d =
    let k = kind_of t in
    recorded_first r t (cleared_op k o) (map (cleared_op k) os)
    ∙ ap₂ (λ (x : ℕ) (l : List Op). op x o.value ∷ l) (first_same r k o.octet (taken_first o os d)) (cleared_clear k os)

module _ (r : Reading) (t : ℕ) (os : List Op) (d : takes os ≡ true) (u : narrow (codes_in r t) os ≡ true) (xs ys : List ℕ) where
  chain : Chain r t (xs ++ (list_octets (kind_of t) os ++ ys)) (length xs) (map (cleared_op (kind_of t)) os) (length xs + length (list_octets (kind_of t) os))
  chain = chained r t os (taken_ends os d) u xs ys _ refl (length xs) _ refl refl

  -- a written list reads back whole
  pub list_back : list_at r t (xs ++ (list_octets (kind_of t) os ++ ys)) (length xs) ≡ accepts (tally (length os) (length xs + length (list_octets (kind_of t) os)))
  list_back = chain_list chain ∙ ap (λ (m : ℕ). accepts (tally m (length xs + length (list_octets (kind_of t) os)))) (length-map os (cleared_op (kind_of t)))

  -- and what is recorded of it is the list with its reserved bits cleared
  pub recorded_back : recorded_ops r t (ops_at (xs ++ (list_octets (kind_of t) os ++ ys)) (length xs)) ≡ map (cleared_op (kind_of t)) os
  recorded_back = ap (recorded_ops r t) (chain_ops chain) ∙ cleared_recorded r t os d
