-- Octets written high first are in the order of their numbers, so that two lists are in the order of their operators, compared in turn.
use Prim.Native.Nat.{ℕ, zero, suc, ◌+◌, ◌*◌, ◌/◌, ◌%◌, ◌^◌, ◌≤◌, ◌<◌, min}
use mathlib.Core.Path.{◌≡◌, refl, sym, ◌∙◌, ap, ap₂}
use mathlib.Core.Bool.{true, false}
use mathlib.Core.List.{List, [], ◌∷◌, ◌++◌}
use native.Mathlib.Omega.{arith}
use native.Mathlib.Nat.{mod-lt, mod-one}
use lib.Arith.{digits_lt}
use lib.Pow.{pow_pos, mod-pow-add}
use lib.ListN.{length, get_or, drop}
use Rattle.std.specs.Ordering.{is_ne}
use Rattle.octets.specs.Spell.{spelled}
use Rattle.octets.specs.Widths.{widths, width_of}
use Rattle.operators.specs.declared.Kind.{Kind}
use Rattle.operators.specs.declared.Kind.TheVariants.{Numeric, Bitmask}
use Rattle.operators.specs.Ops.{cleared_in, Op, op, ops_in, op_octets, list_octets}
use Rattle.operators.proofs.Parts.{length_ops, op_at}
use Rattle.ranking.specs.Ranks.{Ordering, Equal, lower, then_by, in_turn, rank_octets, cut_to, rank_op}
use Rattle.ranking.proofs.Orders.{Way, below, equal, above, way, low_below, low_equal, low_above, equal_same, then_assoc, then_told, told_equal, then_where}
use Rattle.ranking.proofs.LeftInTurn.{Passed, none_passed, one_ended, next_tells}

-- two digits: the high ones decide, then the low ones
module _ (c r s : ℕ) (hr : r < c) (hs : s < c) where
  two : (p q : ℕ) → Way p q → Way r s → lower (p * c + r) (q * c + s) ≡ then_by (lower p q) (lower r s)
  two p q (below h) v = let d = digits_lt h hr in low_below (p * c + r) (q * c + s) (omega arith) ∙ sym (ap (λ (o : Ordering). then_by o (lower r s)) (low_below p q h))
  two p q (equal e) (below k) = let z : p * c ≡ q * c = ap (λ (x : ℕ). x * c) e in low_below (p * c + r) (q * c + s) (omega arith) ∙ sym (ap₂ then_by (low_equal p q e) (low_below r s k))
  two p q (equal e) (equal k) = let z : p * c ≡ q * c = ap (λ (x : ℕ). x * c) e in low_equal (p * c + r) (q * c + s) (omega arith) ∙ sym (ap₂ then_by (low_equal p q e) (low_equal r s k))
  two p q (equal e) (above k) = let z : p * c ≡ q * c = ap (λ (x : ℕ). x * c) e in low_above (p * c + r) (q * c + s) (omega arith) ∙ sym (ap₂ then_by (low_equal p q e) (low_above r s k))
  two p q (above h) v = let d = digits_lt h hs in low_above (p * c + r) (q * c + s) (omega arith) ∙ sym (ap (λ (o : Ordering). then_by o (lower r s)) (low_above p q h))

cut_more : (k v : ℕ) → v % 2 ^ (8 * suc k) ≡ (v / 2 ^ (8 * k) % 256) * 2 ^ (8 * k) + v % 2 ^ (8 * k)
cut_more k v = let e : 8 * suc k ≡ 8 + 8 * k = omega arith in ap (λ (j : ℕ). v % 2 ^ j) e ∙ mod-pow-add v 8 (8 * k)

pub spelled_order : (w a b : ℕ) (xs ys : List ℕ)
    → rank_octets (spelled w a ++ xs) (spelled w b ++ ys) ≡ then_by (lower (a % 2 ^ (8 * w)) (b % 2 ^ (8 * w))) (rank_octets xs ys)
unfolding spelled in_turn
spelled_order zero a b xs ys = sym (ap (λ (o : Ordering). then_by o (rank_octets xs ys)) (low_equal (a % 1) (b % 1) (mod-one a ∙ sym (mod-one b))))
spelled_order (suc w) a b xs ys =
    let c = 2 ^ (8 * w) in
    let p = a / c % 256 in
    let q = b / c % 256 in
    let n = two c (a % c) (b % c) (mod-lt a (pow_pos (8 * w))) (mod-lt b (pow_pos (8 * w))) p q (way p q) (way (a % c) (b % c)) in
    ap (λ (o : Ordering). then_by (lower p q) o) (spelled_order w a b xs ys)
    ∙ sym (then_assoc (lower p q) (lower (a % c) (b % c)) (rank_octets xs ys))
    ∙ sym (ap (λ (o : Ordering). then_by o (rank_octets xs ys)) (ap₂ lower (cut_more w a) (cut_more w b) ∙ n))

-- clearing keeps the width
code_kept : (k : Kind) (o : ℕ) → cleared_in k o / 16 % 4 ≡ o / 16 % 4
code_kept Numeric o = omega arith
code_kept Bitmask o = omega arith

width_kept : (k : Kind) (o : ℕ) → width_of (cleared_in k o) ≡ width_of o
width_kept k o = ap (λ (c : ℕ). get_or widths c 0) (code_kept k o)

module _ (k : Kind) where
  -- the same octet with the same value
  pub same_operator : (octet value octet2 value2 : ℕ) → octet ≡ octet2 → value ≡ value2 → Equal ≡ rank_op k (op octet value) (op octet2 value2)
  unfolding rank_op
  same_operator octet value octet2 value2 e f =
      sym (rw (e, f, low_equal (cleared_in k octet2) (cleared_in k octet2) refl, low_equal (cut_to octet2 value2) (cut_to octet2 value2) refl))

  -- equal octets name equal widths, so the values stand at equal places, whatever follows
  pub operator_then : (a b : Op) (xs ys : List ℕ) → rank_octets (op_octets k a ++ xs) (op_octets k b ++ ys) ≡ then_by (rank_op k a b) (rank_octets xs ys)
  unfolding in_turn rank_op
  operator_then a b xs ys =
      let x = cleared_in k a.octet in
      let y = cleared_in k b.octet in
      then_where (lower x y)
      (λ e. let w : width_of a.octet ≡ width_of b.octet = sym (width_kept k a.octet) ∙ ap (λ (o : ℕ). width_of o) (equal_same x y e) ∙ width_kept k b.octet in
      rw w (spelled_order (width_of b.octet) a.value b.value xs ys))
      ∙ sym (then_assoc (lower x y) (lower (cut_to a.octet a.value) (cut_to b.octet b.value)) (rank_octets xs ys))

  pub operators_in_turn : (os ps : List Op) → rank_octets (list_octets k os) (list_octets k ps) ≡ in_turn (rank_op k) os ps
  unfolding list_octets in_turn
  operators_in_turn [] [] = refl
  operators_in_turn [] (p ∷ ps) = refl
  operators_in_turn (o ∷ os) [] = refl
  operators_in_turn (o ∷ os) (p ∷ ps) = operator_then o p (list_octets k os) (list_octets k ps) ∙ ap (λ (q : Ordering). then_by (rank_op k o p) q) (operators_in_turn os ps)

-- a whole list, and the order of two lists' operators at a place
abbrev all_of : List ℕ → List ℕ → List Op
all_of values octets = ops_in values octets 0 (length octets)

abbrev rank_at : Kind → List ℕ → List ℕ → List ℕ → List ℕ → ℕ → Ordering
rank_at k values octets values2 octets2 i = rank_op k (op (get_or octets i 0) (get_or values i 0)) (op (get_or octets2 i 0) (get_or values2 i 0))

at_place : (values octets : List ℕ) (i : ℕ) → i < length octets → get_or (all_of values octets) i (op 0 0) ≡ op (get_or octets i 0) (get_or values i 0)
at_place values octets i h =
    let z : 0 + i ≡ i = omega arith in
    op_at values octets (length octets) 0 i h ∙ ap (λ (j : ℕ). op (get_or octets j 0) (get_or values j 0)) z

-- the loop over two lists: i operators of each are passed
pub record OperatorsPassed (k : Kind) (values octets values2 octets2 : List ℕ) (i : ℕ) : Type 0 where
  pub passed : Passed (rank_op k) (all_of values octets) (all_of values2 octets2) i

module _ {k : Kind} {values octets values2 octets2 : List ℕ} where
  pub no_operators : OperatorsPassed k values octets values2 octets2 0
  no_operators = record { passed = none_passed (rank_op k) _ _ }

  module _ {i : ℕ} (p : OperatorsPassed k values octets values2 octets2 i) where
    n : length (all_of values octets) ≡ length octets
    n = length_ops values octets (length octets) 0

    n2 : length (all_of values2 octets2) ≡ length octets2
    n2 = length_ops values2 octets2 (length octets2) 0

    in_turn_lem : rank_octets (list_octets k (all_of values octets)) (list_octets k (all_of values2 octets2)) ≡ in_turn (rank_op k) (all_of values octets) (all_of values2 octets2)
    in_turn_lem = operators_in_turn k (all_of values octets) (all_of values2 octets2)

    pub operators_end : i ≤ min (length octets) (length octets2) → min (length octets) (length octets2) ≤ i
        → rank_octets (list_octets k (all_of values octets)) (list_octets k (all_of values2 octets2)) ≡ lower (length octets2) (length octets)
    operators_end h l = in_turn_lem ∙ one_ended (rank_op k) _ _ i p.passed (op 0 0) (rw (n, n2) h) (rw (n, n2) l) ∙ ap₂ lower n2 n

    module _ (h : i < length octets) (l : i < length octets2) where
      next : (o : Ordering) → rank_at k values octets values2 octets2 i ≡ o
          → in_turn (rank_op k) (all_of values octets) (all_of values2 octets2) ≡ then_by o (in_turn (rank_op k) (drop (i + 1) (all_of values octets)) (drop (i + 1) (all_of values2 octets2)))
      next o e =
          next_tells (rank_op k) _ _ i p.passed (op 0 0) (rw n h) (rw n2 l) o
          (ap₂ (λ (a b : Op). rank_op k a b) (at_place values octets i h) (at_place values2 octets2 i l) ∙ e)

      pub operators_equal : (o : Ordering) → o ≡ rank_at k values octets values2 octets2 i → is_ne o ≡ false → OperatorsPassed k values octets values2 octets2 (i + 1)
      operators_equal o e n = record { passed = record { same = next Equal (sym e ∙ told_equal o n) } }

      pub operators_tell : (o : Ordering) → o ≡ rank_at k values octets values2 octets2 i → is_ne o ≡ true
          → o ≡ rank_octets (list_octets k (all_of values octets)) (list_octets k (all_of values2 octets2))
      operators_tell o e n = sym (in_turn_lem ∙ next o (sym e) ∙ then_told o _ n)
