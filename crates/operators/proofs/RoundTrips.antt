-- Octet to record and back is the identity on every octet that is accepted, and record to octet and back on every record with a proper
-- width. An octet is 128 e + 64 a + 16 c + low: what the two kinds share of that is shown once, by its digits.
use Prim.Native.Nat.{ℕ, zero, suc, ◌+◌, ◌*◌, ◌/◌, ◌%◌, ◌<◌}
use mathlib.Core.Path.{◌≡◌, refl, sym, ◌∙◌, ap, subst}
use mathlib.Core.Bool.{Bool, true, false, ◌||◌}
use native.Mathlib.Nat.{div-one, div-div-eq-div-mul}
use native.Mathlib.Omega.{arith}
use lib.Dec.{T, eqb, eqb→eq}
use lib.ListN.{get_or}
use borrow.Author.Tests.{eqb-true, eqb-false}
use Rattle.ground.proofs.Answers.{never, same_accepted}
use Rattle.ground.specs.Answers.{accepts}
use Rattle.ground.proofs.Cases.{by_test}
use Rattle.ground.proofs.Tables.{both, both_left, both_right, at}
use Rattle.octets.specs.Widths.{widths, width_of, code_in}
use Rattle.operators.specs.declared.NumericOperator.{NumericOperator}
use Rattle.operators.specs.declared.BitmaskOperator.{BitmaskOperator}
use Rattle.operators.specs.Operators.{is_set, weight_of, is_width, code_part, octet_parts, numeric_of, bitmask_of, numeric_from, bitmask_from, numeric_octet, bitmask_octet}

-- a flag as a digit
digit : Bool → ℕ
digit true = 1
digit false = 0

weight_digit : (b : Bool) (w : ℕ) → weight_of b w ≡ w * digit b
unfolding digit
weight_digit true w = omega arith
weight_digit false w = omega arith

digit_small : (b : Bool) → digit b < 2
unfolding digit
digit_small true = omega arith
digit_small false = omega arith

digit_set : (b : Bool) → eqb (digit b) 1 ≡ b
unfolding digit
digit_set true = refl
digit_set false = refl

-- a bit that is tested, as a digit
tested : (d : ℕ) → d < 2 → digit (eqb d 1) ≡ d
unfolding digit
tested zero h = refl
tested (suc zero) h = refl
tested (suc (suc d)) h = absurd (omega arith)

-- a proper width has one of four codes
record Coded (w : ℕ) : Type 0 where
  code : ℕ
  small : code < 4
  part : code_part w ≡ 16 * code
  back : get_or widths code 0 ≡ w

coded : (w : ℕ) → is_width w ≡ true → Coded w
unfolding is_width code_part
coded w h =
    by_test (eqb w 1) (λ e. subst Coded (sym (eqb-true w 1 e)) (record { code = 0; small = omega arith; part = refl; back = refl }))
    (λ n₁. by_test (eqb w 2) (λ e. subst Coded (sym (eqb-true w 2 e)) (record { code = 1; small = omega arith; part = refl; back = refl }))
    (λ n₂. by_test (eqb w 4) (λ e. subst Coded (sym (eqb-true w 4 e)) (record { code = 2; small = omega arith; part = refl; back = refl }))
    (λ n₄. by_test (eqb w 8) (λ e. subst Coded (sym (eqb-true w 8 e)) (record { code = 3; small = omega arith; part = refl; back = refl }))
    (λ n₈. let f : (eqb w 1 || (eqb w 2 || (eqb w 4 || eqb w 8))) ≡ false = rw (n₁, n₂, n₄, n₈) in
    let z : true ≡ false = sym h ∙ f in
    let y : ◌≡◌ {A = ℕ} 0 1 = cc in
    absurd (omega arith)))))

-- every code of the table has a proper width, whose code it is
proper : ℕ → ℕ → Bool
proper c w = both (is_width w) (eqb (code_part w) (16 * c))

test_true : (t : Bool) → T t → t ≡ true
test_true true h = refl
test_true false h = absurd h

width_coded : (c : ℕ) → c < 4 → (is_width (get_or widths c 0) ≡ true) × (code_part (get_or widths c 0) ≡ 16 * c)
unfolding proper is_width code_part
width_coded c h =
    let w = get_or widths c 0 in
    let t = at 0 proper widths tt c h in
    (test_true (is_width w) (both_left (is_width w) (eqb (code_part w) (16 * c)) t), eqb→eq (code_part w) (16 * c) (both_right (is_width w) (eqb (code_part w) (16 * c)) t))

-- four digits of a number below 16
nibble : (q : ℕ) → q < 16 → 8 * (q / 8 % 2) + 4 * (q / 4 % 2) + q % 4 ≡ q
nibble q h = let d : q / 4 / 2 ≡ q / 8 = div-div-eq-div-mul q 4 2 in omega arith

-- the parts of an octet make it
parts_make : (x low : ℕ) → x < 256 → low ≡ x % 16 → octet_parts (is_set x 128) (is_set x 64) (width_of x) low ≡ accepts x
unfolding octet_parts
parts_make x low h e =
    let w = width_coded (code_in x) (omega arith) in
    let a : weight_of (is_set x 128) 128 ≡ 128 * (x / 128 % 2) = weight_digit (is_set x 128) 128 ∙ ap (λ (d : ℕ). 128 * d) (tested (x / 128 % 2) (omega arith)) in
    let b : weight_of (is_set x 64) 64 ≡ 64 * (x / 64 % 2) = weight_digit (is_set x 64) 64 ∙ ap (λ (d : ℕ). 64 * d) (tested (x / 64 % 2) (omega arith)) in
    let n = nibble (x / 16) (omega arith) in
    let p : x / 16 / 8 ≡ x / 128 = div-div-eq-div-mul x 16 8 in
    let q : x / 16 / 4 ≡ x / 64 = div-div-eq-div-mul x 16 4 in
    let s : 128 * (x / 128 % 2) + 64 * (x / 64 % 2) + 16 * (x / 16 % 4) + low ≡ x = omega (arith, e, rw (p, q) at n) in
    rw (w.0, a, b, w.1) (ap accepts s)

-- the octet of two flags, a code and low bits
module _ (e a : Bool) (w low : ℕ) (proper : is_width w ≡ true) (l : low < 16) where
  octet : ℕ
  octet = weight_of e 128 + weight_of a 64 + code_part w + low

  -- its digits
  digits : octet ≡ 128 * digit e + 64 * digit a + 16 * (coded w proper).code + low
  unfolding octet
  digits = rw (weight_digit e 128, weight_digit a 64, (coded w proper).part)

  -- and what is read off it
  end_back : is_set octet 128 ≡ e
  end_back =
      let s = digit_small e in let t = digit_small a in let k = (coded w proper).small in let d = digits in
      let q : octet / 128 % 2 ≡ digit e = omega (arith, d) in
      ap (λ (n : ℕ). eqb n 1) q ∙ digit_set e

  and_back : is_set octet 64 ≡ a
  and_back =
      let s = digit_small e in let t = digit_small a in let k = (coded w proper).small in let d = digits in
      let q : octet / 64 % 2 ≡ digit a = omega (arith, d) in
      ap (λ (n : ℕ). eqb n 1) q ∙ digit_set a

  width_back : width_of octet ≡ w
  width_back =
      let s = digit_small e in let t = digit_small a in let k = (coded w proper).small in let d = digits in
      let q : code_in octet ≡ (coded w proper).code = omega (arith, d) in
      ap (λ (c : ℕ). get_or widths c 0) q ∙ (coded w proper).back

  low_back : octet % 16 ≡ low
  low_back = let d = digits in omega (arith, d)

-- the low bits of an octet, where those above them up to 0x08 are 0
low_eight : (x : ℕ) → x / 8 % 2 ≡ 0 → 4 * (x / 4 % 2) + 2 * (x / 2 % 2) + x % 2 ≡ x % 16
low_eight x h =
    let d : x / 2 / 2 ≡ x / 4 = div-div-eq-div-mul x 2 2 in
    let e : x / 4 / 2 ≡ x / 8 = div-div-eq-div-mul x 4 2 in
    let f : x / 8 / 2 ≡ x / 16 = div-div-eq-div-mul x 8 2 in
    omega arith

low_four : (x : ℕ) → x / 8 % 2 ≡ 0 → x / 4 % 2 ≡ 0 → 2 * (x / 2 % 2) + x % 2 ≡ x % 16
low_four x h k = let l = low_eight x h in omega arith

unset : (x w : ℕ) → is_set x w ≡ false → x / w % 2 ≡ 0
unset x w t = let n = eqb-false (x / w % 2) 1 t in omega (arith, n)

weight_bit : (x w m : ℕ) → weight_of (is_set x w) m ≡ m * (x / w % 2)
weight_bit x w m = weight_digit (is_set x w) m ∙ ap (λ (d : ℕ). m * d) (tested (x / w % 2) (omega arith))

last_bit : (x : ℕ) → x / 1 % 2 ≡ x % 2
last_bit x = ap (λ (y : ℕ). y % 2) (div-one x)

numeric_made : (x v : ℕ) → x < 256 → is_set x 8 ≡ false → numeric_octet (numeric_of x v) ≡ accepts x
numeric_made x v h t =
    let l = low_eight x (unset x 8 t) in
    parts_make x _ h (rw (weight_bit x 4 4, weight_bit x 2 2, weight_bit x 1 1, last_bit x) (omega (arith, l)))

bitmask_made : (x v : ℕ) → x < 256 → is_set x 8 ≡ false → is_set x 4 ≡ false → bitmask_octet (bitmask_of x v) ≡ accepts x
bitmask_made x v h t s =
    let l = low_four x (unset x 8 t) (unset x 4 s) in
    parts_make x _ h (rw (weight_bit x 2 2, weight_bit x 1 1, last_bit x) (omega (arith, l)))

-- octet to record and back
pub numeric_octet_back : (x v : ℕ) (o : NumericOperator) → x < 256 → numeric_from x v ≡ accepts o → numeric_octet o ≡ accepts x
unfolding numeric_from
numeric_octet_back x v o h k =
    by_test (is_set x 8)
    (λ t. never (rw t at k))
    (λ t. subst (λ (p : NumericOperator). numeric_octet p ≡ accepts x) (same_accepted (rw t at k)) (numeric_made x v h t))

pub bitmask_octet_back : (x v : ℕ) (o : BitmaskOperator) → x < 256 → bitmask_from x v ≡ accepts o → bitmask_octet o ≡ accepts x
unfolding bitmask_from
bitmask_octet_back x v o h k =
    by_test (is_set x 8)
    (λ t. never (rw t at k))
    (λ t. by_test (is_set x 4)
    (λ s. never (rw (t, s) at k))
    (λ s. subst (λ (p : BitmaskOperator). bitmask_octet p ≡ accepts x) (same_accepted (rw (t, s) at k)) (bitmask_made x v h t s)))

last_of : (a b c l g q : ℕ) → 4 * a + 2 * b + c ≡ 4 * l + 2 * g + q → a ≡ l → b ≡ g → c ≡ q
last_of a b c l g q s d e = omega arith

-- the low bits of an octet whose low digits are known
module _ (x l g q : ℕ) (low : x % 16 ≡ 4 * l + 2 * g + q) (hl : l < 2) (hg : g < 2) (hq : q < 2) where
  bit_eight : x / 8 % 2 ≡ 0
  bit_eight = let f : x / 8 / 2 ≡ x / 16 = div-div-eq-div-mul x 8 2 in omega arith

  bit_four : x / 4 % 2 ≡ l
  bit_four =
      let e : x / 4 / 2 ≡ x / 8 = div-div-eq-div-mul x 4 2 in
      let f : x / 8 / 2 ≡ x / 16 = div-div-eq-div-mul x 8 2 in
      let b = bit_eight in
      omega arith

  bit_two : x / 2 % 2 ≡ g
  bit_two =
      let d : x / 2 / 2 ≡ x / 4 = div-div-eq-div-mul x 2 2 in
      let b = bit_eight in let c = bit_four in
      let s = low_eight x b in
      omega arith

  bit_one : x / 1 % 2 ≡ q
  bit_one = last_bit x ∙ last_of _ _ _ l g q (low_eight x bit_eight ∙ low) bit_four bit_two

-- a bit that is a flag's digit
flag_back : (x w : ℕ) (b : Bool) → x / w % 2 ≡ digit b → is_set x w ≡ b
flag_back x w b e = ap (λ (n : ℕ). eqb n 1) e ∙ digit_set b

-- record to octet and back: the three low flags of a numeric operator, of which a bitmask operator has the last two
module _ (e a : Bool) (w low : ℕ) (l g q : Bool) (proper : is_width w ≡ true) (low-is : low ≡ 4 * digit l + 2 * digit g + digit q) where
  low_small : low < 16
  low_small = let d = low-is in let r = digit_small l in let s = digit_small g in let t = digit_small q in omega arith

  whole : ℕ
  whole = octet e a w low proper low_small

  whole_low : whole % 16 ≡ 4 * digit l + 2 * digit g + digit q
  unfolding whole
  whole_low = low_back e a w low proper low_small ∙ low-is

  eight_back : is_set whole 8 ≡ false
  eight_back = ap (λ (n : ℕ). eqb n 1) (bit_eight whole _ _ _ whole_low (digit_small l) (digit_small g) (digit_small q))

  four_back : is_set whole 4 ≡ l
  four_back = flag_back whole 4 l (bit_four whole _ _ _ whole_low (digit_small l) (digit_small g) (digit_small q))

  two_back : is_set whole 2 ≡ g
  two_back = flag_back whole 2 g (bit_two whole _ _ _ whole_low (digit_small l) (digit_small g) (digit_small q))

  one_back : is_set whole 1 ≡ q
  one_back = flag_back whole 1 q (bit_one whole _ _ _ whole_low (digit_small l) (digit_small g) (digit_small q))

pub numeric_record_back : (o : NumericOperator) (x : ℕ) → numeric_octet o ≡ accepts x → numeric_from x o.value ≡ accepts o
unfolding octet_parts octet whole numeric_from
numeric_record_back o x k =
    let e = o.end_of_list in let a = o.and_with_next in let w = o.value_length in
    let l = o.less_than in let g = o.greater_than in let q = o.equal in
    let low = weight_of l 4 + weight_of g 2 + weight_of q 1 in
    let d : low ≡ 4 * digit l + 2 * digit g + digit q = rw (weight_digit l 4, weight_digit g 2, weight_digit q 1) (omega arith) in
    by_test (is_width w)
    (λ p. subst (λ (y : ℕ). numeric_from y o.value ≡ accepts o) (same_accepted (rw p at k))
    (simp (
      eight_back e a w low l g q p d,
      end_back e a w low p (low_small e a w low l g q p d),
      and_back e a w low p (low_small e a w low l g q p d),
      width_back e a w low p (low_small e a w low l g q p d),
      four_back e a w low l g q p d,
      two_back e a w low l g q p d,
      one_back e a w low l g q p d,
    )))
    (λ n. never (rw n at k))

pub bitmask_record_back : (o : BitmaskOperator) (x : ℕ) → bitmask_octet o ≡ accepts x → bitmask_from x o.bitmask ≡ accepts o
unfolding octet_parts octet whole bitmask_from digit
bitmask_record_back o x k =
    let e = o.end_of_list in let a = o.and_with_next in let w = o.value_length in
    let g = o.not in let q = o.match_flag in
    let low = weight_of g 2 + weight_of q 1 in
    let d : low ≡ 4 * digit false + 2 * digit g + digit q = rw (weight_digit g 2, weight_digit q 1) (omega arith) in
    by_test (is_width w)
    (λ p. subst (λ (y : ℕ). bitmask_from y o.bitmask ≡ accepts o) (same_accepted (rw p at k))
    (simp (
      eight_back e a w low false g q p d,
      end_back e a w low p (low_small e a w low false g q p d),
      and_back e a w low p (low_small e a w low false g q p d),
      width_back e a w low p (low_small e a w low false g q p d),
      four_back e a w low false g q p d,
      two_back e a w low false g q p d,
      one_back e a w low false g q p d,
    )))
    (λ n. never (rw n at k))
