-- One operator by itself, in numbers: what the operators' definitions say (`operators`), 1 where a flag is set. A width that is none of the
-- four, a flag that is neither 0 nor 1 and bits that the kind does not have are BadRecord.
use Rattle.std.specs.Prelude.{ℕ, ◌+◌, Bool, true, false, ◌&&◌, List, [], get_or, eqb, leb}
use Rattle.ground.specs.Answers.{Answer, accepts, refuses, declines}
use Rattle.ground.specs.Picks.{pick}
use Rattle.operators.specs.declared.NumericOperator.{NumericOperator}
use Rattle.operators.specs.declared.BitmaskOperator.{BitmaskOperator}
use Rattle.operators.specs.Operators.{is_set, weight_of, numeric_from, bitmask_from, numeric_octet, bitmask_octet, comparing, masking}
use Rattle.krubbadin.specs.declared.KrubbadinAnswer.{KrubbadinAnswer}
use Rattle.krubbadin.specs.declared.single.KrubbadinOperator.{KrubbadinOperator}
use Rattle.krubbadin.specs.Surface.{given_with, refused_with}

abbrev numbers : ℕ → ℕ → Bool → Bool → ℕ → ℕ → ℕ → KrubbadinOperator
numbers status carried end also width flags value =
    record {
      status = status;
      carried = carried;
      end_of_list = weight_of end 1;
      and_with_next = weight_of also 1;
      value_length = width;
      flags = flags;
      value = value;
    }

abbrev pub numeric_numbers : NumericOperator → KrubbadinOperator
numeric_numbers o =
    numbers 0 0 o.end_of_list o.and_with_next o.value_length
    (weight_of o.less_than 4 + weight_of o.greater_than 2 + weight_of o.equal 1) o.value

abbrev pub bitmask_numbers : BitmaskOperator → KrubbadinOperator
bitmask_numbers o =
    numbers 0 0 o.end_of_list o.and_with_next o.value_length (weight_of o.not 2 + weight_of o.match_flag 1) o.bitmask

abbrev pub no_operator : ℕ → List ℕ → KrubbadinOperator
no_operator number carried = numbers number (get_or carried 0 0) false false 0 0 0

abbrev pub numeric_answer : Answer NumericOperator → KrubbadinOperator
numeric_answer (accepts o) = numeric_numbers o
numeric_answer (declines f) = no_operator f.number f.carried

abbrev pub bitmask_answer : Answer BitmaskOperator → KrubbadinOperator
bitmask_answer (accepts o) = bitmask_numbers o
bitmask_answer (declines f) = no_operator f.number f.carried

unfoldable pub operator_read : ℕ → ℕ → ℕ → KrubbadinOperator
operator_read bitmask octet value = pick (eqb bitmask 0) (numeric_answer (numeric_from octet value)) (bitmask_answer (bitmask_from octet value))

-- ---- a record's octet

abbrev pub octet_answer : Answer ℕ → KrubbadinAnswer
octet_answer (accepts octet) = given_with octet 0
octet_answer (declines f) = refused_with f

abbrev pub most_flags : ℕ → ℕ
most_flags bitmask = pick (eqb bitmask 0) 7 3

unfoldable pub is_record : ℕ → ℕ → ℕ → ℕ → Bool
is_record bitmask end also flags = leb end 1 && leb also 1 && leb flags (most_flags bitmask)

abbrev numeric_with : Bool → Bool → ℕ → ℕ → NumericOperator
numeric_with end also width flags =
    record {
      end_of_list = end;
      and_with_next = also;
      value_length = width;
      less_than = is_set flags 4;
      greater_than = is_set flags 2;
      equal = is_set flags 1;
      value = 0;
    }

abbrev bitmask_with : Bool → Bool → ℕ → ℕ → BitmaskOperator
bitmask_with end also width flags =
    record {
      end_of_list = end;
      and_with_next = also;
      value_length = width;
      not = is_set flags 2;
      match_flag = is_set flags 1;
      bitmask = 0;
    }

unfoldable pub record_octet : ℕ → ℕ → ℕ → ℕ → ℕ → Answer ℕ
record_octet bitmask end also width flags =
    pick (eqb bitmask 0) (numeric_octet (numeric_with (eqb end 1) (eqb also 1) width flags)) (bitmask_octet (bitmask_with (eqb end 1) (eqb also 1) width flags))

unfoldable pub operator_written : ℕ → ℕ → ℕ → ℕ → ℕ → KrubbadinAnswer
operator_written bitmask end also width flags =
    octet_answer (pick (is_record bitmask end also flags) (record_octet bitmask end also width flags) (refuses 10 []))

-- ---- constructors

unfoldable pub operator_made : ℕ → ℕ → KrubbadinOperator
operator_made which value =
    pick (eqb which 0) (numeric_numbers (comparing false false true value))
    (pick (eqb which 1) (numeric_numbers (comparing false true true value))
    (pick (eqb which 2) (bitmask_numbers (masking false false value))
    (pick (eqb which 3) (bitmask_numbers (masking false true value)) (no_operator 10 []))))
