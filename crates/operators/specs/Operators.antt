-- What an operator octet says with its value, and the octet of a record: RFC 8955, 4.2.1.1 and 4.2.1.2; document 01, "The length and the
-- component walk". "0x80 .. 0x40 is AND. 0x30 shifted right by four picks the value width .. Numeric: 0x04 less, 0x02 greater, 0x01 equal.
-- Bitmask: 0x02 NOT, 0x01 match."
use Rattle.std.specs.Prelude.{ℕ, ◌+◌, ◌/◌, ◌%◌, ◌^◌, [], ◌∷◌, Bool, true, false, ◌||◌, ltb, eqb}
use Rattle.ground.specs.Answers.{Answer, accepts, refuses}
use Rattle.ground.specs.Picks.{pick}
use Rattle.octets.specs.Widths.{width_of}
use Rattle.operators.specs.declared.NumericOperator.{NumericOperator}
use Rattle.operators.specs.declared.BitmaskOperator.{BitmaskOperator}

-- whether the bit of a weight is set
abbrev pub is_set : ℕ → ℕ → Bool
is_set octet weight = eqb (octet / weight % 2) 1

abbrev pub numeric_of : ℕ → ℕ → NumericOperator
numeric_of octet value =
    record {
      end_of_list = is_set octet 128;
      and_with_next = is_set octet 64;
      value_length = width_of octet;
      less_than = is_set octet 4;
      greater_than = is_set octet 2;
      equal = is_set octet 1;
      value = value;
    }

abbrev pub bitmask_of : ℕ → ℕ → BitmaskOperator
bitmask_of octet value =
    record {
      end_of_list = is_set octet 128;
      and_with_next = is_set octet 64;
      value_length = width_of octet;
      not = is_set octet 2;
      match_flag = is_set octet 1;
      bitmask = value;
    }

-- "0x08 in numeric, 0x0C in bitmask lists give InvalidOperator"
unfoldable pub numeric_from : ℕ → ℕ → Answer NumericOperator
numeric_from octet value = pick (is_set octet 8) (refuses 5 (octet ∷ [])) (accepts (numeric_of octet value))

unfoldable pub bitmask_from : ℕ → ℕ → Answer BitmaskOperator
bitmask_from octet value = pick (is_set octet 8 || is_set octet 4) (refuses 5 (octet ∷ [])) (accepts (bitmask_of octet value))

-- what a flag adds to an octet
abbrev pub weight_of : Bool → ℕ → ℕ
weight_of true weight = weight
weight_of false weight = 0

-- "a width not 1, 2, 4 or 8 (in a single operator record ..)" is BadRecord
unfoldable pub is_width : ℕ → Bool
is_width w = eqb w 1 || (eqb w 2 || (eqb w 4 || eqb w 8))

-- 16 times the code of a width
unfoldable pub code_part : ℕ → ℕ
code_part w = pick (eqb w 2) 16 (pick (eqb w 4) 32 (pick (eqb w 8) 48 0))

-- the octet of the end mark, AND, a width and the bits below
unfoldable pub octet_parts : Bool → Bool → ℕ → ℕ → Answer ℕ
octet_parts end also width low = pick (is_width width) (accepts (weight_of end 128 + weight_of also 64 + code_part width + low)) (refuses 10 [])

abbrev pub numeric_octet : NumericOperator → Answer ℕ
numeric_octet o =
    octet_parts o.end_of_list o.and_with_next o.value_length (weight_of o.less_than 4 + weight_of o.greater_than 2 + weight_of o.equal 1)

abbrev pub bitmask_octet : BitmaskOperator → Answer ℕ
bitmask_octet o =
    octet_parts o.end_of_list o.and_with_next o.value_length (weight_of o.not 2 + weight_of o.match_flag 1)

-- "constructors choosing the least width that holds the value"
unfoldable pub least_width : ℕ → ℕ
least_width v = pick (ltb v (2 ^ 8)) 1 (pick (ltb v (2 ^ 16)) 2 (pick (ltb v (2 ^ 32)) 4 8))

-- an operator that stands alone: the end mark set, AND not
abbrev pub comparing : Bool → Bool → Bool → ℕ → NumericOperator
comparing less greater equal value =
    record {
      end_of_list = true;
      and_with_next = false;
      value_length = least_width value;
      less_than = less;
      greater_than = greater;
      equal = equal;
      value = value;
    }

abbrev pub masking : Bool → Bool → ℕ → BitmaskOperator
masking inverted whole mask =
    record {
      end_of_list = true;
      and_with_next = false;
      value_length = least_width mask;
      not = inverted;
      match_flag = whole;
      bitmask = mask;
    }
