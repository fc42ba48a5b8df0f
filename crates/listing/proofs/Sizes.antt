-- How long a listing may be: a decimal has 20 digits at most, so the line of an operator has 27 octets, and all other lines of a component 138.
use Prim.Native.Nat.{ℕ, zero, suc, ◌+◌, ◌*◌, ◌/◌, ◌%◌, ◌^◌, ◌≤◌}
use mathlib.Core.Bool.{Bool, true, false}
use mathlib.Core.List.{List, [], ◌∷◌, ◌++◌}
use native.Mathlib.Omega.{arith}
use lib.Dec.{leb}
use lib.ListN.{length, get_or, length-append}
use Rattle.ground.specs.Answers.{Place, nowhere, at_octet}
use Rattle.ground.specs.Picks.{pick}
use Rattle.refusals.specs.declared.Fault.{Fault}
use Rattle.refusals.specs.Refusals.{answered, number_of, carried_of, place_of, told}
use Rattle.operators.specs.Ops.{Op, op, ops_in}
use Rattle.rules.specs.declared.NetworkPrefix.{NetworkPrefix}
use Rattle.rules.specs.declared.NetworkPrefix.TheVariants.{Ipv4, Ipv6, Ipv4Offset, Ipv6Offset}
use Rattle.stored.specs.declared.Piece.{Piece}
use Rattle.stored.specs.declared.Piece.TheVariants.{Prefix, Operators, NoRecord}
use Rattle.std.specs.Prelude.{Result, Ok, Err}
use Rattle.reading.specs.declared.Taken.{Taken}
use Rattle.listing.specs.Texts.{ascii, digit, decimal_from, decimal, commas, dotted}
use Rattle.listing.specs.Listings.{number_line, type_line, ops_line, op_line, op_lines, prefix_line, piece_lines, component_lines, rule_lines, place_line, refusal_lines}
use Rattle.listing.specs.Puts.{count_in, lines_of}
use Rattle.listing.proofs.Carried.{carried_most}
use Rattle.listing.proofs.RulesBacked.{all_counts}

one_or_none : (b : Bool) (x : ℕ) (xs : List ℕ) → length (pick b (x ∷ []) [] ++ xs) ≤ suc (length xs)
one_or_none true x xs = omega arith
one_or_none false x xs = omega arith

digits_most : (k n : ℕ) → length (decimal_from k n) ≤ k + 1
unfolding decimal_from
digits_most zero n = omega arith
digits_most (suc k) n = let h = digits_most k n in let l = one_or_none (leb (10 ^ suc k) n) (digit (n / 10 ^ suc k % 10)) (decimal_from k n) in omega arith

decimal_most : (n : ℕ) → length (decimal n) ≤ 20
decimal_most n = digits_most 19 n

number_most : (key : List ℕ) (n : ℕ) → length (number_line key n) ≤ length key + 21
unfolding number_line
number_most key n = let h = decimal_most n in omega (arith, length-append (key ++ decimal n) (ascii "\n"), length-append key (decimal n))

op_most : (o : Op) → length (op_line o) ≤ 27
op_most o = let h = decimal_most o.value in omega (arith, length-append (decimal o.value) (ascii "\n"))

ops_most : (values octets : List ℕ) (at n : ℕ) → length (op_lines (ops_in values octets at n)) ≤ 27 * n
unfolding op_lines ops_in
ops_most values octets at zero = omega arith
ops_most values octets at (suc n) =
    let o = op (get_or octets at 0) (get_or values at 0) in
    let h = op_most o in
    let l = ops_most values octets (at + 1) n in
    omega (arith, length-append (op_line o) (op_lines (ops_in values octets (at + 1) n)))

dotted_most : (a : ℕ) → length (dotted a) ≤ 83
unfolding dotted
dotted_most a =
    let h = decimal_most (a / 16777216) in
    let i = decimal_most (a / 65536 % 256) in
    let j = decimal_most (a / 256 % 256) in
    let k = decimal_most (a % 256) in
    simp length-append (omega arith)

prefix_most : (p : NetworkPrefix) → length (prefix_line p) ≤ 112
prefix_most (Ipv4 len a) = let h = dotted_most a in let l = decimal_most len in simp length-append (omega arith)
prefix_most (Ipv6 len h l) = omega arith
prefix_most (Ipv4Offset len off a) = omega arith
prefix_most (Ipv6Offset len off h l) = omega arith

piece_most : (values octets : List ℕ) (p : Piece) → length (piece_lines values octets p) ≤ 138 + 27 * count_in p
piece_most values octets (Prefix t p) =
    let h = number_most (ascii "type=") t in
    let l = prefix_most p in
    omega (arith, length-append (type_line t) (prefix_line p))
piece_most values octets (Operators t start n) =
    let h = number_most (ascii "type=") t in
    let k = number_most (ascii "ops=") n in
    let l = ops_most values octets start n in
    omega (arith, length-append (type_line t ++ ops_line n) (op_lines (ops_in values octets start n)), length-append (type_line t) (ops_line n))
piece_most values octets NoRecord = omega arith

components_most : (values octets : List ℕ) (ps : List Piece) → length (component_lines values octets ps) ≤ 138 * length ps + 27 * all_counts ps
unfolding component_lines
components_most values octets [] = omega arith
components_most values octets (p ∷ ps) =
    let h = piece_most values octets p in
    let l = components_most values octets ps in
    omega (arith, length-append (piece_lines values octets p) (component_lines values octets ps))

commas_most : (ns : List ℕ) → length (commas ns) ≤ 21 * length ns
commas_most [] = omega arith
commas_most (n ∷ []) = let h = decimal_most n in omega arith
commas_most (n ∷ m ∷ ns) =
    let h = decimal_most n in
    let l = commas_most (m ∷ ns) in
    omega (arith, length-append (decimal n ++ ascii ",") (commas (m ∷ ns)), length-append (decimal n) (ascii ","))

rule_most : (used : ℕ) (ps : List Piece) (values octets : List ℕ) → length ps ≤ 13 → all_counts ps ≤ 2047 → length (rule_lines used ps values octets) ≤ 65536
unfolding rule_lines
rule_most used ps values octets h w =
    let a = number_most (ascii "status=") 0 in
    let b = number_most (ascii "used=") used in
    let d = number_most (ascii "components=") (length ps) in
    let l = components_most values octets ps in
    simp length-append (omega arith)

place_most : (p : Place) → length (place_line p) ≤ 27
place_most nowhere = omega arith
place_most (at_octet at) = number_most (ascii "place=") at

refusal_most : (f : Fault) → length (refusal_lines (told f)) ≤ 65536
unfolding refusal_lines
refusal_most f =
    let a = number_most (ascii "status=") (number_of f.error) in
    let b = commas_most (carried_of f.error) in
    let d = carried_most f.error in
    let p = place_most (place_of f.place) in
    simp length-append (omega arith)

pub lines_most : (read : Result Taken Fault) (ps : List Piece) (values octets : List ℕ) → length ps ≤ 13 → all_counts ps ≤ 2047 → length (lines_of (answered read) ps values octets) ≤ 65536
lines_most (Ok taken) ps values octets h w = rule_most taken.used ps values octets h w
lines_most (Err f) ps values octets h w = refusal_most f
