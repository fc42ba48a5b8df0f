-- A list of operators: what stands at a place, how far a list goes or why it is refused, and what a reading records of it. A list is
-- measured by its component's type. Document 01, "The length and the component walk", "The plain reading", "The standard reading"; RFC
-- 8955, 4.2.1.1 and 4.2.1.2.
use Rattle.std.specs.Prelude.{ℕ, zero, suc, ◌+◌, ◌-◌, ◌≡◌, Bool, true, false, List, [], ◌∷◌, map, length, get_or, take, drop, ltb, leb}
use Rattle.ground.specs.Answers.{Answer, accepts, refuses_at, declines}
use Rattle.ground.specs.Picks.{pick}
use Rattle.octets.specs.Widths.{code_in, width_of}
use Rattle.octets.specs.Spell.{value_of}
use Rattle.choices.specs.declared.Reading.{Reading}
use Rattle.operators.specs.declared.Kind.{Kind}
use Rattle.choices.specs.Choices.{codes_in, refused_in, first_in}
use Rattle.operators.specs.Ops.{kind_of, cleared_in, Op, op}
use Rattle.lists.specs.declared.Tally.{Tally}

-- so many operators, and the place after them
abbrev pub tally : ℕ → ℕ → Tally
tally count at = record { count = count; next = record { at = at } }

-- ---- one operator: "operator octets, each with a value"

-- the operator at a place, of which the octet says how many octets its value has
abbrev pub op_at : List ℕ → ℕ → Op
op_at s at = op (get_or s at 0) (value_of (take (width_of (get_or s at 0)) (drop (at + 1) s)))

-- the place after an operator
abbrev pub after_op : ℕ → Op → ℕ
after_op at o = at + 1 + width_of o.octet

-- its octet is missing; its octet is there, and not all of its value
abbrev pub lacks_octet : List ℕ → ℕ → Bool
lacks_octet s at = leb (length s) at

abbrev pub lacks_value : List ℕ → ℕ → Bool
lacks_value s at = ltb (length s - (at + 1)) (width_of (get_or s at 0))

-- an operator whose octet is there, with a width that the type takes: 1 is "any octet missing before its bound", at that bound "also where part
-- of a value is there"; "An operator's value must be present before reserved bits are looked at", which are refused at the operator octet
unfoldable pub value_at : Reading → ℕ → List ℕ → ℕ → Answer Op
value_at reading type s at =
    pick (lacks_value s at) (refuses_at 1 [] (length s))
    (pick (refused_in reading (kind_of type) (get_or s at 0)) (refuses_at 5 (get_or s at 0 ∷ []) at) (accepts (op_at s at)))

-- its octet has a width code that the type does not take
abbrev pub too_wide : Reading → ℕ → ℕ → Bool
too_wide reading type octet = leb (codes_in reading type) (code_in octet)

-- first its octet, then its width, which is refused at the operator octet "before its value is looked for", then its value
unfoldable pub operator_at : Reading → ℕ → List ℕ → ℕ → Answer Op
operator_at reading type s at =
    pick (lacks_octet s at) (refuses_at 1 [] (length s))
    (pick (too_wide reading type (get_or s at 0)) (refuses_at 6 (code_in (get_or s at 0) ∷ []) at) (value_at reading type s at))

-- ---- a list of them

-- a list with n operators before it
abbrev pub plus : ℕ → Answer Tally → Answer Tally
plus n (accepts t) = accepts (tally (n + t.count) t.next.at)
plus n (declines f) = declines f

-- what follows from the operator at a place: the list goes on "until one has 0x80 set"
abbrev pub turn : ℕ → Answer Op → (ℕ → Answer Tally) → Answer Tally
turn at (accepts o) go = pick (leb 128 o.octet) (accepts (tally 1 (after_op at o))) (plus 1 (go (after_op at o)))
turn at (declines f) go = declines f

-- the list from a place on; the number before the octets bounds its operators
unfoldable pub list_from : Reading → ℕ → ℕ → List ℕ → ℕ → Answer Tally
list_from reading type zero s at = refuses_at 1 [] (length s)
list_from reading type (suc k) s at = turn at (operator_at reading type s at) (list_from reading type k s)

-- the list at a place: how many operators it has and the place after it, or its first fault. Every operator has an octet, so there are no
-- more of them than octets: `Laws` in proofs/ has the equations without the bound
unfoldable pub list_at : Reading → ℕ → List ℕ → ℕ → Answer Tally
list_at reading type s at = list_from reading type (length s) s at

abbrev pub is_accepted : Answer Tally → Bool
is_accepted (accepts t) = true
is_accepted (declines f) = false

abbrev pub Accepted : Reading → ℕ → List ℕ → ℕ → Type 0
Accepted reading type s at = is_accepted (list_at reading type s at) ≡ true

-- ---- what is recorded of it

-- the operators of the list at a place as they stand there, as far as they are whole
abbrev pub ops_turn : List ℕ → ℕ → (ℕ → List Op) → List Op
ops_turn s at go =
    pick (lacks_octet s at) []
    (pick (lacks_value s at) [] (op_at s at ∷ pick (leb 128 (get_or s at 0)) [] (go (after_op at (op_at s at)))))

unfoldable pub ops_from : ℕ → List ℕ → ℕ → List Op
ops_from zero s at = []
ops_from (suc k) s at = ops_turn s at (ops_from k s)

unfoldable pub ops_at : List ℕ → ℕ → List Op
ops_at s at = ops_from (length s) s at

-- "Reserved operator bits are ignored and recorded as 0. So is AND on a list's first operator." In the plain reading no reserved bits are
-- left to clear and "the AND bit is kept": there an accepted list is recorded as it stands (`plain_recorded` in proofs/)
abbrev pub cleared_op : Kind → Op → Op
cleared_op kind o = op (cleared_in kind o.octet) o.value

abbrev pub first_op : Reading → Op → Op
first_op reading o = op (first_in reading o.octet) o.value

unfoldable pub recorded_ops : Reading → ℕ → List Op → List Op
recorded_ops reading type [] = []
recorded_ops reading type (o ∷ os) = first_op reading (cleared_op (kind_of type) o) ∷ map (cleared_op (kind_of type)) os
