-- `writing::put_front` meets its contract: nothing is written, or eight octets.
use Prim.Native.Nat.{ℕ}
use mathlib.Core.Path.{◌≡◌, sym, ap, ◌∙◌}
use native.Mathlib.Omega.{arith}
use lib.ListN.{length}
use Rattle.std.specs.Prelude.{Some, Option}
use Rattle.octets.proofs.Spells.{length_spelled}
use Rattle.measuring.specs.Bodies.{eight_of}
use Rattle.writing.proofs.put_front.Goals as goal

is_long : {n : ℕ} {d : Option ℕ} → Some n ≡ d → length (eight_of d) ≡ 8
is_long {n} e = ap (λ (x : Option ℕ). length (eight_of x)) (sym e) ∙ length_spelled 8 n

pub write_value-requires-clause-code_in_bounds : goal.write_value-requires-clause-code_in_bounds
write_value-requires-clause-code_in_bounds c = omega (arith, c.requires.room, is_long (sym c.in-Some.is ∙ c.front_of.ensures))

pub returns-in-Some-clause-next : goal.returns-in-Some-clause-next
returns-in-Some-clause-next c =
    let a = c.args in
    let e = sym c.in-Some.is ∙ c.front_of.ensures in
    omega (arith, is_long e)
