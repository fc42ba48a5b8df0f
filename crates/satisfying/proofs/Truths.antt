-- NOT turns what a mask is met by.
use Prim.Native.Nat.{ℕ}
use mathlib.Core.Path.{◌≡◌, refl}
use mathlib.Core.Bool.{Bool, true, false, not, beq}
use Rattle.ground.specs.Picks.{pick}
use Rattle.satisfying.specs.Lists.{bit0x02, met, masked}

turns : (inverts met : Bool) → not (beq met inverts) ≡ pick inverts (not met) met
turns true true = refl
turns true false = refl
turns false true = refl
turns false false = refl

pub turned : (o v d : ℕ) (b : Bool) → b ≡ met o v d → not (beq b (bit0x02 o)) ≡ masked o v d
unfolding masked
turned o v d b e = rw e (turns (bit0x02 o) (met o v d))
