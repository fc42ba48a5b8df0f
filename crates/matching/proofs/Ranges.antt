-- Whether places end within a list, by subtractions that no machine word overflows.
use Prim.Native.Nat.{ℕ, ◌+◌, ◌-◌, ◌≤◌, ◌<◌}
use mathlib.Core.Path.{◌≡◌, sym}
use mathlib.Core.Bool.{false}
use mathlib.Core.Logic.{⊎_elim}
use native.Mathlib.Omega.{arith}
use lib.Dec.{leb}
use borrow.Author.Tests.{lt-leb, le-leb}
use Rattle.ground.proofs.Cases.{lt_or_le}

module _ (room first start count : ℕ) where
  pub outside : room < count → false ≡ leb (first + start + count) room
  outside h = sym (lt-leb (first + start + count) room (omega arith))

  pub outside' : count ≤ room → room - count < start → false ≡ leb (first + start + count) room
  outside' h k = sym (lt-leb (first + start + count) room (omega arith))

  pub within : count ≤ room → start ≤ room - count → leb first (room - count - start) ≡ leb (first + start + count) room
  within h k =
      ⊎_elim
      (λ l. rw (lt-leb first (room - count - start) l) (sym (lt-leb (first + start + count) room (omega (arith, l)))))
      (λ l. rw (le-leb first (room - count - start) l) (sym (le-leb (first + start + count) room (omega (arith, l)))))
      (lt_or_le (room - count - start) first)
