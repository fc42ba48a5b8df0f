-- `stored::joined_last` meets its contract.
use Prim.Native.Nat.{ℕ, ◌+◌, ◌-◌}
use mathlib.Core.Path.{◌≡◌, sym, ap, ◌∙◌}
use native.Mathlib.Omega.{arith}
use lib.Dec.{eqb}
use Rattle.stored.specs.Stored.{zeros_from}
use Rattle.stored.proofs.Scans.{zeros_joined}
use Rattle.stored.proofs.joined_last.Goals as goal

pub returns : goal.returns
returns c =
    let a = c.args in
    let e : 7 ≡ a.base + 64 - (a.base + 57) = omega arith in
    ap (λ (k : ℕ). zeros_from k a.words.now (a.base + 57)) e ∙ zeros_joined (a.base + 64 - (a.base + 57)) a.words.now (a.base + 57) (omega arith) ∙ ap (λ (x : ℕ). eqb x 0) (sym c.joined.ensures)
