-- `stored::put_zeros` meets its contract.
use Prim.Native.Nat.{ℕ, ◌-◌}
use mathlib.Core.Path.{◌≡◌, ap, ◌∙◌}
use native.Mathlib.Omega.{arith}
use lib.ListN.{length, take, drop, replicate, length-take, length-drop, length-replicate}
use Rattle.stored.proofs.Words.{overlay}
use Rattle.stored.proofs.put_zeros.Goals as goal

pub returns : goal.returns
returns c =
    let a = c.args in
    let n : length (take (a.to - a.from) (drop a.from a.words.now)) ≡ a.to - a.from = simp (length-take, length-drop) (omega arith) in
    overlay a.words.now c.fill.new.self (replicate (a.to - a.from) 0) a.from (a.to - a.from) (c.fill.ensures.after (λ y e. e) ∙ ap (λ (k : ℕ). replicate k 0) n) (length-replicate (a.to - a.from) 0) (omega arith)
