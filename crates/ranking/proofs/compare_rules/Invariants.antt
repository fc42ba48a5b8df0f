-- `ranking::compare_rules` meets its contract. The invariant: the first i components of each rank equal.
use Prim.Native.Nat.{◌≤◌}
use Rattle.ranking.proofs.ComponentsInTurn.{Begun, ComponentsPassed}
use Rattle.ranking.proofs.compare_rules.Given as goal

abbrev pub invariant-loop-i : goal.invariant-loop-i
invariant-loop-i l = (l.i-end ≤ l.held) × (l.i-end ≤ l.held2) × (l.i-end ≤ 13) × Begun l.a.words.now l.a.at l.a.values.now l.a.octets.now l.held l.first × Begun l.b.words.now l.b.at l.b.values.now l.b.octets.now l.held2 l.first2
    × ComponentsPassed l.a.words.now l.a.at l.a.values.now l.a.octets.now l.b.words.now l.b.at l.b.values.now l.b.octets.now l.i
