-- `nlri::put_slots` meets its contract. The loop's invariant: what is left to store gives the whole overlay, and the pieces so far fit.
use Prim.Native.Nat.{◌+◌, ◌*◌}
use mathlib.Core.Path.{◌≡◌}
use mathlib.Core.List.{map}
use lib.ListN.{drop}
use lib.Seq.{sets}
use Rattle.stored.specs.Stored.{all_words}
use Rattle.stored.proofs.Inverse.{FitAll}
use Rattle.nlri.specs.Nlri.{apart, pieces_in}
use Rattle.nlri.proofs.put_slots.Given as goal

abbrev pub invariant-loop-i : goal.invariant-loop-i
invariant-loop-i l = (sets l.initial.words l.base (all_words (map apart l.components)) ≡ sets l.words (l.base + 4 * l.i) (all_words (drop l.i (map apart l.components))))
    × FitAll (pieces_in l.i l.components)
