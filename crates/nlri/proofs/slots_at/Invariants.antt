-- `nlri::slots_at` meets its contract. The loop's invariant: the slots are those of the first i pieces, the others empty.
use mathlib.Core.Path.{◌≡◌}
use Rattle.stored.specs.Stored.{pieces_from}
use Rattle.nlri.specs.Nlri.{slots_of}
use Rattle.nlri.proofs.slots_at.Given as goal

abbrev pub invariant-loop-i : goal.invariant-loop-i
invariant-loop-i l = l.slots ≡ slots_of (pieces_from l.i l.words l.base)
