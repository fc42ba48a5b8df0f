-- `choosing::find` meets its contract: the invariant is what was found of the rules that were passed.
use Rattle.packets.specs.Packets.{packet_at}
use Rattle.choosing.specs.Choosing.{table}
use Rattle.choosing.specs.Passes.{Finds}
use Rattle.choosing.proofs.find.Given as goal

abbrev pub invariant-loop-i : goal.invariant-loop-i
invariant-loop-i l = Finds (table l.words l.values l.octets) (packet_at l.packet) l.family l.i (record { mixed = l.mixed; best = l.best })
