-- `verdicts::judge_in` meets its contract: the invariant is `Judging`, what is left of the words to count and to match.
use Rattle.packets.specs.Packets.{packet_at}
use Rattle.verdicts.proofs.Judging.{Judging}
use Rattle.verdicts.proofs.judge_in.Given as goal

abbrev pub invariant-loop-i : goal.invariant-loop-i
invariant-loop-i l = Judging l.writing l.words l.base l.values l.octets (packet_at l.packet) l.ask l.count l.first l.i l.left l.previous l.body l.met
