-- `verdicts::ipv4_step` meets its contract: by its octets, and whether it is asked if the prefix is met.
use mathlib.Core.Path.{ap, ◌∙◌}
use mathlib.Core.Bool.{Bool}
use Rattle.rules.specs.declared.NetworkPrefix.TheVariants.{Ipv4 as V4}
use Rattle.packets.specs.Packets.{packet_at}
use Rattle.packets.specs.Shown.{address_of}
use Rattle.matching.specs.Rules.{prefix_matches}
use Rattle.verdicts.specs.Steps.{prefix_step}
use Rattle.verdicts.proofs.Steps.{not_taken, asked, not_asked}
use Rattle.verdicts.proofs.ipv4_step.Goals as goal

pub returns-then-n-eq0 : goal.returns-then-n-eq0
unfolding prefix_step
returns-then-n-eq0 c = not_taken _ _ _ c.args.met ((let holds_is : Bool = let a = c.args in prefix_matches (V4 a.length a.address) (address_of (packet_at a.packet.now) a.tag) in holds_is)) c.weigh_ipv4-n.ensures c.if-n-eq0.true

pub returns-then-met : goal.returns-then-met
unfolding prefix_step
returns-then-met c =
    let a = c.args in
    asked _ _ _ a.met ((let holds_is : Bool = let a = c.args in prefix_matches (V4 a.length a.address) (address_of (packet_at a.packet.now) a.tag) in holds_is)) c.weigh_ipv4-n.ensures c.if-n-eq0.false c.if-met.true (c.ipv4_matches.ensures ∙ ap (prefix_matches (V4 a.length a.address)) c.address_of.ensures)

pub returns-else-met : goal.returns-else-met
unfolding prefix_step
returns-else-met c = not_asked _ _ _ c.args.met ((let holds_is : Bool = let a = c.args in prefix_matches (V4 a.length a.address) (address_of (packet_at a.packet.now) a.tag) in holds_is)) c.weigh_ipv4-n.ensures c.if-n-eq0.false c.if-met.false
