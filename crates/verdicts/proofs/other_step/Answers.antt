-- `verdicts::other_step` meets its contract: a prefix by its octets, and whether it is asked if it is met; what is none tells nothing.
use mathlib.Core.Path.{sym, ap, ◌∙◌}
use Rattle.packets.specs.Packets.{packet_at}
use Rattle.packets.specs.Shown.{address_of}
use Rattle.matching.specs.Rules.{prefix_matches}
use Rattle.verdicts.specs.Steps.{prefix_step, other_step}
use Rattle.verdicts.proofs.Steps.{not_taken, asked, not_asked}
use Rattle.verdicts.proofs.other_step.Goals as goal

pub returns-then-n-eq0 : goal.returns-then-n-eq0
unfolding prefix_step
returns-then-n-eq0 c =
    not_taken _ _ _ c.args.met ((prefix_matches c.in-Prefix.prefix (address_of (packet_at c.args.packet.now) c.in-Prefix.tag))) c.weigh_prefix-n.ensures c.if-n-eq0.true
    ∙ sym (ap (other_step c.args.writing c.args.previous (packet_at c.args.packet.now) c.args.met) c.in-Prefix.is)

pub returns-then-met : goal.returns-then-met
unfolding prefix_step
returns-then-met c =
    let a = c.args in
    asked _ _ _ a.met ((prefix_matches c.in-Prefix.prefix (address_of (packet_at c.args.packet.now) c.in-Prefix.tag))) c.weigh_prefix-n.ensures c.if-n-eq0.false c.if-met.true
    (c.prefix_matches.ensures ∙ ap (prefix_matches c.in-Prefix.prefix) c.address_of.ensures)
    ∙ sym (ap (other_step a.writing a.previous (packet_at c.args.packet.now) a.met) c.in-Prefix.is)

pub returns-else-met : goal.returns-else-met
unfolding prefix_step
returns-else-met c =
    not_asked _ _ _ c.args.met ((prefix_matches c.in-Prefix.prefix (address_of (packet_at c.args.packet.now) c.in-Prefix.tag))) c.weigh_prefix-n.ensures c.if-n-eq0.false c.if-met.false
    ∙ sym (ap (other_step c.args.writing c.args.previous (packet_at c.args.packet.now) c.args.met) c.in-Prefix.is)
