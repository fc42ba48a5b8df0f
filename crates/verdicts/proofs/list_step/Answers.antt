-- `verdicts::list_step` meets its contract: by its octets, and whether it is asked if the list is met.
use mathlib.Core.Path.{◌∙◌}
use mathlib.Core.Bool.{Bool}
use native.Mathlib.Omega.{arith}
use Rattle.stored.specs.declared.Piece.TheVariants.{Operators}
use Rattle.packets.specs.Packets.{packet_at}
use Rattle.matching.specs.Rules.{piece_matches}
use Rattle.matching.proofs.Pieces.{by_list}
use Rattle.verdicts.specs.Steps.{step_of}
use Rattle.verdicts.proofs.Steps.{listed, not_taken, asked, not_asked}
use Rattle.verdicts.proofs.list_step.Goals as goal

pub returns-then-n-eq0 : goal.returns-then-n-eq0
unfolding step_of
returns-then-n-eq0 c = not_taken _ _ _ c.args.met ((let holds_is : Bool = let a = c.args in piece_matches a.lent.values.now a.lent.octets.now a.lent.first (packet_at a.packet.now) (Operators a.tag a.start a.count) in holds_is)) c.list_weight-n.ensures c.if-n-eq0.true

pub overflow_add-first : goal.overflow_add-first
overflow_add-first c = let h = (listed c.args.writing _ _ _ _ _ _ c.requires.standard c.list_weight-n.ensures c.if-n-eq0.false) in omega (arith, h.values, c.well_formed)

pub new-requires-clause-values : goal.new-requires-clause-values
new-requires-clause-values c =
    let h = (listed c.args.writing _ _ _ _ _ _ c.requires.standard c.list_weight-n.ensures c.if-n-eq0.false) in
    h.values

pub new-requires-clause-octets : goal.new-requires-clause-octets
new-requires-clause-octets c =
    let h = (listed c.args.writing _ _ _ _ _ _ c.requires.standard c.list_weight-n.ensures c.if-n-eq0.false) in
    h.octets

pub returns-then-met : goal.returns-then-met
unfolding step_of
returns-then-met c =
    let h = (listed c.args.writing _ _ _ _ _ _ c.requires.standard c.list_weight-n.ensures c.if-n-eq0.false) in
    asked _ _ _ c.args.met ((let holds_is : Bool = let a = c.args in piece_matches a.lent.values.now a.lent.octets.now a.lent.first (packet_at a.packet.now) (Operators a.tag a.start a.count) in holds_is)) c.list_weight-n.ensures c.if-n-eq0.false c.if-met.true
    (c.some_matches.ensures ∙ by_list _ _ c.args.lent.first _ c.args.start c.args.count _ h.values h.octets _ c.new.ensures)

pub returns-else-met : goal.returns-else-met
unfolding step_of
returns-else-met c = not_asked _ _ _ c.args.met ((let holds_is : Bool = let a = c.args in piece_matches a.lent.values.now a.lent.octets.now a.lent.first (packet_at a.packet.now) (Operators a.tag a.start a.count) in holds_is)) c.list_weight-n.ensures c.if-n-eq0.false c.if-met.false
