-- `lists::fill` meets its contract: an operator alone is stored as the reading records it; any other list is stored by `fill_on`, and its first
-- octet again.
use native.Mathlib.Omega.{arith}
use lib.ListN.{get_or}
use Rattle.lists.proofs.Runs.{lone_is}
use Rattle.lists.proofs.Turns.{whole_in, whole_first, kept_first, room_first, filling_first, lone_stored, all_stored}
use Rattle.lists.proofs.fill.Goals as goal

pub bounds-s-at : goal.bounds-s-at
bounds-s-at c = omega (arith, whole_in _ _ (whole_first _ _ _ _ c.requires.accepted))

pub read_value-requires-clause-code_in_bounds : goal.read_value-requires-clause-code_in_bounds
read_value-requires-clause-code_in_bounds c =
    omega (arith, whole_in _ _ (whole_first _ _ _ _ c.requires.accepted), (lone_is (get_or c.args.s.now c.args.at 0) c.if-octet.true).1)

pub bounds-values-start : goal.bounds-values-start
bounds-values-start c = (room_first _ _ _ _ c.requires.accepted _ c.args.values.now c.args.octets.now c.requires.places).0

pub recorded-requires : goal.recorded-requires
recorded-requires c = kept_first _ _ _ _ c.requires.accepted

pub bounds-octets-start : goal.bounds-octets-start
bounds-octets-start c = (room_first _ _ _ _ c.requires.accepted _ c.args.values.now c.args.octets.now c.requires.places).1

pub returns-then-octet : goal.returns-then-octet
returns-then-octet c =
    let s = lone_stored _ _ _ _ c.requires.accepted _ c.args.values.now c.args.octets.now c.requires.places c.if-octet.true c.read_value.ensures c.recorded.ensures in
    record { values = s.0; octets = s.1.0; end = s.1.1 }

pub fill_on-t-requires : goal.fill_on-t-requires
fill_on-t-requires c = filling_first _ _ _ _ c.requires.accepted _ c.args.values.now c.args.octets.now c.requires.places

pub bounds-octets-start-2 : goal.bounds-octets-start-2
bounds-octets-start-2 c = omega (arith, c.fill_on-t.auto.octets, (room_first _ _ _ _ c.requires.accepted _ c.args.values.now c.args.octets.now c.requires.places).1)

pub bounds-octets-start-3 : goal.bounds-octets-start-3
bounds-octets-start-3 c = (omega (arith, c.fill_on-t.auto.octets, (room_first _ _ _ _ c.requires.accepted _ c.args.values.now c.args.octets.now c.requires.places).1))

pub returns : goal.returns
returns c =
    let s = all_stored _ _ _ _ c.requires.accepted _ c.args.values.now c.args.octets.now c.requires.places c.kind_of.ensures c.fill_on-t.ensures c.first.ensures in
    record { values = s.0; octets = s.1.0; end = s.1.1 }
