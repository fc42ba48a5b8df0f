-- `verdicts::judge_in` meets its contract: the invariant is `Judging`, what is left of the words to count and to match.
use Prim.Native.Nat.{◌≤◌}
use mathlib.Core.Path.{sym, ◌∙◌}
use native.Mathlib.Omega.{arith}
use lib.ListN.{length}
use Rattle.stored.specs.Distinguishers.{distinguisher_at}
use Rattle.measuring.specs.Bodies.{distinguisher_octets}
use Rattle.measuring.proofs.Laws.{distinguisher_most}
use Rattle.packets.specs.Packets.{packet_at}
use Rattle.verdicts.proofs.Judging.{judge_frame, judge_starts, judge_ends, judge_stops, judge_goes, few, most_octets}
use Rattle.verdicts.proofs.judge_in.Goals.{else-body-gt4087-via-then-body-gt4087+else-body-front_size-gt4095, else-body-gt4087-via-else-body-gt4087}
use Rattle.verdicts.proofs.judge_in.Goals as goal

pub returns-then-not-is_framed : goal.returns-then-not-is_framed
returns-then-not-is_framed c =
    let a = c.args in
    judge_frame a.writing a.words.now a.base a.values.now a.octets.now (packet_at a.packet.now) a.ask c.requires.long (sym c.is_framed.ensures ∙ c.if-not-is_framed.true)

pub loop-i-init : goal.loop-i-init
loop-i-init c = judge_starts _ _ _ _ _ _ _ _ _ c.requires.long (sym c.is_framed.ensures ∙ c.if-not-is_framed.false) c.count_at-count.ensures c.first_at-first.ensures c.requires.packet

pub returns-in_err-s : goal.returns-in_err-s
returns-in_err-s c = c.from_residual.ensures ∙ judge_stops _ _ _ _ _ _ _ _ _ _ _ _ _ _ c.loop-i.invariant c.loop-i-test.true c.in_err-s.ensures

pub overflow_add-body : goal.overflow_add-body
overflow_add-body c =
    let v = c.loop-i.invariant in
    let f = few _ _ _ _ _ _ _ _ _ _ _ _ _ _ v c.loop-i-test.true c.in_ok-s.ensures in
    let g = most_octets _ _ _ _ _ _ _ _ _ _ _ _ _ _ v c.loop-i-test.true c.in_ok-s.ensures in
    omega (arith, v.small, v.room, v.passed, v.most)

pub overflow_sub-left : goal.overflow_sub-left
overflow_sub-left c = few _ _ _ _ _ _ _ _ _ _ _ _ _ _ c.loop-i.invariant c.loop-i-test.true c.in_ok-s.ensures

pub loop-i-preserved : goal.loop-i-preserved
loop-i-preserved c = judge_goes _ _ _ _ _ _ _ _ _ _ _ _ _ _ c.loop-i.invariant c.loop-i-test.true c.in_ok-s.ensures

pub overflow_add-body-then-body-gt4087 : goal.overflow_add-body-then-body-gt4087
overflow_add-body-then-body-gt4087 c =
    let v = c.loop-i.invariant in
    omega (arith, v.small, v.room, v.passed, v.most, c.front_size.ensures, (let few_front_is : let a = c.args in length (distinguisher_octets a.writing (distinguisher_at a.words.now a.base)) ≤ 8 = let a = c.args in distinguisher_most a.writing (distinguisher_at a.words.now a.base) in few_front_is))

pub returns : goal.returns
returns c =
    let few_front = distinguisher_most c.args.writing (distinguisher_at c.args.words.now c.args.base) in
    elim c.else-body-gt4087.branch [
      | else-body-gt4087-via-then-body-gt4087+else-body-front_size-gt4095 w ↦ judge_ends _ _ _ _ _ _ _ _ _ _ _ _ _ _ c.loop-i.invariant c.loop-i-test.false (omega (arith, w.front_size.ensures, w.if-body-front_size-gt4095))
      | else-body-gt4087-via-else-body-gt4087 w ↦ judge_ends _ _ _ _ _ _ _ _ _ _ _ _ _ _ c.loop-i.invariant c.loop-i-test.false (omega (arith, w.if-body-gt4087, few_front))
    ]
