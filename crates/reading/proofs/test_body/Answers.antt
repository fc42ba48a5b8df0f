-- `reading::test_body` meets its contract: the stated end lies past the input, the body is too short for a distinguisher, or the walk decides.
use Prim.Native.Nat.{◌+◌, ◌-◌, ◌≤◌}
use mathlib.Core.Path.{◌≡◌, ap, ◌∙◌}
use Rattle.refusals.specs.Refusals.{refusal}
use native.Mathlib.Omega.{arith}
use lib.ListN.{length}
use Rattle.ground.specs.Answers.{declines}
use Rattle.choices.specs.Choices.{expects, front_of}
use Rattle.reading.proofs.Stated.{told_so}
use Rattle.reading.proofs.Ways.{so_front, no_front, bound_at, past_taken, short_taken, walk_taken, walk_movable}
use Rattle.reading.proofs.test_body.Goals as goal
use Rattle.reading.proofs.test_body.Goals.{then-mode-eq2+else-size-front, else-mode-eq2}

pub returns-then-input-start : goal.returns-then-input-start
returns-then-input-start c = ap refusal c.at.ensures ∙ past_taken c.args.reading (expects c.args.mode) c.args.input.now c.args.start c.args.size c.requires c.if-input-start.true

pub returns-then-size-front : goal.returns-then-size-front
returns-then-size-front c =
    ap refusal c.at-then-size-front.ensures ∙ short_taken c.args.reading (expects c.args.mode) c.args.input.now c.args.start c.args.size c.requires c.if-input-start.false
    (omega (arith, told_so c.args.reading c.if-mode-eq2.true, c.front-front.ensures, c.if-size-front.true))

pub moved-requires : goal.moved-requires
moved-requires c =
    let a = c.args in
    let k : (c.if-mode-eq2.from ≡ a.start + front_of a.reading (expects a.mode)) × (c.if-mode-eq2.left ≡ a.size - front_of a.reading (expects a.mode)) × (front_of a.reading (expects a.mode) ≤ a.size) =
    elim c.if-mode-eq2.branch [
      | then-mode-eq2+else-size-front w ↦ so_front a.reading a.mode a.start a.size w.if-mode-eq2.true w.front-front.ensures w.if-size-front.false w.from-is w.left-is
      | else-mode-eq2 w ↦ no_front a.reading a.mode a.start a.size w.if-mode-eq2.false w.from-is w.left-is
    ] in
    let b = bound_at a.reading a.mode a.start a.size (length a.input.now) k c.if-input-start.false c.requires c.bound-end.ensures in
    walk_movable a.reading a.input.now c.if-mode-eq2.from c.if-mode-eq2.left c.bound-end.result b.0 b.1 (omega (arith, c.well_formed)) c.in-Err.fault c.in-Err.ensures

pub returns-in-Ok : goal.returns-in-Ok
returns-in-Ok c =
    let a = c.args in
    let k : (c.if-mode-eq2.from ≡ a.start + front_of a.reading (expects a.mode)) × (c.if-mode-eq2.left ≡ a.size - front_of a.reading (expects a.mode)) × (front_of a.reading (expects a.mode) ≤ a.size) =
    elim c.if-mode-eq2.branch [
      | then-mode-eq2+else-size-front w ↦ so_front a.reading a.mode a.start a.size w.if-mode-eq2.true w.front-front.ensures w.if-size-front.false w.from-is w.left-is
      | else-mode-eq2 w ↦ no_front a.reading a.mode a.start a.size w.if-mode-eq2.false w.from-is w.left-is
    ] in
    walk_taken a.reading (expects a.mode) a.input.now a.start a.size c.requires c.if-input-start.false k.2 k.0 k.1 c.bound-end.ensures c.in-Ok.ensures

pub returns-in-Err : goal.returns-in-Err
returns-in-Err c =
    let a = c.args in
    let k : (c.if-mode-eq2.from ≡ a.start + front_of a.reading (expects a.mode)) × (c.if-mode-eq2.left ≡ a.size - front_of a.reading (expects a.mode)) × (front_of a.reading (expects a.mode) ≤ a.size) =
    elim c.if-mode-eq2.branch [
      | then-mode-eq2+else-size-front w ↦ so_front a.reading a.mode a.start a.size w.if-mode-eq2.true w.front-front.ensures w.if-size-front.false w.from-is w.left-is
      | else-mode-eq2 w ↦ no_front a.reading a.mode a.start a.size w.if-mode-eq2.false w.from-is w.left-is
    ] in
    ap declines c.moved.ensures
    ∙ walk_taken a.reading (expects a.mode) a.input.now a.start a.size c.requires c.if-input-start.false k.2 k.0 k.1 c.bound-end.ensures c.in-Err.ensures
