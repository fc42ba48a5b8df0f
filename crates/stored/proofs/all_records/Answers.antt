-- `stored::all_records` meets its contract. The loop's invariant: the places not passed yet decide.
use mathlib.Core.Path.{sym, ap, ◌∙◌}
use mathlib.Core.Bool.{true, false}
use native.Mathlib.Omega.{arith}
use Rattle.stored.specs.Pieces.{is_record}
use Rattle.stored.proofs.Words.{records_end, records_by}
use Rattle.stored.proofs.all_records.Goals as goal

pub returns-then-not-is_record : goal.returns-then-not-is_record
returns-then-not-is_record c =
    let l = c.loop-i in
    sym (l.invariant ∙ records_by _ _ _ l.i (omega arith) false (ap is_record (sym c.piece_at.ensures) ∙ sym c.is_record.ensures ∙ c.if-not-is_record.true))

pub loop-i-preserved : goal.loop-i-preserved
loop-i-preserved c =
    let l = c.loop-i in
    l.invariant ∙ records_by _ _ _ l.i (omega arith) true (ap is_record (sym c.piece_at.ensures) ∙ sym c.is_record.ensures ∙ c.if-not-is_record.false)

pub returns : goal.returns
returns c = let l = c.loop-i in sym (l.invariant ∙ records_end _ _ _ l.i (omega arith))
