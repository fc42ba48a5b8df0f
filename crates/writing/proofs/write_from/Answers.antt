-- `writing::write_from` meets its contract: a body that was measured is no longer than a length can say.
use mathlib.Core.Path.{sym, ap, ◌∙◌}
use Rattle.refusals.specs.Refusals.{answered}
use Rattle.writing.proofs.Ways.{measured_most}
use Rattle.writing.proofs.write_from.Goals as goal

pub nlri_size-size-requires : goal.nlri_size-size-requires
nlri_size-size-requires c =
    let a = c.args in
    measured_most a.writing a.words.now a.values.now a.octets.now c.in_ok-body.body (sym (ap answered c.in_ok-body.was) ∙ c.measure.ensures)
