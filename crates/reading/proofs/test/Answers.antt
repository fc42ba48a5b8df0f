-- `reading::test` meets its contract: where it has no length.
use mathlib.Core.Path.{sym, ◌∙◌, ap}
use Rattle.refusals.specs.Refusals.{refusal}
use native.Mathlib.Omega.{arith}
use Rattle.choices.specs.Choices.{expects}
use Rattle.octets.proofs.Lengths.{read_none, field_short}
use Rattle.reading.proofs.Ways.{no_length}
use Rattle.reading.proofs.test.Goals as goal

pub returns-then-n-eq0 : goal.returns-then-n-eq0
returns-then-n-eq0 c = ap refusal c.at.ensures ∙ no_length c.args.reading (expects c.args.mode) c.args.input.now (sym c.too_long.ensures ∙ c.if-too_long.false) (read_none c.args.input.now 0 (omega arith))

pub returns-then-n-start : goal.returns-then-n-start
returns-then-n-start c =
    ap refusal c.at-then-n-start.ensures ∙ no_length c.args.reading (expects c.args.mode) c.args.input.now (sym c.too_long.ensures ∙ c.if-too_long.false)
    (field_short c.args.input.now 0 (omega arith) (omega (arith, c.length_width-start.ensures)))
