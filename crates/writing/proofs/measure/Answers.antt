-- `writing::measure` meets its contract: a frame has few components.
use mathlib.Core.Path.{sym, ◌∙◌}
use native.Mathlib.Omega.{arith}
use Rattle.stored.proofs.Words.{framed}
use Rattle.writing.proofs.measure.Goals as goal

pub measure_body-requires : goal.measure_body-requires
measure_body-requires c =
    let n = (framed c.args.words.now 0 (sym c.is_framed.ensures ∙ c.if-not-is_framed.false)).few in
    (omega (arith, n, c.count_at-count.ensures), c.if-words-lt64.false)
