-- `reading::read` meets its contract: the family names no reading, or the reading that it names goes.
use Rattle.std.proofs.lemmas.Result.{err_from_is_err_and}
use Rattle.choices.specs.Choices.{expects}
use Rattle.reading.proofs.Ways.{bad_family, of_family}
use Rattle.reading.proofs.read.Goals as goal

pub returns : goal.returns
returns c =
    let a = c.args in
    let r = c.read_into.ensures in
    let p = of_family a.family (expects a.mode) a.input.now a.words.now a.values.now a.octets.now c.in_ok-try_from.ensures (r.answer, (r.words, (r.values, r.octets))) in
    record { answer = p.0; words = p.1.0; values = p.1.1.0; octets = p.1.1.1 }

pub returns-in_err-try_from : goal.returns-in_err-try_from
returns-in_err-try_from c =
    let a = c.args in
    let e = err_from_is_err_and c.from_residual.result c.from_residual.ensures.1 in
    let p = bad_family a.family (expects a.mode) a.input.now a.words.now a.values.now a.octets.now c.in_err-try_from.ensures in
    record { answer = rw (e.1, e.2) p.0; words = p.1.0; values = p.1.1.0; octets = p.1.1.1 }
