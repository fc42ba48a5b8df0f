-- `reading::read_into` meets its contract: what the first pass answers, then room, then the second pass (`Ways.antt`).
use mathlib.Core.Path.{ap, sym, ◌∙◌}
use Rattle.std.proofs.lemmas.Result.{err_from_is_err_and}
use Rattle.refusals.specs.Refusals.{refusal}
use Rattle.choices.specs.Choices.{expects}
use Rattle.reading.proofs.Rooms.{room}
use Rattle.reading.proofs.Ways.{test_refused, no_room, all_stored}
use Rattle.reading.proofs.read_into.Goals as goal

pub returns-in_err-taken : goal.returns-in_err-taken
returns-in_err-taken c =
    let a = c.args in
    let e = err_from_is_err_and c.from_residual.result c.from_residual.ensures.1 in
    let p = test_refused a.reading (expects a.mode) a.input.now a.words.now a.values.now a.octets.now c.in_err-taken.ensures in
    record { answer = rw (e.1, e.2) p.0; words = p.1.0; values = p.1.1.0; octets = p.1.1.1 }

pub returns-in-Some : goal.returns-in-Some
returns-in-Some c =
    let a = c.args in
    let p = no_room a.reading (expects a.mode) a.input.now a.words.now a.values.now a.octets.now c.in_ok-taken.ensures (sym c.in-Some.is ∙ c.lacking.ensures) in
    record { answer = ap refusal c.into.ensures ∙ p.0; words = p.1.0; values = p.1.1.0; octets = p.1.1.1 }

pub store-requires-clause-room : goal.store-requires-clause-room
store-requires-clause-room c =
    let a = c.args in
    room a.reading (expects a.mode) a.input.now _ _ _ c.in_ok-taken.ensures (sym c.in_default.is ∙ c.lacking.ensures)

pub returns : goal.returns
returns c =
    let a = c.args in
    let p = all_stored a.reading (expects a.mode) a.input.now a.words.now a.values.now a.octets.now c.in_ok-taken.ensures (sym c.in_default.is ∙ c.lacking.ensures) c.store.ensures.words c.store.ensures.values c.store.ensures.octets in
    record { answer = p.0; words = p.1.0; values = p.1.1.0; octets = p.1.1.1 }
