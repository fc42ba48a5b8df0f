-- `krubbadin::store_checked` meets its contract: what was checked is what the first pass answers, and the rest goes as in `reading::read_into`.
use mathlib.Core.Path.{sym, ap, ◌∙◌}
use Rattle.choices.specs.Choices.{expects}
use Rattle.reading.specs.Readings.{read_at}
use Rattle.reading.proofs.Rooms.{room}
use Rattle.reading.proofs.Ways.{no_room, all_stored}
use Rattle.krubbadin.specs.Surface.{read_answer}
use Rattle.krubbadin.proofs.Checks.{told_taken}
use Rattle.krubbadin.proofs.store_checked.Goals as goal

pub returns-in-Some : goal.returns-in-Some
returns-in-Some c =
    let q = told_taken c.args.checked (read_at c.args.reading (expects c.args.mode) c.args.input.now) c.requires.0 c.requires.1 in
    let p = no_room c.args.reading (expects c.args.mode) c.args.input.now c.args.words.now c.args.values.now c.args.octets.now q (sym c.in-Some.is ∙ c.lacking-lack.ensures) in
    record { answer = ap read_answer p.0; words = p.1.0; values = p.1.1.0; octets = p.1.1.1 }

pub store-requires-clause-room : goal.store-requires-clause-room
store-requires-clause-room c =
    let q = told_taken c.args.checked (read_at c.args.reading (expects c.args.mode) c.args.input.now) c.requires.0 c.requires.1 in
    room c.args.reading (expects c.args.mode) c.args.input.now _ _ _ q (sym c.in_default.is ∙ c.lacking-lack.ensures)

pub returns : goal.returns
returns c =
    let q = told_taken c.args.checked (read_at c.args.reading (expects c.args.mode) c.args.input.now) c.requires.0 c.requires.1 in
    let e = c.store.ensures in
    let p = all_stored c.args.reading (expects c.args.mode) c.args.input.now c.args.words.now c.args.values.now c.args.octets.now q (sym c.in_default.is ∙ c.lacking-lack.ensures) e.words e.values e.octets in
    record { answer = c.given.ensures ∙ ap read_answer p.0; words = p.1.0; values = p.1.1.0; octets = p.1.1.1 }
