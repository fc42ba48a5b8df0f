-- `krubbadin::krubbadin_read` meets its contract: what the check refuses, or the reading that the number names stores.
use Rattle.krubbadin.proofs.Posts.{refused_check}
use Rattle.krubbadin.specs.Surface.{which_of}
use Rattle.choices.specs.Choices.{expects}
use Rattle.krubbadin.proofs.krubbadin_read.Goals as goal

pub returns-then-checked-ne0 : goal.returns-then-checked-ne0
returns-then-checked-ne0 c =
    let a = c.args in
    let r = c.krubbadin_check-checked in
    let p = refused_check (expects a.standard) a.input.now a.words.now a.values.now a.octets.now r.result (which_of a.standard a.family) r.ensures.answer c.if-checked-ne0.true in
    record { answer = p.0; words = p.1.0; values = p.1.1.0; octets = p.1.1.1 }
