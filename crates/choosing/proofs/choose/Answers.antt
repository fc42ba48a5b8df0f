-- `choosing::choose` meets its contract: the refusals in their order, then what the pass tells.
use mathlib.Core.Path.{refl, sym, ap, ◌∙◌}
use borrow.Author.Tests.{eq-eqb, ne_eqb}
use Rattle.packets.specs.Packets.{packet_at}
use Rattle.refusals.specs.Refusals.{refusal}
use Rattle.choosing.specs.Choosing.{table}
use Rattle.choosing.proofs.Demand3.{refuses_many, refuses_packet, refuses_words, decided}
use Rattle.choosing.proofs.ToldAnswers.{tells_bad, tells}
use Rattle.choosing.proofs.choose.Goals as goal

pub returns-then-n-gt64-clause-told : goal.returns-then-n-gt64-clause-told
returns-then-n-gt64-clause-told c =
    let a = c.args in
    ap refusal c.into.ensures ∙ sym (refuses_many (table a.words.now a.values.now a.octets.now) (packet_at a.packet.now) c.if-n-gt64.true)

pub returns-then-not-check_words-clause-told : goal.returns-then-not-check_words-clause-told
returns-then-not-check_words-clause-told c =
    let a = c.args in
    ap refusal c.into-then-not-check_words.ensures
    ∙ sym (refuses_packet (table a.words.now a.values.now a.octets.now) (packet_at a.packet.now) c.if-n-gt64.false (sym c.check_words.ensures ∙ c.if-not-check_words.true))

pub returns-then-words-ne0-clause-told : goal.returns-then-words-ne0-clause-told
returns-then-words-ne0-clause-told c =
    let a = c.args in
    ap refusal c.into-then-words-ne0.ensures
    ∙ sym (refuses_words (table a.words.now a.values.now a.octets.now) (packet_at a.packet.now) c.if-n-gt64.false (sym c.check_words.ensures ∙ c.if-not-check_words.false) (ne_eqb _ _ c.if-words-ne0.true))

pub returns-in_default-clause-told : goal.returns-in_default-clause-told
returns-in_default-clause-told c =
    let a = c.args in
    ap refusal c.into-in_default.ensures
    ∙ tells_bad (table a.words.now a.values.now a.octets.now) (packet_at a.packet.now)
    (record { few = c.if-n-gt64.false; fields_in_range = sym c.check_words.ensures ∙ c.if-not-check_words.false; whole = eq-eqb _ _ c.if-words-ne0.false })
    c.in_default.ensures

pub returns-in-Some-mixed-clause-told : goal.returns-in-Some-mixed-clause-told
returns-in-Some-mixed-clause-told c =
    let a = c.args in
    ap refusal c.into-in-Some-mixed.ensures
    ∙ tells (table a.words.now a.values.now a.octets.now) (packet_at a.packet.now)
    (record { few = c.if-n-gt64.false; fields_in_range = sym c.check_words.ensures ∙ c.if-not-check_words.false; whole = eq-eqb _ _ c.if-words-ne0.false })
    _ c.family_of-family.ensures _ c.in-Some.ensures c.in-Some-mixed.is _ refl

pub returns-in-Some-first_other-clause-told : goal.returns-in-Some-first_other-clause-told
returns-in-Some-first_other-clause-told c =
    let a = c.args in
    ap refusal c.into-in-Some-first_other.ensures
    ∙ tells (table a.words.now a.values.now a.octets.now) (packet_at a.packet.now)
    (record { few = c.if-n-gt64.false; fields_in_range = sym c.check_words.ensures ∙ c.if-not-check_words.false; whole = eq-eqb _ _ c.if-words-ne0.false })
    _ c.family_of-family.ensures _ c.in-Some.ensures c.in_default-mixed.is _ c.in-Some-first_other.ensures

pub returns-clause-told : goal.returns-clause-told
returns-clause-told c =
    let a = c.args in
    tells (table a.words.now a.values.now a.octets.now) (packet_at a.packet.now)
    (record { few = c.if-n-gt64.false; fields_in_range = sym c.check_words.ensures ∙ c.if-not-check_words.false; whole = eq-eqb _ _ c.if-words-ne0.false })
    _ c.family_of-family.ensures _ c.in-Some.ensures c.in_default-mixed.is _ c.in_default-first_other.ensures

pub returns-clause-decides : goal.returns-clause-decides
returns-clause-decides c =
    let a = c.args in
    decided (table a.words.now a.values.now a.octets.now) (packet_at a.packet.now) _
    (tells (table a.words.now a.values.now a.octets.now) (packet_at a.packet.now)
    (record { few = c.if-n-gt64.false; fields_in_range = sym c.check_words.ensures ∙ c.if-not-check_words.false; whole = eq-eqb _ _ c.if-words-ne0.false })
    _ c.family_of-family.ensures _ c.in-Some.ensures c.in_default-mixed.is _ c.in_default-first_other.ensures)
