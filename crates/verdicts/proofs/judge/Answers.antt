-- `verdicts::judge` meets its contract: the walk over the words from a word on, by the reading that their family names.
use Prim.Native.Nat.{ℕ, ◌%◌}
use mathlib.Core.Path.{sym, ap, ◌∙◌}
use mathlib.Core.Bool.{Bool, ◌&&◌}
use native.Mathlib.Omega.{arith}
use Rattle.refusals.specs.Refusals.{answered}
use Rattle.choices.specs.Choices.{standard_of}
use Rattle.stored.specs.Stored.{stored_at}
use Rattle.packets.specs.Packets.{packet_at}
use Rattle.matching.specs.Rules.{rule_matches}
use Rattle.verdicts.specs.Verdicts.{judged}
use Rattle.verdicts.proofs.WellFormed.{few_left, as_measured, not_plain, no_standard}
use Rattle.verdicts.proofs.judge.Goals as goal

pub returns-then-saturating_sub-lt64 : goal.returns-then-saturating_sub-lt64
returns-then-saturating_sub-lt64 c =
    let a = c.args in
    ap (λ (b : Bool). judged b (a.ask && rule_matches a.values.now a.octets.now (packet_at a.packet.now) (stored_at a.words.now a.at))) (few_left a.words.now a.values.now a.octets.now a.at (omega arith))

pub judge_in-requires-clause-standard : goal.judge_in-requires-clause-standard
judge_in-requires-clause-standard c =
    let a = c.args in
    not_plain a.words.now a.values.now a.octets.now a.at (omega arith) _ (sym (ap answered c.in-Ok.is) ∙ c.try_from.ensures ∙ ap (λ (f : ℕ). standard_of (f % 256)) c.family_at.ensures)

pub returns : goal.returns
returns c =
    let a = c.args in
    c.judge_in.ensures ∙ ap (λ (b : Bool). judged b (a.ask && rule_matches a.values.now a.octets.now (packet_at a.packet.now) (stored_at a.words.now a.at))) (as_measured a.words.now a.values.now a.octets.now a.at (omega arith) _ (sym (ap answered c.in-Ok.is) ∙ c.try_from.ensures ∙ ap (λ (f : ℕ). standard_of (f % 256)) c.family_at.ensures))

pub returns-in_default : goal.returns-in_default
returns-in_default c =
    let a = c.args in
    ap (λ (b : Bool). judged b (a.ask && rule_matches a.values.now a.octets.now (packet_at a.packet.now) (stored_at a.words.now a.at)))
    (no_standard a.words.now a.values.now a.octets.now a.at (omega arith) _
    (sym (ap answered c.in_default.is) ∙ c.try_from.ensures ∙ ap (λ (f : ℕ). standard_of (f % 256)) c.family_at.ensures))
