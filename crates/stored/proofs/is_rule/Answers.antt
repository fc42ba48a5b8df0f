-- `stored::is_rule` meets its contract, by what is_framed ensures.
use mathlib.Core.Path.{sym, ap, ◌∙◌}
use native.Mathlib.Omega.{arith}
use Rattle.stored.specs.Stored.{records_from}
use Rattle.stored.proofs.Words.{by_records, no_frame, framed}
use Rattle.stored.proofs.is_rule.Goals as goal

pub all_records-requires : goal.all_records-requires
all_records-requires c = let f = (framed _ _ (sym c.is_framed.ensures ∙ c.if-is_framed.true)).few in omega (arith, f, c.count_at.ensures)

pub returns-then-is_framed : goal.returns-then-is_framed
returns-then-is_framed c =
    let a = c.args in
    c.all_records.ensures ∙ ap (λ n. records_from n a.words.now a.base) c.count_at.ensures ∙ sym (by_records _ _ (sym c.is_framed.ensures ∙ c.if-is_framed.true))

pub returns-else-is_framed : goal.returns-else-is_framed
returns-else-is_framed c = c.if-is_framed.false ∙ sym (no_frame _ _ (sym c.is_framed.ensures ∙ c.if-is_framed.false))
