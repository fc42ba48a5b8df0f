-- `verdicts::matches` meets its contract: a rule that is judged well-formed is there.
use Rattle.verdicts.proofs.WellFormed.{judged_some, rankable}
use Rattle.verdicts.proofs.matches.Goals as goal

pub family_at-requires : goal.family_at-requires
family_at-requires c = let a = c.args in (rankable a.words.now a.values.now a.octets.now 0 (judged_some _ _ c.in-Some.ensures).0).whole
