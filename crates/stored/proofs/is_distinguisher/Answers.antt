-- `stored::is_distinguisher` meets its contract: absent is 0 in both words.
use Rattle.stored.proofs.Distinguishers.{test_absent, test_is}
use Rattle.stored.proofs.is_distinguisher.Goals as goal

pub returns-then-words-base-eq0 : goal.returns-then-words-base-eq0
returns-then-words-base-eq0 c = test_absent _ _ c.if-words-base-eq0.true

pub returns-else-words-base-eq0 : goal.returns-else-words-base-eq0
returns-else-words-base-eq0 c = test_is _ _ c.if-words-base-eq0.false
