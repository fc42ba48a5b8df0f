-- `stored::is_framed` meets its contract: the tests in turn.
use mathlib.Core.Path.{sym, ◌∙◌}
use borrow.Author.Tests.{ne_eqb}
use lib.Bits.{bit_or}
use Rattle.stored.proofs.Words.{frame_joined, frame_absent, frame_filled, frame_told, many, no_family}
use Rattle.stored.proofs.is_framed.Goals as goal

pub returns-then-count-gt13 : goal.returns-then-count-gt13
returns-then-count-gt13 c = sym (many _ _ c.if-count-gt13.true)

pub returns-then-words-base-gt255 : goal.returns-then-words-base-gt255
returns-then-words-base-gt255 c = sym (no_family _ _ c.if-count-gt13.false c.if-words-base-gt255.true)

pub returns-then-sum-words-eq0 : goal.returns-then-sum-words-eq0
returns-then-sum-words-eq0 c = frame_absent _ _ (bit_or c.joined_unused.result c.joined_last.result) (frame_joined _ _ c.if-count-gt13.false c.if-words-base-gt255.false c.joined_unused.result c.joined_last.result c.joined_unused.ensures c.joined_last.ensures) c.if-sum-words-eq0.true

pub returns-then-sum-eq0 : goal.returns-then-sum-eq0
returns-then-sum-eq0 c = c.is_distinguisher.ensures ∙ frame_told _ _ (bit_or c.joined_unused.result c.joined_last.result) (frame_joined _ _ c.if-count-gt13.false c.if-words-base-gt255.false c.joined_unused.result c.joined_last.result c.joined_unused.ensures c.joined_last.ensures) c.if-sum-eq0.true

pub returns-else-sum-eq0 : goal.returns-else-sum-eq0
returns-else-sum-eq0 c = ne_eqb _ _ c.if-sum-eq0.false ∙ frame_filled _ _ (bit_or c.joined_unused.result c.joined_last.result) (frame_joined _ _ c.if-count-gt13.false c.if-words-base-gt255.false c.joined_unused.result c.joined_last.result c.joined_unused.ensures c.joined_last.ensures) c.if-sum-eq0.false
