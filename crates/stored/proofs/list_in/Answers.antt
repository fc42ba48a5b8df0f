-- `stored::list_in` meets its contract. Below 14 the type is the whole first word, so the last word alone decides; no list has a first word above 13.
use mathlib.Core.Path.{sym}
use mathlib.Core.Bool.{true, false}
use borrow.Author.Tests.{eq-eqb, ne_eqb}
use Rattle.stored.proofs.Words.{piece_list, piece_far}
use Rattle.stored.proofs.list_in.Goals as goal
use Rattle.stored.proofs.list_in.Goals.{else-q-lt14-via-then-q-lt14+else-q-eq0, else-q-lt14-via-else-q-lt14}

pub returns-then-q-eq0 : goal.returns-then-q-eq0
returns-then-q-eq0 c = piece_list c.args.q c.args.tag c.requires.0 c.requires.1 true c.if-q-lt14.true (eq-eqb 0 _ (sym c.if-q-eq0.true))

pub returns-else-q-lt14 : goal.returns-else-q-lt14
returns-else-q-lt14 c = elim c.else-q-lt14.branch [
  | else-q-lt14-via-then-q-lt14+else-q-eq0 w ↦ piece_list c.args.q c.args.tag c.requires.0 c.requires.1 false w.if-q-lt14.true (ne_eqb 0 _ (λ e. w.if-q-eq0.false (sym e)))
  | else-q-lt14-via-else-q-lt14 w ↦ piece_far c.args.q c.args.tag c.requires.0 c.requires.1 w.if-q-lt14.false
]
