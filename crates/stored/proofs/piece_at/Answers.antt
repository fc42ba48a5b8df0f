-- `stored::piece_at` meets its contract. Each return is what its callee ensures, of the quad that stands there.
use mathlib.Core.Path.{ap, ◌∙◌}
use Rattle.stored.specs.Pieces.{piece_of, piece_at}
use Rattle.stored.proofs.Words.{piece_none}
use Rattle.stored.proofs.piece_at.Goals as goal

pub returns-in-0 : goal.returns-in-0
unfolding piece_at
returns-in-0 c = piece_none c.quad_at-q.result c.in-0.is ∙ ap piece_of c.quad_at-q.ensures

pub returns-in-1 : goal.returns-in-1
unfolding piece_at
returns-in-1 c = c.prefix_at.ensures ∙ ap piece_of c.quad_at-q.ensures

pub returns-in_default : goal.returns-in_default
unfolding piece_at
returns-in_default c = c.list_in.ensures ∙ ap piece_of c.quad_at-q.ensures
