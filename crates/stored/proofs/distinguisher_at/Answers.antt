-- `stored::distinguisher_at` meets its contract: there is one, or none.
use mathlib.Core.Path.{◌∙◌}
use Rattle.stored.proofs.Distinguishers.{named_by}
use Rattle.stored.proofs.distinguisher_at.Goals as goal

pub returns : goal.returns
returns c = c.then_some.ensures ∙ named_by c.args.words.now c.args.base
