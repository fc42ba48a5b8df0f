-- `measuring::Lent::lone_list` meets its contract: within the lent lists, one operator.
use mathlib.Core.Path.{◌∙◌}
use Rattle.measuring.specs.Bodies.{lent_of}
use Rattle.measuring.proofs.Tests.{told_true}
use Rattle.measuring.proofs.Weights.{standard_lone}
use Rattle.measuring.proofs.Lent.lone_list.Goals as goal

pub returns : goal.returns
returns c = c.one_size.ensures ∙ standard_lone c.args.tag (lent_of c.args.self) c.args.start (told_true c.inside.ensures c.if-not-inside.false)
