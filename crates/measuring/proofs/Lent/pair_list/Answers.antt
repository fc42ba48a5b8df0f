-- `measuring::Lent::pair_list` meets its contract: within the lent lists, two operators.
use mathlib.Core.Path.{◌∙◌}
use Rattle.measuring.specs.Bodies.{lent_of}
use Rattle.measuring.proofs.Tests.{told_true}
use Rattle.measuring.proofs.Weights.{standard_pair}
use Rattle.measuring.proofs.Lent.pair_list.Goals as goal

pub returns : goal.returns
returns c = c.pair_size.ensures ∙ standard_pair c.args.tag (lent_of c.args.self) c.args.start (told_true c.inside.ensures c.if-not-inside.false)
