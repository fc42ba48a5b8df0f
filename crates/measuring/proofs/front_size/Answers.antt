-- `measuring::front_size` meets its contract: no octets, or eight.
use mathlib.Core.Path.{sym, ap, ◌∙◌}
use lib.ListN.{length}
use Rattle.octets.proofs.Spells.{length_spelled}
use Rattle.measuring.specs.Bodies.{eight_of}
use Rattle.measuring.proofs.front_size.Goals as goal

pub returns-in-Some : goal.returns-in-Some
returns-in-Some c = sym (length_spelled 8 _) ∙ ap (λ d. length (eight_of d)) (sym c.in-Some.is ∙ c.front_of.ensures)
