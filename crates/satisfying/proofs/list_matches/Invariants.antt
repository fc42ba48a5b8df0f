-- `satisfying::list_matches` meets its contract. The loop's invariant: the list is true just if, the group so far having its truth, what is left is.
use mathlib.Core.Path.{◌≡◌}
use lib.ListN.{length}
use Rattle.operators.specs.Lent.{operators_of}
use Rattle.satisfying.specs.Lists.{truth_of, list_matches}
use Rattle.satisfying.proofs.Groups.{going, left}
use Rattle.satisfying.proofs.list_matches.Given as goal

abbrev pub invariant-loop-place : goal.invariant-loop-place
invariant-loop-place l = list_matches (truth_of l.test l.datum) (operators_of l.list) ≡ going (truth_of l.test l.datum) l.group (left l.values l.octets (length l.octets) l.place)
