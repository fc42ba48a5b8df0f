-- `matching::some_matches` meets its contract: the list is put to each number that is shown.
use mathlib.Core.Path.{◌∙◌}
use Rattle.std.proofs.Common.{rules, tests}
use Rattle.std.proofs.lemmas.Iterator.{YieldsList-from_slice}
use Rattle.std.proofs.lemmas.Iterator.Search.{any_from_yields_List}
use Rattle.operators.specs.Lent.{operators_of}
use Rattle.satisfying.specs.Lists.{truth_of, list_matches}
use Rattle.matching.proofs.Numbers.{some_is}
use Rattle.matching.proofs.some_matches.Goals as goal

pub returns : goal.returns
returns c =
    let test = c.test_of-test.result in
    let ops = operators_of c.args.list in
    any_from_yields_List (λ n. list_matches (truth_of test n) ops) _ _ c.any.result c.any.ensures.ran (YieldsList-from_slice c.shown_to.result.now (cc))
    (λ x b q k. search (rules, tests))
    ∙ some_is test ops c.shown_to.result.now
    ∙ rw (c.shown_to.ensures, c.test_of-test.ensures, c.family_of.ensures)
