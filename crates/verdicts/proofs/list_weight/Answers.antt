-- `verdicts::list_weight` meets its contract: the tests in turn, and the list by the standard writing.
use Prim.Native.Nat.{ℕ}
use mathlib.Core.Path.{◌≡◌, sym, ap, ◌∙◌}
use Rattle.std.specs.Option.{unwrap_or}
use Rattle.std.specs.Prelude.{Option}
use Rattle.stored.specs.declared.Piece.TheVariants.{Operators}
use Rattle.measuring.specs.Bodies.{lent_of}
use Rattle.measuring.specs.Weights.{standard_weight, weight_of}
use Rattle.measuring.proofs.Laws.{not_plain}
use Rattle.measuring.proofs.Tests.{told_false, told_true}
use Rattle.measuring.proofs.Weights.{weight_list_not, weight_standard}
use Rattle.verdicts.proofs.list_weight.Goals as goal

pub returns-then-not-may_follow : goal.returns-then-not-may_follow
returns-then-not-may_follow c =
    let a = c.args in
    sym (weight_list_not a.writing (lent_of a.lent) a.left a.previous a.tag a.start a.count
    (told_false c.may_follow.ensures c.if-not-may_follow.true))

pub returns-then-count-eq1 : goal.returns-then-count-eq1
returns-then-count-eq1 c =
    let a = c.args in
    let l = lent_of a.lent in
    let taken : unwrap_or (standard_weight a.tag l a.start a.count) 0 ≡ weight_of a.writing l a.left a.previous (Operators a.tag a.start a.count) =
    sym (weight_standard a.writing l a.left a.previous a.tag a.start a.count (not_plain a.writing c.requires.standard) (told_true c.may_follow.ensures c.if-not-may_follow.false)) in
    c.unwrap_or.ensures ∙ ap (λ (o : Option ℕ). unwrap_or o 0) (c.lone_list.ensures ∙ ap (λ (k : ℕ). standard_weight a.tag l a.start k) (sym c.if-count-eq1.true)) ∙ taken

pub returns-then-count-eq2 : goal.returns-then-count-eq2
returns-then-count-eq2 c =
    let a = c.args in
    let l = lent_of a.lent in
    let taken : unwrap_or (standard_weight a.tag l a.start a.count) 0 ≡ weight_of a.writing l a.left a.previous (Operators a.tag a.start a.count) =
    sym (weight_standard a.writing l a.left a.previous a.tag a.start a.count (not_plain a.writing c.requires.standard) (told_true c.may_follow.ensures c.if-not-may_follow.false)) in
    c.unwrap_or-then-count-eq2.ensures ∙ ap (λ (o : Option ℕ). unwrap_or o 0) (c.pair_list.ensures ∙ ap (λ (k : ℕ). standard_weight a.tag l a.start k) (sym c.if-count-eq2.true)) ∙ taken

pub returns : goal.returns
returns c =
    let a = c.args in
    let l = lent_of a.lent in
    let taken : unwrap_or (standard_weight a.tag l a.start a.count) 0 ≡ weight_of a.writing l a.left a.previous (Operators a.tag a.start a.count) =
    sym (weight_standard a.writing l a.left a.previous a.tag a.start a.count (not_plain a.writing c.requires.standard) (told_true c.may_follow.ensures c.if-not-may_follow.false)) in
    c.unwrap_or-2.ensures ∙ ap (λ (o : Option ℕ). unwrap_or o 0) c.many_weight.ensures ∙ taken
