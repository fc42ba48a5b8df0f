-- What the exported functions on stored rules answer: the definitions' answers in four numbers.
use Rattle.std.specs.Prelude.{ℕ, Bool}
use Rattle.ground.specs.Answers.{Answer, accepts, declines}
use Rattle.operators.specs.Operators.{weight_of}
use Rattle.choosing.specs.Choosing.{Choice, place, none}
use Rattle.krubbadin.specs.declared.KrubbadinAnswer.{KrubbadinAnswer}
use Rattle.krubbadin.specs.Surface.{given_with, refused_with}
use Rattle.ranking.specs.Ranks.{Ordering, Precedes, Equal, Follows}

-- 1 it matches, 0 it does not
abbrev pub match_answer : Answer Bool → KrubbadinAnswer
match_answer (accepts b) = given_with (weight_of b 1) 0
match_answer (declines f) = refused_with f

-- 1 the first precedes, 2 the second does
abbrev pub order_number : Ordering → ℕ
order_number Equal = 0
order_number Precedes = 1
order_number Follows = 2

abbrev pub rank_answer : Answer Ordering → KrubbadinAnswer
rank_answer (accepts o) = given_with (order_number o) 0
rank_answer (declines f) = refused_with f

-- 1 and the place of the rule that decides; 0 where none matches
abbrev pub choice_answer : Answer Choice → KrubbadinAnswer
choice_answer (accepts (place i)) = given_with 1 i
choice_answer (accepts none) = given_with 0 0
choice_answer (declines f) = refused_with f
