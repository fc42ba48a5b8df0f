-- What the functions within promise each other: where the first walk stands. No public promise rests on this but through `Walks`.
use Rattle.std.specs.Prelude.{ℕ, ◌+◌, ◌-◌, ◌≤◌, ◌≡◌, List, length}
use Rattle.ground.specs.Answers.{Answer, accepts, declines}
use Rattle.choices.specs.declared.Reading.{Reading}
use Rattle.prefixes.specs.Prefixes.{named_at, extent_at}
use Rattle.walk.specs.Walks.{Body, walk_from, walk_at, counted}

-- what is left of a walk at a place, after j components
unfoldable pub rest : Reading → List ℕ → ℕ → ℕ → ℕ → ℕ → ℕ → Answer Body
rest r s stop at previous start j = walk_from (14 - j) r s stop at previous start

-- the operators of a walk of which n are passed
abbrev pub counted_on : ℕ → Answer Body → Answer ℕ
counted_on n (accepts b) = accepts (n + length b.operators)
counted_on n (declines f) = declines f

-- what the walk counts is what is passed and what is left; the components that are passed are at most the last type
pub record Walking (r : Reading) (s : List ℕ) (stop at previous operators : ℕ) : Type 0 where
  pub components : ℕ
  pub few : components ≤ previous
  pub known : previous ≤ 13
  pub place : operators ≤ at
  pub within : at ≤ length s
  pub same : counted (walk_at r s stop) ≡ counted_on operators (rest r s stop at previous operators components)

-- the prefix at a place takes so many octets
abbrev pub Prefixed : Reading → List ℕ → ℕ → ℕ → Type 0
Prefixed r s at n = (extent_at r s at ≡ accepts (named_at r s at)) × ((named_at r s at).next.at ≡ at + n)
