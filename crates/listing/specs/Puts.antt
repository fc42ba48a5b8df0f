-- What the methods of `Page` promise each other. No promise of an entry point rests on these but through `Listings`.
use Rattle.std.specs.Prelude.{ℕ, ◌+◌, ◌≤◌, ◌≡◌, List, [], ◌∷◌, length, get_or, take}
use Rattle.std.proofs.lemmas.List.Edits.{sets}
use Rattle.ground.specs.Answers.{Answer, accepts, declines}
use Rattle.refusals.specs.declared.Numbers.{Numbers}
use Rattle.lists.specs.Runs.{Places}
use Rattle.stored.specs.declared.Piece.{Piece}
use Rattle.stored.specs.declared.Piece.TheVariants.{Prefix, Operators, NoRecord}
use Rattle.stored.specs.Stored.{count_at, stored_at}
use Rattle.reading.specs.declared.Taken.{Taken}
use Rattle.listing.specs.declared.Page.{Page}
use Rattle.listing.specs.Listings.{rule_lines, refusal_lines}

-- the place after a text is a number of 64 bits
pub record Placeable (page : Page) (xs : List ℕ) : Type 0 where
  pub fits : page.at + length xs ≤ 18446744073709551615

-- a text was put on a page: the place after, what its output became, and that it is the same output. What lies past the output's end is not stored
pub record Put (old : Page) (xs : List ℕ) (new : Page) : Type 0 where
  pub place : new.at ≡ old.at + length xs
  pub stored : new.out.now ≡ sets old.out.now old.at xs
  pub same : new.out.ghost_name ≡ old.out.ghost_name

-- where a component's operators begin in the lent lists, and how many they are: what has none has them at the start
abbrev pub start_in : Piece → ℕ
start_in (Prefix t p) = 0
start_in (Operators t start n) = start
start_in NoRecord = 0

abbrev pub count_in : Piece → ℕ
count_in (Prefix t p) = 0
count_in (Operators t start n) = n
count_in NoRecord = 0

-- they are there, in two lists of so many
abbrev pub Backed : ℕ → ℕ → Piece → Type 0
Backed values octets p = Places (start_in p) (count_in p) values octets

abbrev pub AllBacked : ℕ → ℕ → List Piece → Type 0
AllBacked values octets ps = (i : ℕ) → Backed values octets (get_or ps i NoRecord)

-- the 64 words of a rule: it has 13 components at most, and their operators are there
pub record Listable (words : List ℕ) (values octets : ℕ) : Type 0 where
  pub long : 64 ≤ length words
  pub few : count_at words 0 ≤ 13
  pub backed : AllBacked values octets (stored_at words 0).pieces

-- the numbers that a refusal carries, of the four that tell it
abbrev pub carried_in : Numbers → List ℕ
carried_in n = take n.count (n.first ∷ n.second ∷ [])

-- the lines of an answer as the code has it, with the pieces that came beside it
abbrev pub lines_of : Answer Taken → List Piece → List ℕ → List ℕ → List ℕ
lines_of (accepts t) ps values octets = rule_lines t.used ps values octets
lines_of (declines f) ps values octets = refusal_lines f
