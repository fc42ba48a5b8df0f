-- What the loops promise each other: where the writing of a list stands, and what was joined of one that is measured. No public promise rests on this but through `Lists`.
use Rattle.std.specs.Prelude.{ℕ, zero, suc, ◌+◌, ◌-◌, ◌*◌, ◌^◌, ◌≤◌, ◌<◌, ◌≡◌, List, [], ◌∷◌, Bool, true, ◌&&◌, eqb, ltb, length, get_or}
use Rattle.std.proofs.lemmas.List.Edits.{sets}
use Rattle.octets.specs.Widths.{code_in}
use Rattle.operators.specs.declared.Kind.{Kind}
use Rattle.operators.specs.Ops.{ops_in, list_octets}
use Rattle.listwriting.specs.declared.Sum.{Sum}
use Rattle.listwriting.specs.Lists.{size_in, ends}

-- the octets of the operators from a place up to another
abbrev pub between : Kind → List ℕ → List ℕ → ℕ → ℕ → List ℕ
between kind values octets from to = list_octets kind (ops_in values octets from (to - from))

-- of the operators up to `to`, which go to `at`, those before q are written: with the others stored at p the output is as it shall be
pub record Put (kind : Kind) (values octets : List ℕ) (from to at : ℕ) (out₀ out : List ℕ) (q p : ℕ) : Type 0 where
  pub least : from ≤ q
  pub most : q ≤ to
  pub long : length out ≡ length out₀
  pub place : p + size_in octets q (to - q) ≡ at + size_in octets from (to - from)
  pub stored : sets out p (between kind values octets q to) ≡ sets out₀ at (between kind values octets from to)

-- the width codes of n operators from a place on are below a bound (`narrow_is` in proofs/ has the law)
unfoldable pub narrow_in : ℕ → List ℕ → ℕ → ℕ → Bool
narrow_in codes octets at zero = true
narrow_in codes octets at (suc n) = ltb (code_in (get_or octets at 0)) codes && narrow_in codes octets (at + 1) n

-- by the width's code: the bits that no value of the width has
abbrev pub beyond : List ℕ
beyond = 18446744073709551360 ∷ 18446744073709486080 ∷ 18446744069414584320 ∷ 0 ∷ []

-- the octets from a place up to another have one width's code and no end mark
abbrev pub Alike : List ℕ → ℕ → ℕ → ℕ → Type 0
Alike octets code from to = (i : ℕ) → from ≤ i → i < to → (code_in (get_or octets i 0) ≡ code) × (get_or octets i 0 < 128)

-- the bits of the values from a place up to another: no value is larger, and they are no wider than the widest
pub record Joined (values : List ℕ) (from to all : ℕ) : Type 0 where
  pub each : (i : ℕ) → from ≤ i → i < to → get_or values i 0 ≤ all
  pub least : (k : ℕ) → ((i : ℕ) → from ≤ i → i < to → get_or values i 0 < 2 ^ k) → all < 2 ^ k

-- what was joined; over no operator it is nothing
abbrev pub sum : ℕ → ℕ → ℕ → Sum
sum over marks size = record { over = over; marks = marks; size = size }

abbrev pub nothing : Sum
nothing = sum 0 0 0

-- no value was too large, and no end mark was set
abbrev pub sound : Sum → Bool
sound s = eqb s.over 0 && ltb s.marks 128

-- the values and end marks of the operators from a place up to the list's end
abbrev pub rest : List ℕ → List ℕ → ℕ → ℕ → Bool
rest values octets q end = ends (ops_in values octets q (end - q))

-- s was joined before a place and r before a later one: both say the same of a list that ends at `end`
pub record Added (values octets : List ℕ) (end from : ℕ) (s : Sum) (q : ℕ) (r : Sum) : Type 0 where
  pub right : (sound r && rest values octets q end) ≡ (sound s && rest values octets from end)
  pub long : r.size + size_in octets q (end - q) ≡ s.size + size_in octets from (end - from)

pub record Adds (values octets : List ℕ) (from to : ℕ) (s r : Sum) : Type 0 where
  pub added : (end : ℕ) → to < end → Added values octets end from s to r
  pub most : r.size + 9 * from ≤ s.size + 9 * to
