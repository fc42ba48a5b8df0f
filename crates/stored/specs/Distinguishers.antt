-- The distinguisher of a rule of a virtual network in its two words, one that says whether it is there and one with its 64 bits: document 01, "Rules of
-- virtual networks"; RFC 8955, 8. Two words are one if writing what they name gives them back, so that absent is 0 in both.
use Rattle.std.specs.Prelude.{None, Some, Option, ℕ, ◌+◌, List, [], ◌∷◌, Bool, true, false, ◌&&◌, get_or, eqb}
use Rattle.std.proofs.lemmas.List.Edits.{sets}
use Rattle.ground.specs.Picks.{pick}

abbrev pub presence_word : Option ℕ → ℕ
presence_word None = 0
presence_word (Some n) = 1

abbrev pub bits_word : Option ℕ → ℕ
bits_word None = 0
bits_word (Some n) = n

-- what the words of a rule from a word on name
unfoldable pub distinguisher_at : List ℕ → ℕ → Option ℕ
distinguisher_at ws at = pick (eqb (get_or ws (at + 55) 0) 0) None (Some (get_or ws (at + 56) 0))

unfoldable pub is_distinguisher : List ℕ → ℕ → Bool
is_distinguisher ws at =
    eqb (get_or ws (at + 55) 0) (presence_word (distinguisher_at ws at)) && eqb (get_or ws (at + 56) 0) (bits_word (distinguisher_at ws at))

-- one put over the words of a rule without one
abbrev pub distinguished_with : Option ℕ → List ℕ → ℕ → List ℕ
distinguished_with None ws at = ws
distinguished_with (Some n) ws at = sets ws (at + 55) (1 ∷ n ∷ [])

-- "absent counting as its own"
abbrev pub same_distinguisher : Option ℕ → Option ℕ → Bool
same_distinguisher None None = true
same_distinguisher None (Some n) = false
same_distinguisher (Some m) None = false
same_distinguisher (Some m) (Some n) = eqb m n
