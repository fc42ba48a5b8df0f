-- `satisfying::compare` meets its contract: its table is right in each of the three ways.
use Prim.Native.Nat.{ℕ}
use mathlib.Core.Path.{refl, sym, ◌∙◌}
use mathlib.Core.Bool.{Bool, not}
use mathlib.Core.List.{List, [], ◌∷◌}
use lib.Bits.{bit_and}
use lib.Dec.{eqb}
use Rattle.std.proofs.lemmas.Cmp.{ranked}
use Rattle.satisfying.proofs.Meanings.{if_less, if_equal, if_greater}
use Rattle.satisfying.proofs.compare.Goals.{in-Less, in-Equal, in-Greater}
use Rattle.satisfying.proofs.compare.Goals as goal

abbrev entries : List ℕ
entries = 0b000 ∷ 0b010 ∷ 0b001 ∷ 0b011 ∷ 0b100 ∷ 0b110 ∷ 0b101 ∷ 0b111 ∷ []

abbrev has : ℕ → ℕ → Bool
has way entry = not (eqb (bit_and entry way) 0)

pub returns : goal.returns
returns c =
    let a = c.args in
    elim c.match-cmp.branch [
      | in-Less w ↦ rw (w.way'-is, c.from.ensures) (if_less 0 (has 0b100) entries refl a.octet a.value a.datum (ranked _ _ _ (sym w.in-Less.is ∙ c.cmp.ensures)) tt)
      | in-Equal w ↦ rw (w.way'-is, c.from.ensures) (if_equal 0 (has 0b010) entries refl a.octet a.value a.datum (ranked _ _ _ (sym w.in-Equal.is ∙ c.cmp.ensures)) tt)
      | in-Greater w ↦ rw (w.way'-is, c.from.ensures) (if_greater 0 (has 0b001) entries refl a.octet a.value a.datum (ranked _ _ _ (sym w.in-Greater.is ∙ c.cmp.ensures)) tt)
    ]
