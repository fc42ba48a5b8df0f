-- A rule in the words from a word on is the rule at the front of the rest of them.
use Prim.Native.Nat.{ℕ, zero, suc, ◌+◌, ◌-◌, ◌*◌}
use mathlib.Core.Path.{◌≡◌, refl, ap, ap₂, ◌∙◌}
use mathlib.Core.Bool.{Bool, ◌&&◌}
use mathlib.Core.List.{List, ◌∷◌}
use native.Mathlib.Omega.{arith}
use lib.Dec.{eqb, leb, ltb}
use lib.ListN.{get_or, drop}
use lib.Seq.{get_or-drop}
use Rattle.std.specs.Prelude.{None, Some, Option}
use Rattle.ground.specs.Picks.{pick}
use Rattle.stored.specs.declared.Piece.{Piece}
use Rattle.stored.specs.Pieces.{is_record, piece_of, piece_at}
use Rattle.stored.specs.Distinguishers.{presence_word, bits_word, distinguisher_at, is_distinguisher}
use Rattle.stored.specs.Stored.{stored_rule, count_at, family_at, first_at, head_at, head, pieces_from, records_from, zeros_from, is_framed, is_rule, stored_at}

module _ (at : ℕ) (ws : List ℕ) where
  abbrev rest : List ℕ
  rest = drop at ws

  next : (i k : ℕ) → at + (i + k) ≡ at + i + k
  next i k = omega arith

  word : (i k : ℕ) → get_or rest (i + k) 0 ≡ get_or ws (at + i + k) 0
  word i k = get_or-drop at ws (i + k) 0 ∙ ap (λ (j : ℕ). get_or ws j 0) (next i k)

  pub piece_rest : (i : ℕ) → piece_at rest i ≡ piece_at ws (at + i)
  unfolding piece_at
  piece_rest i = ap piece_of (rw (get_or-drop at ws i 0, word i 1, word i 2, word i 3))

  pieces : (n i : ℕ) → pieces_from n rest i ≡ pieces_from n ws (at + i)
  unfolding pieces_from
  pieces zero i = refl
  pieces (suc n) i = ap₂ (λ (p : Piece) (ps : List Piece). p ∷ ps) (piece_rest i) (pieces n (i + 4) ∙ ap (pieces_from n ws) (next i 4))

  records : (n i : ℕ) → records_from n rest i ≡ records_from n ws (at + i)
  unfolding records_from
  records zero i = refl
  records (suc n) i = ap₂ (λ (p : Piece) (b : Bool). is_record p && b) (piece_rest i) (records n (i + 4) ∙ ap (records_from n ws) (next i 4))

  zeros : (n i : ℕ) → zeros_from n rest i ≡ zeros_from n ws (at + i)
  unfolding zeros_from
  zeros zero i = refl
  zeros (suc n) i = ap₂ (λ (x : ℕ) (b : Bool). eqb x 0 && b) (get_or-drop at ws i 0) (zeros n (i + 1) ∙ ap (zeros_from n ws) (next i 1))

  front : (k : ℕ) → get_or rest (0 + k) 0 ≡ get_or ws (at + k) 0
  front k = let e : 0 + k ≡ k = omega arith in ap (λ (j : ℕ). get_or rest j 0) e ∙ get_or-drop at ws k 0

  base : at + 0 ≡ at
  base = omega arith

  pub count_rest : count_at rest 0 ≡ count_at ws at
  count_rest = front 52

  pub first_rest : first_at rest 0 ≡ first_at ws at
  first_rest = front 54

  pub family_rest : family_at rest 0 ≡ family_at ws at
  family_rest = front 53

  pub distinguisher_rest : distinguisher_at rest 0 ≡ distinguisher_at ws at
  unfolding distinguisher_at
  distinguisher_rest = ap₂ (λ (x y : ℕ). pick (eqb x 0) None (Some y)) (front 55) (front 56)

  tested_rest : is_distinguisher rest 0 ≡ is_distinguisher ws at
  unfolding is_distinguisher
  tested_rest =
      ap₂ (λ (x y : ℕ). eqb x (presence_word (distinguisher_at rest 0)) && eqb y (bits_word (distinguisher_at rest 0))) (front 55) (front 56)
      ∙ ap (λ (d : Option ℕ). eqb (get_or ws (at + 55) 0) (presence_word d) && eqb (get_or ws (at + 56) 0) (bits_word d)) distinguisher_rest

  pub stored_rest : stored_at rest 0 ≡ stored_at ws at
  stored_rest =
      let n = count_at ws at in
      ap (λ (k : ℕ). stored_rule (pieces_from k rest 0) (head_at rest 0)) count_rest
      ∙ ap (λ (ps : List Piece). stored_rule ps (head_at rest 0)) (pieces n 0 ∙ ap (pieces_from n ws) base)
      ∙ ap₂ (λ (f g : ℕ). stored_rule (pieces_from n ws at) (head f g (distinguisher_at rest 0))) family_rest first_rest
      ∙ ap (λ (d : Option ℕ). stored_rule (pieces_from n ws at) (head (family_at ws at) (first_at ws at) d)) distinguisher_rest

  pub framed_rest : is_framed rest 0 ≡ is_framed ws at
  unfolding is_framed
  framed_rest =
      let n = count_at ws at in
      let u : at + (0 + 4 * n) ≡ at + 4 * n = omega arith in
      ap (λ (k : ℕ). leb k 13 && (ltb (family_at rest 0) 256 && (is_distinguisher rest 0 && (zeros_from (52 - 4 * k) rest (0 + 4 * k) && zeros_from 7 rest (0 + 57))))) count_rest
      ∙ ap₂ (λ (f : ℕ) (b : Bool). leb n 13 && (ltb f 256 && (b && (zeros_from (52 - 4 * n) rest (0 + 4 * n) && zeros_from 7 rest (0 + 57))))) family_rest tested_rest
      ∙ ap₂ (λ (a b : Bool). leb n 13 && (ltb (family_at ws at) 256 && (is_distinguisher ws at && (a && b)))) (zeros (52 - 4 * n) (0 + 4 * n) ∙ ap (zeros_from (52 - 4 * n) ws) u) (zeros 7 (0 + 57))

  pub rule_rest : is_rule rest 0 ≡ is_rule ws at
  unfolding is_rule
  rule_rest =
      let n = count_at ws at in
      ap₂ (λ (b : Bool) (k : ℕ). b && records_from k rest 0) framed_rest count_rest
      ∙ ap (λ (b : Bool). is_framed ws at && b) (records n 0 ∙ ap (records_from n ws) base)
