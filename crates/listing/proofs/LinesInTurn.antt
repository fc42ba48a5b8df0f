-- The turns of the loops that put lines: with the lines that are left put, the output is as it shall be.
use Prim.Native.Nat.{ℕ, suc, ◌+◌, ◌-◌, ◌*◌, ◌≤◌, ◌<◌}
use mathlib.Core.Path.{◌≡◌, sym, ap, ◌∙◌, subst}
use mathlib.Core.List.{List, [], ◌++◌}
use native.Mathlib.Omega.{arith}
use lib.ListN.{get_or}
use Rattle.operators.specs.Ops.{op, ops_in}
use Rattle.stored.specs.declared.Piece.{Piece}
use Rattle.stored.specs.Pieces.{piece_at}
use Rattle.stored.specs.Stored.{count_at, pieces_from, stored_at}
use Rattle.stored.proofs.Words.{piece_in}
use Rattle.listing.specs.Listings.{op_line, op_lines, piece_lines, component_lines}
use Rattle.listing.specs.Puts.{Backed, AllBacked}

-- ---- operators
module _ (values octets : List ℕ) (count : ℕ) where
  -- the lines left from place i on
  abbrev pub ops_left : ℕ → List ℕ
  ops_left i = op_lines (ops_in values octets i (count - i))

  pub ops_none : (i : ℕ) → count ≤ i → ops_left i ≡ []
  unfolding op_lines ops_in
  ops_none i h = let e : count - i ≡ 0 = omega arith in rw e

  pub ops_more : (i : ℕ) → i < count → ops_left i ≡ op_line (op (get_or octets i 0) (get_or values i 0)) ++ ops_left (i + 1)
  unfolding op_lines ops_in
  ops_more i h =
      let e : count - i ≡ suc (count - (i + 1)) = omega arith in
      ap (λ (n : ℕ). op_lines (ops_in values octets i n)) e

-- ---- components
module _ (values octets ws : List ℕ) (count : ℕ) where
  -- the lines left after i
  abbrev pub components_left : ℕ → List ℕ
  components_left i = component_lines values octets (pieces_from (count - i) ws (4 * i))

  pub components_none : (i : ℕ) → count ≤ i → components_left i ≡ []
  unfolding component_lines pieces_from
  components_none i h = let e : count - i ≡ 0 = omega arith in rw e

  module _ (i : ℕ) (h : i < count) {p : Piece} (is : p ≡ piece_at ws (4 * i)) where
    pub components_more : components_left i ≡ piece_lines values octets p ++ components_left (i + 1)
    unfolding component_lines pieces_from
    components_more =
        let e : count - i ≡ suc (count - (i + 1)) = omega arith in
        let f : 4 * i + 4 ≡ 4 * (i + 1) = omega arith in
        rw (e, f, is)

    pub component_backed : count ≡ count_at ws 0 → (v o : ℕ) → AllBacked v o (stored_at ws 0).pieces → Backed v o p
    component_backed known v o w =
        let z : 4 * i ≡ 0 + 4 * i = omega arith in
        subst (Backed v o) (sym (is ∙ ap (piece_at ws) z ∙ piece_in (count_at ws 0) ws 0 i (omega arith))) (w i)
