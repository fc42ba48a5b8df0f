-- A rule by the walk over its words: what is left after i of its pieces.
use Prim.Native.Nat.{ℕ, suc, ◌+◌, ◌-◌, ◌*◌, ◌≤◌, ◌<◌}
use mathlib.Core.Path.{◌≡◌, ap₂}
use mathlib.Core.Bool.{Bool, true, ◌&&◌}
use mathlib.Core.List.{List}
use native.Mathlib.Omega.{arith}
use Rattle.stored.specs.Pieces.{piece_at}
use Rattle.stored.specs.Stored.{count_at, first_at, pieces_from, stored_at}
use Rattle.packets.specs.Packets.{Packet}
use Rattle.satisfying.specs.Lists.{all}
use Rattle.matching.specs.Rules.{piece_matches, rule_matches}

module _ (values octets : List ℕ) (p : Packet) (ws : List ℕ) (base count first : ℕ) where
  unfoldable pub rest : ℕ → Bool
  rest i = all (piece_matches values octets first p) (pieces_from (count - i) ws (base + 4 * i))

  pub rest_starts : count ≡ count_at ws base → first ≡ first_at ws base → rule_matches values octets p (stored_at ws base) ≡ rest 0
  unfolding rule_matches rest
  rest_starts e f =
      let n : count ≡ count - 0 = omega arith in
      let b : base ≡ base + 4 * 0 = omega arith in
      rw (← e, ← f) (ap₂ (λ (k j : ℕ). all (piece_matches values octets first p) (pieces_from k ws j)) n b)

  pub rest_more : (i : ℕ) → i < count → rest i ≡ (piece_matches values octets first p (piece_at ws (base + 4 * i)) && rest (i + 1))
  unfolding rest pieces_from all
  rest_more i h =
      let e : count - i ≡ suc (count - (i + 1)) = omega arith in
      let f : base + 4 * i + 4 ≡ base + 4 * (i + 1) = omega arith in
      rw (e, f)

  pub rest_ends : (i : ℕ) → count ≤ i → rest i ≡ true
  unfolding rest pieces_from all
  rest_ends i h = let e : count - i ≡ 0 = omega arith in rw e
