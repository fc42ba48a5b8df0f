-- The turns of the walk that writes: with what is left of the words stored at p, the output is as it shall be.
use Prim.Native.Nat.{ℕ, suc, ◌+◌, ◌-◌, ◌*◌, ◌≤◌, ◌<◌}
use mathlib.Core.Path.{◌≡◌, sym, ap, ◌∙◌}
use mathlib.Core.Bool.{true}
use mathlib.Core.List.{List, [], ◌∷◌, ◌++◌}
use native.Mathlib.Omega.{arith}
use lib.ListN.{length, length-append}
use lib.Seq.{sets, length-sets}
use Rattle.ground.proofs.Cases.{both}
use Rattle.ground.proofs.Overlays.{sets_append}
use Rattle.choices.specs.declared.Reading.{Reading}
use Rattle.stored.specs.Pieces.{piece_at}
use Rattle.stored.specs.Stored.{pieces_from}
use Rattle.measuring.specs.Bodies.{Lent, piece_octets, body_octets}
use Rattle.measuring.specs.Grounds.{piece_taken, all_taken}
use Rattle.measuring.proofs.Laws.{all_more, body_none, body_more}
use Rattle.measuring.proofs.Walks.{pieces_more}

-- the octets of what is left of n places after i
abbrev pub left_of : Reading → Lent → List ℕ → ℕ → ℕ → List ℕ
left_of w l ws n i = body_octets w l (pieces_from (n - i) ws (4 * i))

pub record Stood (w : Reading) (l : Lent) (ws : List ℕ) (n at : ℕ) (out₀ out : List ℕ) (p i : ℕ) : Type 0 where
  pub within : i ≤ n
  pub long : length out ≡ length out₀
  pub taken : all_taken w l (pieces_from (n - i) ws (4 * i)) ≡ true
  pub place : p + length (left_of w l ws n i) ≡ at + length (left_of w l ws n 0)
  pub stored : sets out p (left_of w l ws n i) ≡ sets out₀ at (left_of w l ws n 0)

module _ (w : Reading) (l : Lent) (ws : List ℕ) (n at : ℕ) (out₀ : List ℕ) where
  pub whole : left_of w l ws n 0 ≡ body_octets w l (pieces_from n ws 0)
  whole = let e : n - 0 ≡ n = omega arith in rw e

  module _ {out : List ℕ} {p i : ℕ} (h : Stood w l ws n at out₀ out p i) where
    pub stood_end : n ≤ i → out ≡ sets out₀ at (body_octets w l (pieces_from n ws 0))
    unfolding pieces_from
    stood_end e =
        let z : n - i ≡ 0 = omega arith in
        let f : left_of w l ws n i ≡ [] = rw z (body_none w l) in
        ap (λ (xs : List ℕ). sets out p xs) (sym f) ∙ h.stored ∙ ap (λ (xs : List ℕ). sets out₀ at xs) whole

    module _ (e : i < n) where
      next : n - i ≡ suc (n - (i + 1))
      next = omega arith

      four : 4 * i + 4 ≡ 4 * (i + 1)
      four = omega arith

      split : pieces_from (n - i) ws (4 * i) ≡ piece_at ws (4 * i) ∷ pieces_from (n - (i + 1)) ws (4 * (i + 1))
      split =
          ap (λ (k : ℕ). pieces_from k ws (4 * i)) next ∙ pieces_more ws (4 * i) (n - (i + 1))
          ∙ ap (λ (a : ℕ). piece_at ws (4 * i) ∷ pieces_from (n - (i + 1)) ws a) four

      all_split : (piece_taken w l (piece_at ws (4 * i)) ≡ true) × (all_taken w l (pieces_from (n - (i + 1)) ws (4 * (i + 1))) ≡ true)
      all_split =
          let ps = pieces_from (n - (i + 1)) ws (4 * (i + 1)) in
          both (piece_taken w l (piece_at ws (4 * i))) (all_taken w l ps) (sym (ap (all_taken w l) split ∙ all_more w l (piece_at ws (4 * i)) ps) ∙ h.taken)

      left_split : left_of w l ws n i ≡ piece_octets w l (piece_at ws (4 * i)) ++ left_of w l ws n (i + 1)
      left_split = ap (body_octets w l) split ∙ body_more w l (piece_at ws (4 * i)) (pieces_from (n - (i + 1)) ws (4 * (i + 1)))

      left_long : length (left_of w l ws n i) ≡ length (piece_octets w l (piece_at ws (4 * i))) + length (left_of w l ws n (i + 1))
      left_long = ap length left_split ∙ length-append (piece_octets w l (piece_at ws (4 * i))) (left_of w l ws n (i + 1))

      pub next_taken : piece_taken w l (piece_at ws (4 * i)) ≡ true
      next_taken = all_split.0

      pub next_room : at + length (body_octets w l (pieces_from n ws 0)) ≤ length out₀ → p + length (piece_octets w l (piece_at ws (4 * i))) ≤ length out
      next_room r =
          let g : length (left_of w l ws n 0) ≡ length (body_octets w l (pieces_from n ws 0)) = ap length whole in
          omega (arith, h.place, h.long, left_long, g)

      pub stood_more : {out' : List ℕ} {p' : ℕ} → p' ≡ p + length (piece_octets w l (piece_at ws (4 * i))) → out' ≡ sets out p (piece_octets w l (piece_at ws (4 * i))) → Stood w l ws n at out₀ out' p' (i + 1)
      stood_more {out'} {p'} j k =
          let xs = piece_octets w l (piece_at ws (4 * i)) in
          record {
            within = omega arith;
            long = ap length k ∙ length-sets out p xs ∙ h.long;
            taken = all_split.1;
            place = omega (arith, h.place, left_long, j);
            stored = rw (k, j, ← sets_append out p xs (left_of w l ws n (i + 1)), ← left_split) h.stored;
          }
