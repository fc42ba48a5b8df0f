-- The turns of the walk that measures: a piece is tested and counted, and what is left of the words is the rest of the body.
use Prim.Native.Nat.{ℕ, suc, ◌+◌, ◌-◌, ◌*◌, ◌≤◌, ◌<◌}
use mathlib.Core.Path.{◌≡◌, refl, sym, ap, ap₂, ◌∙◌}
use mathlib.Core.Bool.{Bool, true, false, ◌&&◌}
use mathlib.Core.List.{List, [], ◌∷◌}
use native.Mathlib.Omega.{arith}
use borrow.Author.Tests.{lt-leb, le-leb, lt-ltb, le-ltb, leb-false}
use lib.Dec.{leb, ltb}
use lib.ListN.{length, length-append}
use Rattle.std.specs.Prelude.{Option}
use Rattle.ground.specs.Answers.{Answer, accepts, refuses}
use Rattle.ground.specs.Picks.{pick}
use Rattle.ground.proofs.Cases.{by_test}
use Rattle.choices.specs.declared.Reading.{Reading}
use Rattle.stored.specs.declared.Piece.{Piece}
use Rattle.stored.specs.Pieces.{type_of, piece_at}
use Rattle.stored.specs.Stored.{pieces_from}
use Rattle.measuring.specs.Bodies.{Lent, distinguisher_octets, piece_octets, body_octets, whole_octets}
use Rattle.measuring.specs.Grounds.{operators_in, all_operators, piece_taken, all_taken, rises_in, in_order, taken_after, body_taken, body_of, counted}
use Rattle.measuring.specs.Weights.{fits_after, weight_of}
use Rattle.measuring.proofs.Tests.{and_false, leb_rest}
use Rattle.measuring.proofs.Weights.{fits_shows, weight_zero, weight_some}

-- one piece, and the others after it
module _ (w : Reading) (l : Lent) (left previous : ℕ) (p : Piece) (ps : List Piece) where
  pub after_bad : fits_after w l left previous p ≡ false → taken_after w l left previous (p ∷ ps) ≡ false
  unfolding taken_after fits_after all_taken in_order all_operators
  after_bad e =
      by_test (leb (operators_in p) left)
      (λ a. and_false (leb (operators_in p + all_operators ps) left)
      (by_test (piece_taken w l p)
      (λ b. and_false (piece_taken w l p && all_taken w l ps)
      (ap (λ x. x && in_order w (type_of p) ps) (sym (ap₂ (λ x y. x && (y && rises_in w previous (type_of p))) a b) ∙ e)))
      (λ b. ap (λ x. (x && all_taken w l ps) && (rises_in w previous (type_of p) && in_order w (type_of p) ps)) b)))
      (λ a. ap (λ x. x && ((piece_taken w l p && all_taken w l ps) && (rises_in w previous (type_of p) && in_order w (type_of p) ps)))
      (lt-leb (operators_in p + all_operators ps) left (omega (arith, leb-false (operators_in p) left a))))

  pub after_more : fits_after w l left previous p ≡ true → taken_after w l left previous (p ∷ ps) ≡ taken_after w l (left - operators_in p) (type_of p) ps
  unfolding taken_after all_taken in_order all_operators
  after_more e =
      let f = fits_shows w l left previous p e in
      ap₂ (λ x y. x && ((y && all_taken w l ps) && (rises_in w previous (type_of p) && in_order w (type_of p) ps))) (leb_rest (operators_in p) (all_operators ps) left f.0) f.1
      ∙ ap (λ x. leb (all_operators ps) (left - operators_in p) && (all_taken w l ps && (x && in_order w (type_of p) ps))) f.2

-- ---- what is left of the words

pub pieces_more : (ws : List ℕ) (at k : ℕ) → pieces_from (suc k) ws at ≡ piece_at ws at ∷ pieces_from k ws (at + 4)
unfolding pieces_from
pieces_more ws at k = refl

pub body_longer : (w : Reading) (l : Lent) (p : Piece) (ps : List Piece) → length (body_octets w l (p ∷ ps)) ≡ length (piece_octets w l p) + length (body_octets w l ps)
unfolding body_octets
body_longer w l p ps = length-append (piece_octets w l p) (body_octets w l ps)

-- a body's octets by the tests, as it is told
abbrev pub told : Bool → ℕ → Answer ℕ
told b n = pick b (pick (ltb 4095 n) (refuses 7 (n ∷ [])) (accepts n)) (refuses 10 [])

told_body : (w : Reading) (l : Lent) (d : Option ℕ) (ps : List Piece) → counted (body_of w l d ps) ≡ told (body_taken w l ps) (length (whole_octets w l d ps))
unfolding body_of
told_body w l d ps =
    by_test (body_taken w l ps)
    (λ e. by_test (ltb 4095 (length (whole_octets w l d ps))) (λ f. rw (e, f)) (λ f. rw (e, f)))
    (λ e. rw e)

-- the walk after i of n places
module _ (w : Reading) (l : Lent) (ws : List ℕ) (n : ℕ) where
  abbrev pub rest_from : ℕ → ℕ → ℕ → ℕ → Answer ℕ
  rest_from i left previous body = told (taken_after w l left previous (pieces_from (n - i) ws (4 * i))) (body + length (body_octets w l (pieces_from (n - i) ws (4 * i))))

  pub walk_first : (d : Option ℕ) {front : ℕ} → front ≡ length (distinguisher_octets w d) → counted (body_of w l d (pieces_from n ws 0)) ≡ rest_from 0 2047 0 front
  walk_first d {front} h =
      let e : n ≡ n - 0 = omega arith in
      told_body w l d (pieces_from n ws 0)
      ∙ ap (told (body_taken w l (pieces_from n ws 0))) (length-append (distinguisher_octets w d) (body_octets w l (pieces_from n ws 0)))
      ∙ ap₂ (λ (k m : ℕ). told (body_taken w l (pieces_from k ws 0)) (m + length (body_octets w l (pieces_from k ws 0)))) e (sym h)

  module _ (i left previous body : ℕ) where
    walk_end : n ≤ i → rest_from i left previous body ≡ told true body
    unfolding taken_after pieces_from all_taken in_order all_operators body_octets
    walk_end h =
        let e : n - i ≡ 0 = omega arith in
        let f : body + 0 ≡ body = omega arith in
        rw (e, le-leb 0 left (omega arith), f)

    pub walk_large : n ≤ i → 4095 < body → rest_from i left previous body ≡ refuses 7 (body ∷ [])
    walk_large h k = walk_end h ∙ rw (lt-ltb 4095 body k)

    pub walk_done : n ≤ i → body ≤ 4095 → rest_from i left previous body ≡ accepts body
    walk_done h k = walk_end h ∙ rw (le-ltb 4095 body k)

    module _ (h : i < n) where
      split : pieces_from (n - i) ws (4 * i) ≡ piece_at ws (4 * i) ∷ pieces_from (n - (i + 1)) ws (4 * (i + 1))
      split =
          let k : n - i ≡ suc (n - (i + 1)) = omega arith in
          let a : 4 * i + 4 ≡ 4 * (i + 1) = omega arith in
          ap (λ (j : ℕ). pieces_from j ws (4 * i)) k ∙ pieces_more ws (4 * i) (n - (i + 1))
          ∙ ap (λ (j : ℕ). piece_at ws (4 * i) ∷ pieces_from (n - (i + 1)) ws j) a

      module _ {p : Piece} (is : piece_at ws (4 * i) ≡ p) where
        left_from : rest_from i left previous body
            ≡ told (taken_after w l left previous (p ∷ pieces_from (n - (i + 1)) ws (4 * (i + 1)))) (body + length (body_octets w l (p ∷ pieces_from (n - (i + 1)) ws (4 * (i + 1)))))
        left_from = ap (λ ps. told (taken_after w l left previous ps) (body + length (body_octets w l ps))) (split ∙ ap (λ q. q ∷ pieces_from (n - (i + 1)) ws (4 * (i + 1))) is)

        pub walk_bad : weight_of w l left previous p ≡ 0 → rest_from i left previous body ≡ refuses 10 []
        walk_bad z =
            let ps = pieces_from (n - (i + 1)) ws (4 * (i + 1)) in
            left_from ∙ ap (λ b. told b (body + length (body_octets w l (p ∷ ps)))) (after_bad w l left previous p ps (weight_zero w l left previous p z))

        pub walk_more : 0 < weight_of w l left previous p → rest_from i left previous body ≡ rest_from (i + 1) (left - operators_in p) (type_of p) (body + weight_of w l left previous p)
        walk_more s =
            let ps = pieces_from (n - (i + 1)) ws (4 * (i + 1)) in
            let g = weight_some w l left previous p s in
            let c : body + length (body_octets w l (p ∷ ps)) ≡ body + weight_of w l left previous p + length (body_octets w l ps) = omega (arith, body_longer w l p ps, g.1) in
            left_from ∙ ap₂ told (after_more w l left previous p ps g.0) c
