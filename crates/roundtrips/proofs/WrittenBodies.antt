-- The components that the standard writing wrote, read back by the walk: they are a chain, each where the one before it ended, and the walk
-- over a chain gives it.
use Prim.Native.Nat.{ℕ, suc, ◌+◌, ◌≤◌, ◌<◌}
use mathlib.Core.Path.{◌≡◌, refl, sym, ap, ap₂, ◌∙◌, subst}
use mathlib.Core.Bool.{true}
use mathlib.Core.List.{List, [], ◌∷◌, ◌++◌, append_assoc}
use native.Mathlib.Omega.{arith}
use lib.ListN.{length, get_or, length-append}
use lib.Seq.{get_or-append_seam}
use Rattle.ground.proofs.Cases.{both}
use Rattle.ground.specs.Answers.{accepts}
use Rattle.choices.specs.declared.Reading.{Reading}
use Rattle.stored.specs.declared.Piece.{Piece}
use Rattle.stored.specs.Pieces.{type_of}
use Rattle.walk.specs.Walks.{found_at, component_at, Body, body, joined, walk_at}
use Rattle.walk.proofs.Components.{here}
use Rattle.walk.proofs.Chains.{Chain, none, more}
use Rattle.walk.specs.Turns.{rest}
use Rattle.walk.proofs.Turns.{rest_first, rest_end, rest_part}
use Rattle.measuring.specs.Bodies.{Lent, piece_octets, body_octets}
use Rattle.measuring.specs.Grounds.{operators_in, piece_taken, all_taken, rises_in, in_order}
use Rattle.measuring.proofs.Laws.{Standard, body_none, body_more, all_more, order_more}
use Rattle.roundtrips.specs.Trips.{placed_at, placed, cleared_by, cleared}
use Rattle.roundtrips.proofs.WrittenComponents.{Sound, length_piece, component_back, type_first}

-- ---- the walk over a chain; types rise to 13 at most, so its bound is never met

chain_rest : (r : Reading) (s : List ℕ) (stop : ℕ) {at previous start end : ℕ} {b : Body} → Chain r s stop at previous start b end → (j : ℕ) → j ≤ previous → previous ≤ 13
    → rest r s stop at previous start j ≡ accepts b
chain_rest r s stop {at} {previous} {start} (none h) j l m = rest_end r s stop at previous start j (omega arith) h
chain_rest r s stop {at} {previous} {start} (more {p = p} h q c) j l m =
    let d = here r s at previous start q in
    let u = d.rises in
    rest_part r s stop at previous start j (omega arith) h q ∙ ap (joined p) (chain_rest r s stop c (j + 1) (omega arith) d.most)

chain_walk : (r : Reading) (s : List ℕ) (stop : ℕ) {end : ℕ} {b : Body} → Chain r s stop 0 0 0 b end → walk_at r s stop ≡ accepts b
chain_walk r s stop c = rest_first r s stop ∙ chain_rest r s stop c 0 (omega arith) (omega arith)

-- ---- what was written is a chain

abbrev pub AllSound : List Piece → Type 0
AllSound [] = Unit {0}
AllSound (p ∷ ps) = Sound p × AllSound ps

written_chain : (w : Reading) → Standard w → (l : Lent) (ps : List Piece) → AllSound ps → (previous : ℕ) → all_taken w l ps ≡ true → in_order w previous ps ≡ true
    → (start : ℕ) (xs s : List ℕ) → s ≡ xs ++ body_octets w l ps → (at : ℕ) → at ≡ length xs
    → Chain w s (length s) at previous start (body (placed start ps) (cleared l ps)) (length s)
unfolding placed cleared
written_chain w st l [] a previous t o start xs s e at i =
    let n : length s ≡ length xs + 0 = ap length (e ∙ ap (λ (z : List ℕ). xs ++ z) (body_none w l)) ∙ length-append xs [] in
    let m : at ≡ length s = omega arith in
    subst (Chain w s (length s) at previous start (body [] [])) m (none (omega arith))
written_chain w st l (p ∷ ps) (a, b) previous t o start xs s e at i =
    let x = both (piece_taken w l p) (all_taken w l ps) (sym (all_more w l p ps) ∙ t) in
    let y = both (rises_in w previous (type_of p)) (in_order w (type_of p) ps) (sym (order_more w previous p ps) ∙ o) in
    let zs = body_octets w l ps in
    let q = piece_octets w l p in
    let d : s ≡ xs ++ (q ++ zs) = e ∙ ap (λ (z : List ℕ). xs ++ z) (body_more w l p ps) in
    let f = type_first w l p x.0 in
    let g : get_or s at 0 ≡ type_of p =
    ap₂ (λ (z : List ℕ) (j : ℕ). get_or z j 0) (d ∙ ap (λ (z : List ℕ). xs ++ (z ++ zs)) f.is) i ∙ get_or-append_seam xs (type_of p) (f.rest ++ zs) 0 in
    let c : component_at w s at previous start ≡ accepts (found_at (placed_at start p) (cleared_by l p) (length xs + length q)) =
    ap₂ (λ (z : List ℕ) (j : ℕ). component_at w z j previous start) d i ∙ component_back w st xs zs previous start l p a x.0 y.0 in
    let one : length q ≡ suc (length f.rest) = ap length f.is in
    let n : length s ≡ length xs + length (q ++ zs) = ap length d ∙ length-append xs (q ++ zs) in
    let m : length (q ++ zs) ≡ length q + length zs = length-append q zs in
    let u : start + operators_in p ≡ start + length (cleared_by l p) = ap (λ (z : ℕ). start + z) (sym (length_piece l p)) in
    let k = written_chain w st l ps b (type_of p) x.1 y.1 (start + operators_in p) (xs ++ q) s (d ∙ sym (append_assoc xs q zs)) (length xs + length q) (sym (length-append xs q)) in
    let rest : Body = body (placed (start + operators_in p) ps) (cleared l ps) in
    let h : at < length s = omega arith in
    more h c
    (subst (λ (v : ℕ). Chain w s (length s) (length xs + length q) v (start + length (cleared_by l p)) rest (length s)) (sym g)
    (subst (λ (v : ℕ). Chain w s (length s) (length xs + length q) (type_of p) v rest (length s)) u k))

pub walk_back : (w : Reading) → Standard w → (l : Lent) (ps : List Piece) → AllSound ps → all_taken w l ps ≡ true → in_order w 0 ps ≡ true
    → walk_at w (body_octets w l ps) (length (body_octets w l ps)) ≡ accepts (body (placed 0 ps) (cleared l ps))
walk_back w st l ps a t o = chain_walk w (body_octets w l ps) _ (written_chain w st l ps a 0 t o 0 [] (body_octets w l ps) refl 0 refl)
