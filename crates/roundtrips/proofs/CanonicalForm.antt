-- A rule that counts its places one component after the other, with no reserved bit set, is its own canonical form: its operators are those
-- at its first place and after it.
use Prim.Native.Nat.{ℕ, ◌+◌}
use mathlib.Core.Path.{◌≡◌, sym, ap, ap₂, ◌∙◌}
use mathlib.Core.List.{List, [], ◌∷◌, ◌++◌}
use native.Mathlib.Omega.{arith}
use Rattle.operators.specs.Ops.{Op, ops_in}
use Rattle.stored.specs.declared.Piece.{Piece}
use Rattle.stored.specs.declared.Piece.TheVariants.{Prefix, Operators, NoRecord}
use Rattle.stored.specs.Stored.{StoredRule}
use Rattle.walk.specs.Walks.{body}
use Rattle.measuring.specs.Bodies.{Lent, lent, ops_of}
use Rattle.measuring.specs.Grounds.{operators_in, all_operators}
use Rattle.measuring.proofs.Laws.{operators_none, operators_more}
use Rattle.roundtrips.specs.Trips.{placed_at, placed, named_by, named, canonical, Canonical}
use Rattle.roundtrips.proofs.Operators.{ops_zero, ops_join}

named_one : (l : Lent) (p : Piece) (start : ℕ) → placed_at start p ≡ p → named_by l p ≡ ops_of l start (operators_in p)
named_one l (Prefix t p) start e = sym (ops_zero l.values l.octets (l.first + start))
named_one l (Operators t from count) start e = let z : from ≡ start = cc in ap (λ (j : ℕ). ops_of l j count) z
named_one l NoRecord start e = sym (ops_zero l.values l.octets (l.first + start))

pub named_on : (l : Lent) (ps : List Piece) (start : ℕ) → placed start ps ≡ ps → named l ps ≡ ops_of l start (all_operators ps)
unfolding placed named
named_on l [] start e = sym (ap (ops_of l start) operators_none ∙ ops_zero l.values l.octets (l.first + start))
named_on l (p ∷ ps) start e =
    let m = operators_in p in
    let n = all_operators ps in
    let a : placed_at start p ≡ p = cc in
    let b : placed (start + m) ps ≡ ps = cc in
    let f : l.first + (start + m) ≡ l.first + start + m = omega arith in
    ap₂ (λ (x y : List Op). x ++ y) (named_one l p start a) (named_on l ps (start + m) b ∙ ap (λ (j : ℕ). ops_in l.values l.octets j n) f)
    ∙ sym (ops_join l.values l.octets m n (l.first + start))
    ∙ ap (ops_of l start) (sym (operators_more p ps))

pub canonical_same : (s : StoredRule) (values octets : List ℕ) → Canonical s values octets
    → canonical s values octets ≡ body s.pieces (ops_of (lent values octets s.head.first) 0 (all_operators s.pieces))
canonical_same s values octets h =
    ap₂ body h.counted (h.clear ∙ named_on (lent values octets s.head.first) s.pieces 0 h.counted)
