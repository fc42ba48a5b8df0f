-- What is read back of a written rule has the rule's octets: two rules whose canonical forms are the same are written in the same octets.
use Prim.Native.Nat.{ℕ, ◌+◌}
use mathlib.Core.Path.{◌≡◌, refl, sym, ◌∙◌, ap, ap₂}
use mathlib.Core.List.{List, [], ◌∷◌, ◌++◌, map}
use lib.ListN.{take, drop}
use lib.Seq.{take_at, drop_at}
use Rattle.octets.specs.Spell.{spelled}
use Rattle.choices.specs.declared.Reading.{Reading}
use Rattle.operators.specs.declared.Kind.{Kind}
use Rattle.operators.specs.Ops.{kind_of, Op, list_octets}
use Rattle.lists.specs.Lists.{cleared_op}
use Rattle.stored.specs.declared.Piece.{Piece}
use Rattle.stored.specs.declared.Piece.TheVariants.{Prefix, Operators, NoRecord}
use Rattle.measuring.specs.Bodies.{Lent, ops_of, prefix_octets, piece_octets, body_octets}
use Rattle.roundtrips.specs.Trips.{placed, cleared_by, cleared}
use Rattle.roundtrips.proofs.Clearing.{cleared_twice, cleared_width}
use Rattle.roundtrips.proofs.WrittenComponents.{length_piece}

-- a list is written as with its reserved bits 0
cleared_octets : (k : Kind) (os : List Op) → list_octets k (map (cleared_op k) os) ≡ list_octets k os
unfolding list_octets
cleared_octets k [] = refl
cleared_octets k (o ∷ os) =
    ap₂ (λ (x : ℕ) (l : List ℕ). x ∷ l) (cleared_twice k o.octet)
    (ap₂ (λ (n : ℕ) (l : List ℕ). spelled n o.value ++ l) (cleared_width k o.octet) (cleared_octets k os))

-- the octets of components whose operators stand one after the other
unfoldable octets_from : Reading → List Piece → List Op → List ℕ
octets_from w [] os = []
octets_from w (Prefix t p ∷ ps) os = (t ∷ prefix_octets w p) ++ octets_from w ps os
octets_from w (Operators t start n ∷ ps) os = (t ∷ list_octets (kind_of t) (take n os)) ++ octets_from w ps (drop n os)
octets_from w (NoRecord ∷ ps) os = octets_from w ps os

from_canonical : (w : Reading) (l : Lent) (start : ℕ) (ps : List Piece) → octets_from w (placed start ps) (cleared l ps) ≡ body_octets w l ps
unfolding placed cleared octets_from body_octets piece_octets
from_canonical w l start [] = refl
from_canonical w l start (Prefix t p ∷ ps) = ap (λ (xs : List ℕ). (t ∷ prefix_octets w p) ++ xs) (from_canonical w l (start + 0) ps)
from_canonical w l start (Operators t at n ∷ ps) =
    let k = kind_of t in
    let q = Operators t at n in
    ap₂ (λ (os ps' : List Op). (t ∷ list_octets k os) ++ octets_from w (placed (start + n) ps) ps')
    (take_at (cleared_by l q) (cleared l ps) n (length_piece l q)) (drop_at (cleared_by l q) (cleared l ps) n (length_piece l q))
    ∙ ap₂ (λ (xs ys : List ℕ). (t ∷ xs) ++ ys) (cleared_octets k (ops_of l at n)) (from_canonical w l (start + n) ps)
from_canonical w l start (NoRecord ∷ ps) = from_canonical w l (start + 0) ps

pub canonical_octets : (w : Reading) (l m : Lent) (ps qs : List Piece) → placed 0 ps ≡ placed 0 qs → cleared l ps ≡ cleared m qs → body_octets w l ps ≡ body_octets w m qs
canonical_octets w l m ps qs e f = sym (from_canonical w l 0 ps) ∙ ap₂ (octets_from w) e f ∙ from_canonical w m 0 qs
