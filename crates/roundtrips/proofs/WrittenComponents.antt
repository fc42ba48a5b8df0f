-- A component that the standard writing takes reads back, wherever it stands: by the laws of its prefix or of its list.
use Prim.Native.Nat.{ℕ, suc, ◌+◌, ◌≤◌, ◌<◌}
use mathlib.Core.Path.{◌≡◌, refl, sym, ap, ap₂, ◌∙◌}
use mathlib.Core.Bool.{true, false≢true}
use mathlib.Core.List.{List, [], ◌∷◌, ◌++◌, map, append_assoc}
use native.Mathlib.Omega.{arith}
use lib.ListN.{length, get_or, length-append, length-map}
use lib.Seq.{get_or-append_seam}
use Rattle.ground.specs.Answers.{accepts}
use Rattle.choices.specs.declared.Reading.{Reading}
use Rattle.choices.specs.declared.Reading.TheVariants.{Plain, Ipv4, Ipv6}
use Rattle.choices.specs.Choices.{codes_by, last_type}
use Rattle.operators.specs.Ops.{kind_of, Op, list_octets}
use Rattle.rules.specs.declared.NetworkPrefix.{NetworkPrefix}
use Rattle.stored.specs.declared.Piece.{Piece}
use Rattle.stored.specs.declared.Piece.TheVariants.{Prefix, Operators, NoRecord}
use Rattle.stored.specs.Pieces.{type_of}
use Rattle.prefixes.specs.Prefixes.{whole_prefix, prefix_at}
use Rattle.prefixwriting.proofs.Inverse.{LowWord, ipv4_back, ipv6_back}
use Rattle.lists.specs.Lists.{list_at, ops_at, cleared_op, recorded_ops}
use Rattle.walk.specs.Walks.{found_at, prefix_found, list_found, typed_at, component_at}
use Rattle.walk.proofs.Ways.{found_typed, typed_prefix, typed_list}
use Rattle.listwriting.specs.Lists.{takes, narrow}
use Rattle.measuring.specs.Bodies.{Lent, ops_of, prefix_octets, piece_octets}
use Rattle.measuring.specs.Grounds.{operators_in, prefix_taken, piece_taken, rises_in}
use Rattle.measuring.proofs.Laws.{Standard, octets_prefix, octets_list, taken_prefix, taken_none, list_shows, rises_shows, standard_codes}
use Rattle.roundtrips.specs.Trips.{placed_at, cleared_by}
use Rattle.roundtrips.proofs.Operators.{ops_length}
use Rattle.roundtrips.proofs.WrittenLists.{list_back, recorded_back}

-- what the pieces of every stored rule are
abbrev pub Sound : Piece → Type 0
Sound (Prefix t p) = (t ≤ 2) × LowWord p
Sound (Operators t start count) = 2 < t
Sound NoRecord = Unit {0}

-- as many operators as a component counts
pub length_piece : (l : Lent) (p : Piece) → length (cleared_by l p) ≡ operators_in p
length_piece l (Prefix t p) = refl
length_piece l (Operators t start count) =
    length-map (ops_of l start count) (cleared_op (kind_of t)) ∙ ops_length l.values l.octets (l.first + start) count
length_piece l NoRecord = refl

prefix_back : (w : Reading) → Standard w → (xs ys : List ℕ) (p : NetworkPrefix) → LowWord p → prefix_taken w p ≡ true
    → prefix_at w (xs ++ (prefix_octets w p ++ ys)) (length xs) ≡ accepts (whole_prefix p (length xs + length (prefix_octets w p)))
prefix_back Plain u xs ys p h e = absurd u
prefix_back Ipv4 u xs ys p h e = ipv4_back xs ys p e
prefix_back Ipv6 u xs ys p h e = ipv6_back xs ys p h e

-- what holds after one octet more
past_type : {A : Type 0} (f : List ℕ → ℕ → A) (xs : List ℕ) (t : ℕ) (zs : List ℕ) {a : A} → f ((xs ++ (t ∷ [])) ++ zs) (length (xs ++ (t ∷ []))) ≡ a
    → f (xs ++ (t ∷ zs)) (length xs + 1) ≡ a
past_type f xs t zs e = sym (ap₂ f (append_assoc xs (t ∷ []) zs) (length-append xs (t ∷ []))) ∙ e

after_type : (xs : List ℕ) (t n : ℕ) → length (xs ++ (t ∷ [])) + n ≡ length xs + suc n
after_type xs t n = let e = length-append xs (t ∷ []) in omega arith

module _ (w : Reading) (st : Standard w) (xs ys : List ℕ) (previous start : ℕ) where
  found : (t : ℕ) (zs : List ℕ) → rises_in w previous t ≡ true
      → component_at w (xs ++ (t ∷ zs)) (length xs) previous start ≡ typed_at w t (xs ++ (t ∷ zs)) (length xs + 1) start
  found t zs e =
      let s = xs ++ (t ∷ zs) in
      let r = rises_shows w st previous t e in
      let g : get_or s (length xs) 0 ≡ t = get_or-append_seam xs t zs 0 in
      let n : length s ≡ length xs + suc (length zs) = length-append xs (t ∷ zs) in
      let a : previous < get_or s (length xs) 0 = rw g r.0 in
      let b : get_or s (length xs) 0 ≤ last_type w = rw g r.1 in
      found_typed w s (length xs) previous start (omega arith) a b
      ∙ ap (λ (x : ℕ). typed_at w x s (length xs + 1) start) g

  back_prefix : (t : ℕ) (p : NetworkPrefix) → t ≤ 2 → LowWord p → prefix_taken w p ≡ true → rises_in w previous t ≡ true
      → component_at w (xs ++ (t ∷ (prefix_octets w p ++ ys))) (length xs) previous start
      ≡ accepts (found_at (Prefix t p) [] (length xs + suc (length (prefix_octets w p))))
  back_prefix t p h k e r =
      let zs = prefix_octets w p ++ ys in
      found t zs r
      ∙ typed_prefix w t (xs ++ (t ∷ zs)) (length xs + 1) start h
      ∙ ap (prefix_found t) (past_type (prefix_at w) xs t zs (prefix_back w st (xs ++ (t ∷ [])) ys p k e))
      ∙ ap (λ (n : ℕ). accepts (found_at (Prefix t p) [] n)) (after_type xs t (length (prefix_octets w p)))

  back_list : (t : ℕ) (os : List Op) (count : ℕ) → length os ≡ count → 2 < t → takes os ≡ true → narrow (codes_by t) os ≡ true → rises_in w previous t ≡ true
      → component_at w (xs ++ (t ∷ (list_octets (kind_of t) os ++ ys))) (length xs) previous start
      ≡ accepts (found_at (Operators t start count) (map (cleared_op (kind_of t)) os) (length xs + suc (length (list_octets (kind_of t) os))))
  back_list t os count c h e u r =
      let k = kind_of t in
      let zs = list_octets k os ++ ys in
      let v = ap (λ (c : ℕ). narrow c os) (standard_codes w st t) ∙ u in
      found t zs r
      ∙ typed_list w t (xs ++ (t ∷ zs)) (length xs + 1) start h
      ∙ ap₂ (list_found t start)
      (past_type (λ (x : List ℕ) (n : ℕ). recorded_ops w t (ops_at x n)) xs t zs (recorded_back w t os e v (xs ++ (t ∷ [])) ys))
      (past_type (list_at w t) xs t zs (list_back w t os e v (xs ++ (t ∷ [])) ys))
      ∙ ap₂ (λ (m n : ℕ). accepts (found_at (Operators t start m) (map (cleared_op k) os) n)) c (after_type xs t (length (list_octets k os)))

  pub component_back : (l : Lent) (p : Piece) → Sound p → piece_taken w l p ≡ true → rises_in w previous (type_of p) ≡ true
      → component_at w (xs ++ (piece_octets w l p ++ ys)) (length xs) previous start
      ≡ accepts (found_at (placed_at start p) (cleared_by l p) (length xs + length (piece_octets w l p)))
  component_back l (Prefix t p) (h, k) e r = rw (octets_prefix w l t p) (back_prefix t p h k (sym (taken_prefix w l t p) ∙ e) r)
  component_back l (Operators t from count) h e r =
      rw (octets_list w l t from count)
      (back_list t (ops_of l from count) count (ops_length l.values l.octets (l.first + from) count) h (list_shows w st l t from count e).taken (list_shows w st l t from count e).narrows r)
  component_back l NoRecord h e r = absurd (false≢true (sym (taken_none w l) ∙ e))

-- its first octet is its type
pub record Typed (t : ℕ) (xs : List ℕ) : Type 0 where
  pub rest : List ℕ
  pub is : xs ≡ t ∷ rest

pub type_first : (w : Reading) (l : Lent) (p : Piece) → piece_taken w l p ≡ true → Typed (type_of p) (piece_octets w l p)
type_first w l (Prefix t p) e = record { rest = prefix_octets w p; is = octets_prefix w l t p }
type_first w l (Operators t from count) e = record { rest = list_octets (kind_of t) (ops_of l from count); is = octets_list w l t from count }
type_first w l NoRecord e = absurd (false≢true (sym (taken_none w l) ∙ e))
