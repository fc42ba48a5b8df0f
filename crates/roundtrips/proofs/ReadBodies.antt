-- What a standard reading accepted, the standard writing takes, with the operators put into lent lists one after the other; it is in
-- canonical form; and it is written in as many octets as were read. One component first, then the chain of them.
use Prim.Native.Nat.{ℕ, suc, ◌+◌, ◌*◌, ◌≤◌, ◌<◌}
use mathlib.Core.Path.{◌≡◌, refl, sym, ap, ap₂, ◌∙◌, subst}
use mathlib.Core.Bool.{Bool, true, ◌&&◌}
use mathlib.Core.List.{List, [], ◌∷◌, ◌++◌, map, append_assoc}
use mathlib.Core.Logic.{⊎_elim}
use native.Mathlib.Omega.{arith}
use lib.ListN.{length, get_or, length-append, length-map}
use Rattle.ground.proofs.Answers.{never, same_accepted}
use Rattle.ground.specs.Answers.{Answer, accepts, declines}
use Rattle.ground.proofs.Cases.{lt_or_le}
use Rattle.choices.specs.declared.Reading.{Reading}
use Rattle.operators.specs.Ops.{kind_of, Op, octet_of, number_of, ops_in, list_octets}
use Rattle.stored.specs.declared.Piece.{Piece}
use Rattle.stored.specs.declared.Piece.TheVariants.{Prefix, Operators}
use Rattle.stored.specs.Pieces.{type_of}
use Rattle.prefixes.specs.declared.PrefixAt.{PrefixAt}
use Rattle.prefixes.specs.Prefixes.{prefix_at}
use Rattle.prefixes.proofs.Accepted.{Octets}
use Rattle.lists.specs.declared.Tally.{Tally}
use Rattle.lists.specs.Lists.{list_at, ops_at, cleared_op, recorded_ops}
use Rattle.lists.proofs.Laws.{list_ends, recorded_counts}
use Rattle.choices.specs.Choices.{codes_by}
use Rattle.listwriting.specs.Lists.{takes, narrow}
use Rattle.walk.specs.Walks.{FoundAt, prefix_found, list_found, Body, body}
use Rattle.walk.proofs.Ways.{typed_prefix, typed_list}
use Rattle.walk.proofs.Components.{Here, here}
use Rattle.walk.proofs.Chains.{Chain, none, more}
use Rattle.measuring.specs.Bodies.{Lent, lent, ops_of, prefix_octets, piece_octets, body_octets}
use Rattle.measuring.specs.Grounds.{operators_in, all_operators, piece_taken, all_taken, rises_in, in_order}
use Rattle.measuring.proofs.Laws.{Standard, octets_prefix, octets_list, taken_prefix, list_needs, rises_needs, body_none, body_more, all_none, all_more, order_none, order_more, operators_none, operators_more}
use Rattle.roundtrips.specs.Trips.{placed_at, placed, cleared_by, cleared}
use Rattle.roundtrips.proofs.Operators.{ops_there, octets_least}
use Rattle.roundtrips.proofs.Clearing.{recorded_clear}
use Rattle.roundtrips.proofs.ReadLists.{recorded_taken, recorded_narrows, recorded_long}
use Rattle.roundtrips.proofs.ReadPrefixes.{prefix_sized, prefix_valid}
use Rattle.roundtrips.proofs.WrittenComponents.{Sound}
use Rattle.roundtrips.proofs.WrittenBodies.{AllSound}

-- operators at a place of lent lists
record There (l : Lent) (start : ℕ) (os : List Op) : Type 0 where
  pub values : l.first + start + length os ≤ length l.values
  pub octets : l.first + start + length os ≤ length l.octets
  pub is : ops_of l start (length os) ≡ os

-- a component that was found at a place with a type, as it is written
record Fits (w : Reading) (l : Lent) (at t start : ℕ) (p : FoundAt) : Type 0 where
  pub taken : piece_taken w l p.piece ≡ true
  pub kind : type_of p.piece ≡ t
  pub count : operators_in p.piece ≡ length p.operators
  pub place : placed_at start p.piece ≡ p.piece
  pub clear : cleared_by l p.piece ≡ p.operators
  pub long : at + length (piece_octets w l p.piece) ≡ p.next
  pub few : at + 2 * length p.operators ≤ p.next
  pub sound : Sound p.piece

module _ (w : Reading) (st : Standard w) (s : List ℕ) (o : Octets s) where
  module _ (l : Lent) (at t start : ℕ) where
    by_prefix : (p : FoundAt) → t ≤ 2 → (a : Answer PrefixAt) → prefix_at w s (at + 1) ≡ a → prefix_found t a ≡ accepts p → Fits w l at t start p
    by_prefix p h (accepts q) i e =
        let r = prefix_sized w st s (at + 1) i in
        let n = r.long in
        let m : length (piece_octets w l (Prefix t q.prefix)) ≡ suc (length (prefix_octets w q.prefix)) = ap length (octets_prefix w l t q.prefix) in
        subst (Fits w l at t start) (same_accepted e)
        record {
          taken = taken_prefix w l t q.prefix ∙ prefix_valid w st s (at + 1) o i;
          kind = refl;
          count = refl;
          place = refl;
          clear = refl;
          long = omega arith;
          few = omega arith;
          sound = (h, r.low);
        }
    by_prefix p h (declines f) i e = never e

    by_list : (p : FoundAt) → 2 < t → (a : Answer Tally) → list_at w t s (at + 1) ≡ a → list_found t start (recorded_ops w t (ops_at s (at + 1))) a ≡ accepts p
        → There l start p.operators → Fits w l at t start p
    by_list p h (accepts q) i e there =
        let kind = kind_of t in
        let os = recorded_ops w t (ops_at s (at + 1)) in
        let y : There l start os = subst (There l start) (sym (ap (λ (x : FoundAt). x.operators) (same_accepted e))) there in
        let c : length os ≡ q.count = recorded_counts w t s (at + 1) i in
        let z : ops_of l start q.count ≡ os = sym (ap (ops_of l start) c) ∙ y.is in
        let n : at + 1 + length (list_octets kind os) ≡ q.next.at = recorded_long w t s (at + 1) i in
        let m : length (piece_octets w l (Operators t start q.count)) ≡ suc (length (list_octets kind os)) =
        ap length (octets_list w l t start q.count) ∙ ap (λ (x : List Op). suc (length (list_octets kind x))) z in
        let j = octets_least kind os in
        let u = y.values in
        let v = y.octets in
        subst (Fits w l at t start) (same_accepted e)
        record {
          taken = list_needs w st l t start q.count
              record { some = (list_ends w t s (at + 1) i).0; values = omega arith; octets = omega arith; taken = ap takes z ∙ recorded_taken w t s (at + 1) i st o; narrows = ap (narrow (codes_by t)) z ∙ recorded_narrows w t s (at + 1) i st };
          kind = refl;
          count = sym c;
          place = refl;
          clear = ap (map (cleared_op kind)) z ∙ recorded_clear w t (ops_at s (at + 1));
          long = omega arith;
          few = omega arith;
          sound = h;
        }
    by_list p h (declines f) i e there = never e

  fits : (l : Lent) (at previous start : ℕ) (p : FoundAt) → Here w s at previous start p → There l start p.operators → Fits w l at (get_or s at 0) start p
  fits l at previous start p d there =
      let t = get_or s at 0 in
      ⊎_elim
      (λ h. by_list l at t start p h (list_at w t s (at + 1)) refl (sym (typed_list w t s (at + 1) start h) ∙ d.typed) there)
      (λ h. by_prefix l at t start p h (prefix_at w s (at + 1)) refl (sym (typed_prefix w t s (at + 1) start h) ∙ d.typed))
      (lt_or_le 2 t)

-- operators at the front of lent lists
abbrev pub front_lent : List Op → List ℕ → List ℕ → Lent
front_lent os values octets = lent (map number_of os ++ values) (map octet_of os ++ octets) 0

length_front : (f : Op → ℕ) (os : List Op) (xs : List ℕ) → length (map f os ++ xs) ≡ length os + length xs
length_front f os xs = length-append (map f os) xs ∙ ap (λ (n : ℕ). n + length xs) (length-map os f)

there : (values octets : List ℕ) (all before os after : List Op) (start : ℕ) → before ++ (os ++ after) ≡ all → length before ≡ start → There (front_lent all values octets) start os
there values octets all before os after start e b =
    let x = ap length e in
    let y : length (before ++ (os ++ after)) ≡ length before + (length os + length after) = length-append before (os ++ after) ∙ ap (λ (j : ℕ). length before + j) (length-append os after) in
    let u = length_front number_of all values in
    let v = length_front octet_of all octets in
    let z : 0 + start ≡ length before = omega arith in
    record {
      values = omega arith;
      octets = omega arith;
      is = ap (λ (i : ℕ). ops_in (map number_of all ++ values) (map octet_of all ++ octets) i (length os)) z
          ∙ ap (λ (l : List Op). ops_in (map number_of l ++ values) (map octet_of l ++ octets) (length before) (length os)) (sym e)
          ∙ ops_there values octets before os after;
    }

-- the components from a place up to another
pub record Taking (w : Reading) (l : Lent) (at previous start : ℕ) (b : Body) (end : ℕ) : Type 0 where
  pub taken : all_taken w l b.pieces ≡ true
  pub order : in_order w previous b.pieces ≡ true
  pub count : all_operators b.pieces ≡ length b.operators
  pub place : placed start b.pieces ≡ b.pieces
  pub clear : cleared l b.pieces ≡ b.operators
  pub long : at + length (body_octets w l b.pieces) ≡ end
  pub few : at + 2 * length b.operators ≤ end
  pub sound : AllSound b.pieces

taking_none : (w : Reading) (l : Lent) (at previous start : ℕ) → Taking w l at previous start (body [] []) at
unfolding placed cleared
taking_none w l at previous start =
    let n : length (body_octets w l []) ≡ 0 = ap length (body_none w l) in
    record { taken = all_none w l; order = order_none w previous; count = operators_none; place = refl; clear = refl; long = omega arith; few = omega arith; sound = tt }

module _ (w : Reading) (l : Lent) (at previous t start : ℕ) (p : FoundAt) (b : Body) (end : ℕ) where
  taking_more : rises_in w previous t ≡ true → Fits w l at t start p → Taking w l p.next t (start + length p.operators) b end
      → Taking w l at previous start (body (p.piece ∷ b.pieces) (p.operators ++ b.operators)) end
  unfolding placed cleared
  taking_more r f g =
      let x = p.piece in
      let xs = b.pieces in
      let c = f.count in
      let d = g.count in
      let m = f.long in
      let n = g.long in
      let i = f.few in
      let j = g.few in
      let y : length (body_octets w l (x ∷ xs)) ≡ length (piece_octets w l x) + length (body_octets w l xs) =
      ap length (body_more w l x xs) ∙ length-append (piece_octets w l x) (body_octets w l xs) in
      let z : length (p.operators ++ b.operators) ≡ length p.operators + length b.operators = length-append p.operators b.operators in
      record {
        taken = all_more w l x xs ∙ ap₂ (λ (u v : Bool). u && v) f.taken g.taken;
        order = order_more w previous x xs ∙ ap (λ (u : ℕ). rises_in w previous u && in_order w u xs) f.kind ∙ ap₂ (λ (u v : Bool). u && v) r g.order;
        count = omega (arith, operators_more x xs);
        place = ap₂ (λ (u : Piece) (v : List Piece). u ∷ v) f.place (ap (λ (u : ℕ). placed (start + u) xs) c ∙ g.place);
        clear = ap₂ (λ (u v : List Op). u ++ v) f.clear g.clear;
        long = omega arith;
        few = omega arith;
        sound = (f.sound, g.sound);
      }

module _ (w : Reading) (st : Standard w) (s : List ℕ) (o : Octets s) (stop : ℕ) (all : List Op) (values octets : List ℕ) where
  taking_from : {at previous start end : ℕ} {b : Body} → Chain w s stop at previous start b end → (before : List Op) → before ++ b.operators ≡ all → length before ≡ start
      → Taking w (front_lent all values octets) at previous start b end
  taking_from {at} {previous} {start} (none h) before e n = taking_none w (front_lent all values octets) at previous start
  taking_from {at} {previous} {start} {end} (more {p = p} {b = b} h q c) before e n =
      let d = here w s at previous start q in
      let l = front_lent all values octets in
      let f = fits w st s o l at previous start p d (there values octets all before p.operators b.operators start e n) in
      let m : length (before ++ p.operators) ≡ start + length p.operators = length-append before p.operators ∙ ap (λ (j : ℕ). j + length p.operators) n in
      taking_more w l at previous (get_or s at 0) start p b end (rises_needs w st previous (get_or s at 0) d.rises d.known) f
      (taking_from c (before ++ p.operators) (append_assoc before p.operators b.operators ∙ e) m)

  -- all that was read
  pub taking : {end : ℕ} {b : Body} → Chain w s stop 0 0 0 b end → b.operators ≡ all → Taking w (front_lent all values octets) 0 0 0 b end
  taking c e = taking_from c [] e refl
