-- What callers may use of the grounds and the octets: each way that the tests of a piece and of a body go, what one that is taken shows, and what it needs.
use Prim.Native.Nat.{ℕ, zero, suc, ◌+◌, ◌≤◌, ◌<◌}
use mathlib.Core.Path.{◌≡◌, refl, sym, ap₂, ◌∙◌}
use mathlib.Core.Bool.{Bool, true, false, ◌&&◌, ◌||◌, false≢true}
use mathlib.Core.List.{List, [], ◌∷◌, ◌++◌}
use native.Mathlib.Omega.{arith}
use borrow.Author.Tests.{eqb-true, lt-ltb, le-ltb, ltb-true, ltb-false, le-leb, leb-true}
use lib.Dec.{eqb, leb, ltb}
use lib.ListN.{length}
use Rattle.std.specs.Prelude.{None, Some, Option}
use Rattle.ground.specs.Answers.{accepts, refuses}
use Rattle.ground.proofs.Answers.{never, same_accepted}
use Rattle.ground.proofs.Cases.{by_test, both}
use Rattle.choices.specs.declared.Reading.{Reading}
use Rattle.choices.specs.declared.Reading.TheVariants.{Plain, Ipv4, Ipv6}
use Rattle.choices.specs.Choices.{codes_by, codes_in, last_type, family_of, standard_of}
use Rattle.operators.specs.Ops.{kind_of, Op, ops_in, list_octets}
use Rattle.rules.specs.declared.NetworkPrefix.{NetworkPrefix}
use Rattle.stored.specs.declared.Piece.{Piece}
use Rattle.stored.specs.declared.Piece.TheVariants.{Prefix, Operators, NoRecord}
use Rattle.stored.specs.Pieces.{type_of, is_record, piece_at}
use Rattle.stored.specs.Stored.{pieces_from, records_from}
use Rattle.listwriting.specs.Lists.{takes, narrow, takes_in}
use Rattle.listwriting.proofs.Laws.{takes_none}
use Rattle.octets.proofs.Spells.{length_spelled}
use Rattle.measuring.specs.Bodies.{Lent, ops_of, prefix_octets, piece_octets, body_octets, distinguisher_octets, eight_of, whole_octets}
use Rattle.measuring.specs.Grounds.{operators_in, all_operators, inside_of, prefix_taken, list_taken, piece_taken, all_taken, rises_in, in_order, taken_after, body_taken, body_of}
use Rattle.measuring.proofs.Insides.{inside_both}

-- the writings that are not plain
abbrev pub Standard : Reading → Type 0
Standard Plain = ⊥
Standard Ipv4 = Unit {0}
Standard Ipv6 = Unit {0}

pub not_plain : (w : Reading) → (w ≡ Plain → ⊥) → Standard w
not_plain Plain h = h refl
not_plain Ipv4 h = tt
not_plain Ipv6 h = tt

-- all of them take the widths of one table
pub standard_codes : (w : Reading) → Standard w → (t : ℕ) → codes_in w t ≡ codes_by t
standard_codes Plain u t = absurd u
standard_codes Ipv4 u t = refl
standard_codes Ipv6 u t = refl

-- and the families that name them
pub standard_own : (w : Reading) → Standard w → standard_of (family_of w) ≡ accepts w
unfolding standard_of
standard_own Plain u = absurd u
standard_own Ipv4 u = refl
standard_own Ipv6 u = refl

pub standard_shows : (family : ℕ) (w : Reading) → standard_of family ≡ accepts w → Standard w × (family_of w ≡ family)
unfolding standard_of
standard_shows family w e =
    by_test (eqb family 4)
    (λ t. let s : Ipv4 ≡ w = cc (rw t at e) in rw (← s) (tt, sym (eqb-true family 4 t)))
    (λ t. by_test (eqb family 6)
    (λ u. let s : Ipv6 ≡ w = cc (rw (t, u) at e) in rw (← s) (tt, sym (eqb-true family 6 u)))
    (λ u. never (rw (t, u) at e)))

-- ---- the octets

module _ (w : Reading) (l : Lent) where
  pub octets_prefix : (t : ℕ) (p : NetworkPrefix) → piece_octets w l (Prefix t p) ≡ t ∷ prefix_octets w p
  unfolding piece_octets
  octets_prefix t p = refl

  pub octets_list : (t start n : ℕ) → piece_octets w l (Operators t start n) ≡ t ∷ list_octets (kind_of t) (ops_of l start n)
  unfolding piece_octets
  octets_list t start n = refl

  pub body_none : body_octets w l [] ≡ []
  unfolding body_octets
  body_none = refl

  pub body_more : (p : Piece) (ps : List Piece) → body_octets w l (p ∷ ps) ≡ piece_octets w l p ++ body_octets w l ps
  unfolding body_octets
  body_more p ps = refl

-- ---- one piece

module _ (w : Reading) (l : Lent) where
  pub taken_prefix : (t : ℕ) (p : NetworkPrefix) → piece_taken w l (Prefix t p) ≡ prefix_taken w p
  unfolding piece_taken
  taken_prefix t p = refl

  pub taken_list : (t start n : ℕ) → piece_taken w l (Operators t start n) ≡ (inside_of l start n && list_taken w t (ops_of l start n))
  unfolding piece_taken
  taken_list t start n = refl

  -- four words that are no component
  pub taken_none : piece_taken w l NoRecord ≡ false
  unfolding piece_taken
  taken_none = refl

  pub taken_record : (p : Piece) → piece_taken w l p ≡ true → is_record p ≡ true
  unfolding piece_taken
  taken_record (Prefix t p) e = refl
  taken_record (Operators t start n) e = refl
  taken_record NoRecord e = absurd (false≢true e)

-- a list in a standard writing: it names some operators, which lie within both lent lists
pub standard_list : (w : Reading) → Standard w → (t : ℕ) (os : List Op) → list_taken w t os ≡ takes_in t os
standard_list Plain u t os = absurd u
standard_list Ipv4 u t os = refl
standard_list Ipv6 u t os = refl

pub record Listed (t : ℕ) (l : Lent) (start n : ℕ) : Type 0 where
  pub some : 0 < n
  pub values : l.first + start + n ≤ length l.values
  pub octets : l.first + start + n ≤ length l.octets
  pub taken : takes (ops_of l start n) ≡ true
  pub narrows : narrow (codes_by t) (ops_of l start n) ≡ true

module _ (w : Reading) (u : Standard w) (l : Lent) where
  listed : (t start n : ℕ) → inside_of l start n ≡ true → takes (ops_of l start n) ≡ true → narrow (codes_by t) (ops_of l start n) ≡ true → Listed t l start n
  unfolding ops_in
  listed t start zero i e c = absurd (false≢true (sym takes_none ∙ e))
  listed t start (suc n) i e c = let b = inside_both l start (suc n) (λ z. omega arith) i in record { some = omega arith; values = b.0; octets = b.1; taken = e; narrows = c }

  pub list_shows : (t start n : ℕ) → piece_taken w l (Operators t start n) ≡ true → Listed t l start n
  list_shows t start n e =
      let b = both (inside_of l start n) (list_taken w t (ops_of l start n)) (sym (taken_list w l t start n) ∙ e) in
      let c = both (takes (ops_of l start n)) (narrow (codes_by t) (ops_of l start n)) (sym (standard_list w u t (ops_of l start n)) ∙ b.1) in
      listed t start n b.0 c.0 c.1

  or_right : (a : Bool) {b : Bool} → b ≡ true → (a || b) ≡ true
  or_right true e = refl
  or_right false e = e

  pub list_needs : (t start n : ℕ) → Listed t l start n → piece_taken w l (Operators t start n) ≡ true
  list_needs t start n h =
      let i : inside_of l start n ≡ true = or_right (eqb n 0) (ap₂ ◌&&◌ (le-leb _ _ h.values) (le-leb _ _ h.octets)) in
      taken_list w l t start n ∙ ap₂ ◌&&◌ i (standard_list w u t (ops_of l start n) ∙ ap₂ ◌&&◌ h.taken h.narrows)

-- a type after another in a standard writing
pub rises_shows : (w : Reading) → Standard w → (previous t : ℕ) → rises_in w previous t ≡ true → (previous < t) × (t ≤ last_type w)
rises_shows Plain u previous t e = absurd u
rises_shows Ipv4 u previous t e = let b = both (ltb previous t) (leb t 12) e in (ltb-true previous t b.0, leb-true t 12 b.1)
rises_shows Ipv6 u previous t e = let b = both (ltb previous t) (leb t 13) e in (ltb-true previous t b.0, leb-true t 13 b.1)

pub rises_needs : (w : Reading) → Standard w → (previous t : ℕ) → previous < t → t ≤ last_type w → rises_in w previous t ≡ true
rises_needs Plain u previous t h k = absurd u
rises_needs Ipv4 u previous t h k = rw (lt-ltb previous t h, le-leb t 12 k)
rises_needs Ipv6 u previous t h k = rw (lt-ltb previous t h, le-leb t 13 k)

-- ---- all pieces

module _ (w : Reading) (l : Lent) where
  pub all_none : all_taken w l [] ≡ true
  unfolding all_taken
  all_none = refl

  pub all_more : (p : Piece) (ps : List Piece) → all_taken w l (p ∷ ps) ≡ (piece_taken w l p && all_taken w l ps)
  unfolding all_taken
  all_more p ps = refl

  -- words of which all pieces are taken are records
  pub all_records : (n : ℕ) (ws : List ℕ) (at : ℕ) → all_taken w l (pieces_from n ws at) ≡ true → records_from n ws at ≡ true
  unfolding all_taken pieces_from records_from
  all_records zero ws at e = refl
  all_records (suc n) ws at e =
      let b = both (piece_taken w l (piece_at ws at)) (all_taken w l (pieces_from n ws (at + 4))) e in
      ap₂ ◌&&◌ (taken_record w l (piece_at ws at) b.0) (all_records n ws (at + 4) b.1)

pub order_none : (w : Reading) (previous : ℕ) → in_order w previous [] ≡ true
unfolding in_order
order_none w previous = refl

pub order_more : (w : Reading) (previous : ℕ) (p : Piece) (ps : List Piece) → in_order w previous (p ∷ ps) ≡ (rises_in w previous (type_of p) && in_order w (type_of p) ps)
unfolding in_order
order_more w previous p ps = refl

pub operators_none : all_operators [] ≡ 0
unfolding all_operators
operators_none = refl

pub operators_more : (p : Piece) (ps : List Piece) → all_operators (p ∷ ps) ≡ operators_in p + all_operators ps
unfolding all_operators
operators_more p ps = refl

-- ---- a body

-- a distinguisher takes eight octets, if it is written
eight_most : (d : Option ℕ) → length (eight_of d) ≤ 8
eight_most None = omega arith
eight_most (Some n) = omega (arith, length_spelled 8 n)

pub distinguisher_most : (w : Reading) (d : Option ℕ) → length (distinguisher_octets w d) ≤ 8
distinguisher_most Plain d = omega arith
distinguisher_most Ipv4 d = eight_most d
distinguisher_most Ipv6 d = eight_most d

-- what a body that a writing takes shows, and needs
pub record Taken (w : Reading) (l : Lent) (d : Option ℕ) (ps : List Piece) : Type 0 where
  pub few : all_operators ps ≤ 2047
  pub each : all_taken w l ps ≡ true
  pub order : in_order w 0 ps ≡ true
  pub most : length (whole_octets w l d ps) ≤ 4095

module _ (w : Reading) (l : Lent) (ps : List Piece) where
  tests : body_taken w l ps ≡ true → (all_operators ps ≤ 2047) × (all_taken w l ps ≡ true) × (in_order w 0 ps ≡ true)
  unfolding taken_after
  tests e =
      let a = both (leb (all_operators ps) 2047) (all_taken w l ps && in_order w 0 ps) e in
      let b = both (all_taken w l ps) (in_order w 0 ps) a.1 in
      (leb-true (all_operators ps) 2047 a.0, b.0, b.1)

  pub body_shows : (d : Option ℕ) (xs : List ℕ) → body_of w l d ps ≡ accepts xs → Taken w l d ps × (xs ≡ whole_octets w l d ps)
  unfolding body_of
  body_shows d xs e =
      by_test (body_taken w l ps)
      (λ t. by_test (ltb 4095 (length (whole_octets w l d ps)))
      (λ m. never (rw (t, m) at e))
      (λ m.
      let a = tests t in
      (record { few = a.0; each = a.1; order = a.2; most = ltb-false 4095 (length (whole_octets w l d ps)) m }, sym (same_accepted (rw (t, m) at e)))))
      (λ t. never (rw t at e))

  pub body_needs : (d : Option ℕ) → Taken w l d ps → body_of w l d ps ≡ accepts (whole_octets w l d ps)
  unfolding body_of taken_after
  body_needs d h = rw (le-leb (all_operators ps) 2047 h.few, h.each, h.order, le-ltb 4095 (length (whole_octets w l d ps)) h.most)

  -- a piece that is not taken, a record or not, is BadRecord
  pub body_bad : (d : Option ℕ) → all_taken w l ps ≡ false → body_of w l d ps ≡ refuses 10 []
  unfolding body_of taken_after
  body_bad d e = by_test (leb (all_operators ps) 2047) (λ a. rw (a, e)) (λ a. rw a)
