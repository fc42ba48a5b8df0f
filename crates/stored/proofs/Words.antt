-- Laws of a rule's words over plain lists: what four words are, what each turn of a loop comes to, how the stores of a rule join, and what words that
-- are a rule show.
use Prim.Native.Nat.{ℕ, zero, suc, ◌+◌, ◌-◌, ◌*◌, ◌/◌, ◌%◌, ◌^◌, ◌≤◌, ◌<◌}
use mathlib.Core.Path.{◌≡◌, refl, sym, ap, ap₂, ◌∙◌}
use mathlib.Core.List.{List, [], ◌∷◌, ◌++◌, append_assoc}
use mathlib.Core.Bool.{Bool, true, false, ◌&&◌, and-true, and-false}
use mathlib.Core.Logic.{⊎_elim}
use native.Mathlib.Omega.{arith}
use lib.ListN.{length, get_or, take, drop, replicate, length-append, length-replicate}
use lib.Seq.{sets, sets-eq, drop-drop}
use lib.Bits.{bit_or}
use lib.Dec.{eqb, leb, ltb}
use borrow.Rule.Slice.PartMut.{put_mid}
use borrow.Author.Tests.{eq-eqb, ne_eqb, lt-ltb, le-ltb, ltb-true, le-leb, lt-leb, leb-true}
use Rattle.std.specs.Prelude.{None, Some, Option}
use Rattle.ground.proofs.Cases.{both, lt_or_le}
use Rattle.ground.specs.Answers.{accepts, refuses}
use Rattle.ground.specs.Picks.{pick}
use Rattle.ground.proofs.Overlays.{sets_append, sets_again}
use Rattle.rules.specs.declared.NetworkPrefix.{NetworkPrefix}
use Rattle.rules.specs.declared.NetworkPrefix.TheVariants.{Ipv4}
use Rattle.stored.proofs.Distinguishers.{test_absent}
use Rattle.stored.proofs.Scans.{none_of, or_none}
use Rattle.stored.specs.declared.Quad.{Quad}
use Rattle.stored.specs.declared.Piece.{Piece}
use Rattle.stored.specs.declared.Piece.TheVariants.{Prefix, Operators, NoRecord}
use Rattle.stored.specs.Pieces.{quad_of, prefix_quad, network_of, named, same_quad, is_piece, piece_of, piece_at, is_record}
use Rattle.stored.specs.Distinguishers.{is_distinguisher, distinguished_with}
use Rattle.stored.specs.Stored.{Head, head, all_words, tail_words, rule_words, count_at, family_at, pieces_from, records_from, zeros_from, is_framed, is_rule, stored_at, rule_at}

by_second : (a b c : Bool) (p : Piece) → b ≡ false → pick (a && (b && c)) p NoRecord ≡ NoRecord
by_second true b c p e = rw e
by_second false b c p e = refl

by_last : (a b c : Bool) (p : Piece) → c ≡ false → pick (a && (b && c)) p NoRecord ≡ NoRecord
by_last true true c p e = rw e
by_last true false c p e = refl
by_last false b c p e = refl

-- ---- what four words are, by what they name and whether its words are they
module _ (q : Quad) where
  tested : (p : Piece) (b : Bool) → 1 ≤ q.mark % 16 → q.mark % 16 ≤ 13 → named q ≡ p → same_quad (quad_of p) q ≡ b → pick b p NoRecord ≡ piece_of q
  unfolding piece_of is_piece
  tested p b l h e f =
      let t : ltb 0 (q.mark % 16) ≡ true = lt-ltb 0 (q.mark % 16) (omega arith) in
      sym (rw (t, le-leb (q.mark % 16) 13 h) (ap₂ (λ (x : Bool) (y : Piece). pick x y NoRecord) (ap (λ x. same_quad (quad_of x) q) e ∙ f) e))

  pub piece_none : q.mark % 16 ≡ 0 → NoRecord ≡ piece_of q
  unfolding piece_of is_piece
  piece_none h = sym (rw (le-ltb 0 (q.mark % 16) (omega arith)))

  pub piece_prefix : (b : Bool) (t : ℕ) → t ≡ q.mark % 16 → 1 ≤ t → t ≤ 2 → (p : NetworkPrefix) → p ≡ network_of (q.mark / 16) q.a q.b q.c → same_quad (prefix_quad t p) q ≡ b
      → pick b (Prefix t p) NoRecord ≡ piece_of q
  unfolding named
  piece_prefix b t h l m p n e =
      tested (Prefix t p) b (omega arith) (omega arith) (rw (lt-ltb (q.mark % 16) 3 (omega arith)) (ap₂ Prefix (sym h) (sym n))) e

  module _ (t : ℕ) (h : t ≡ q.mark % 16) (l : 3 ≤ t) where
    pub piece_far : 14 ≤ q.mark → NoRecord ≡ piece_of q
    unfolding piece_of is_piece named
    piece_far f =
        ⊎_elim
        (λ g. sym (by_second (ltb 0 (q.mark % 16)) (leb (q.mark % 16) 13) _ _ (lt-leb (q.mark % 16) 13 (omega arith))))
        (λ g. let n : q.mark % 16 ≡ q.mark → ⊥ = λ o. omega arith in
        sym (by_last (ltb 0 (q.mark % 16)) (leb (q.mark % 16) 13) _ _ (rw (le-ltb (q.mark % 16) 3 (omega arith), ne_eqb (q.mark % 16) q.mark n))))
        (lt_or_le q.mark 16)

    pub piece_list : (b : Bool) → q.mark < 14 → eqb 0 q.c ≡ b → pick b (Operators t q.a q.b) NoRecord ≡ piece_of q
    unfolding named
    piece_list b f e =
        let k : t ≡ q.mark = omega arith in
        tested (Operators t q.a q.b) b (omega arith) (omega arith)
        (rw (le-ltb (q.mark % 16) 3 (omega arith)) (ap (λ (j : ℕ). Operators j q.a q.b) (sym h)))
        (rw (eq-eqb t q.mark k, eq-eqb q.a q.a refl, eq-eqb q.b q.b refl) e)

-- the words of an IPv4 prefix
pub ipv4_words : (q : Quad) (t : ℕ) → t ≡ q.mark % 16 → 1 ≤ t → t ≤ 2 → q.mark < 3 → q.c ≡ 0 → q.a ≤ 255 → q.b ≤ 4294967295 → Prefix t (Ipv4 q.a q.b) ≡ piece_of q
ipv4_words q t e l h m z i j =
    let k : t ≡ q.mark = omega arith in
    let n : q.mark / 16 ≡ 0 = omega arith in
    let f : q.a ≡ q.a % 256 = omega arith in
    let g : q.b ≡ q.b % 2 ^ 32 = omega arith in
    piece_prefix q true t e l h (Ipv4 q.a q.b) (rw (eq-eqb (q.mark / 16) 0 n) (ap₂ Ipv4 f g))
    (rw (eq-eqb t q.mark k, eq-eqb q.a q.a refl, eq-eqb q.b q.b refl, eq-eqb 0 q.c (sym z)))

-- a part that is written over is an overlay
pub overlay : (l xs ys : List ℕ) (at k : ℕ) → xs ≡ ys → length ys ≡ k → at + k ≤ length l → put_mid at k l xs ≡ sets l at ys
overlay l xs ys at k e n h =
    ap (put_mid at k l) e ∙ ap (λ (z : List ℕ). take at l ++ (ys ++ z)) (drop-drop k at l) ∙ ap (λ (j : ℕ). take at l ++ (ys ++ drop (at + j) l)) (sym n)
    ∙ sym (append_assoc (take at l) ys (drop (at + length ys) l)) ∙ sym (sets-eq ys l at (omega (arith, n)))

-- ---- turns of the loops

-- a turn of `all_records`
module _ (ws : List ℕ) (base count i : ℕ) where
  pub records_end : count ≤ i → records_from (count - i) ws (base + 4 * i) ≡ true
  unfolding records_from
  records_end h = let e : count - i ≡ 0 = omega arith in ap (λ (j : ℕ). records_from j ws (base + 4 * i)) e

  module _ (h : i < count) where
    records_turn : records_from (count - i) ws (base + 4 * i) ≡ (is_record (piece_at ws (base + 4 * i)) && records_from (count - (i + 1)) ws (base + 4 * (i + 1)))
    unfolding records_from
    records_turn =
        let e : count - i ≡ suc (count - (i + 1)) = omega arith in
        let f : base + 4 * i + 4 ≡ base + 4 * (i + 1) = omega arith in
        ap (λ (j : ℕ). records_from j ws (base + 4 * i)) e ∙ ap (λ (j : ℕ). is_record (piece_at ws (base + 4 * i)) && records_from (count - (i + 1)) ws j) f

    pub records_by : (t : Bool) → is_record (piece_at ws (base + 4 * i)) ≡ t → records_from (count - i) ws (base + 4 * i) ≡ (t && records_from (count - (i + 1)) ws (base + 4 * (i + 1)))
    records_by t n = records_turn ∙ ap (λ (b : Bool). b && records_from (count - (i + 1)) ws (base + 4 * (i + 1))) n

-- ---- the pieces of one place more, and how many there are
pub pieces_more : (k : ℕ) (ws : List ℕ) (at : ℕ) → pieces_from (suc k) ws at ≡ pieces_from k ws at ++ (piece_at ws (at + 4 * k) ∷ [])
unfolding pieces_from
pieces_more zero ws at = let e : at ≡ at + 4 * 0 = omega arith in ap (λ (j : ℕ). piece_at ws j ∷ []) e
pieces_more (suc k) ws at =
    let e : at + 4 + 4 * k ≡ at + 4 * suc k = omega arith in
    ap (λ (ps : List Piece). piece_at ws at ∷ ps) (pieces_more k ws (at + 4) ∙ ap (λ (j : ℕ). pieces_from k ws (at + 4) ++ (piece_at ws j ∷ [])) e)

pub length_pieces : (k : ℕ) (ws : List ℕ) (at : ℕ) → length (pieces_from k ws at) ≡ k
unfolding pieces_from
length_pieces zero ws at = refl
length_pieces (suc k) ws at = ap suc (length_pieces k ws (at + 4))

-- a walk sees the rule's pieces, one at each place
pub piece_in : (n : ℕ) (ws : List ℕ) (at k : ℕ) → k < n → piece_at ws (at + 4 * k) ≡ get_or (pieces_from n ws at) k NoRecord
unfolding pieces_from
piece_in zero ws at k h = absurd (omega arith)
piece_in (suc n) ws at zero h = let z : at + 4 * 0 ≡ at = omega arith in ap (λ (j : ℕ). piece_at ws j) z
piece_in (suc n) ws at (suc k) h =
    let z : at + 4 * suc k ≡ at + 4 + 4 * k = omega arith in
    ap (λ (j : ℕ). piece_at ws j) z ∙ piece_in n ws (at + 4) k (omega arith)

pub length_all : (ps : List Piece) → length (all_words ps) ≡ 4 * length ps
unfolding all_words
length_all [] = refl
length_all (p ∷ ps) = let h = length_all ps in omega arith

-- the stores of a rule are one
pub tail_whole : (l₀ l₁ l₂ l₃ : List ℕ) (base n family first : ℕ) → n ≤ 13 → l₁ ≡ sets l₀ (base + 4 * n) (replicate (base + 52 - (base + 4 * n)) 0)
    → l₂ ≡ sets l₁ (base + 52) (n ∷ family ∷ first ∷ 0 ∷ []) → l₃ ≡ sets l₂ (base + 56) (replicate (base + 64 - (base + 56)) 0)
    → l₃ ≡ sets l₀ (base + 4 * n) (tail_words n (head family first None))
unfolding tail_words
tail_whole l₀ l₁ l₂ l₃ base n family first h e f g =
    let z : List ℕ = replicate (52 - 4 * n) 0 in
    let y : length z ≡ 52 - 4 * n = length-replicate (52 - 4 * n) _ in
    let t : List ℕ = n ∷ family ∷ first ∷ 0 ∷ [] in
    let a : base + 52 - (base + 4 * n) ≡ 52 - 4 * n = omega arith in
    let b : base + 64 - (base + 56) ≡ 8 = omega arith in
    let k : base + 52 ≡ base + 4 * n + length z = omega arith in
    let m : base + 56 ≡ base + 52 + 4 = omega arith in
    g ∙ ap₂ (λ (l : List ℕ) (j : ℕ). sets l (base + 56) (replicate j 0)) (f ∙ ap (λ (l : List ℕ). sets l (base + 52) t) (e ∙ ap (λ (j : ℕ). sets l₀ (base + 4 * n) (replicate j 0)) a)) b
    ∙ ap (λ (j : ℕ). sets (sets (sets l₀ (base + 4 * n) z) (base + 52) t) j (replicate 8 0)) m
    ∙ sym (sets_append (sets l₀ (base + 4 * n) z) (base + 52) t (replicate 8 0))
    ∙ ap (λ (j : ℕ). sets (sets l₀ (base + 4 * n) z) j (t ++ replicate 8 0)) k
    ∙ sym (sets_append l₀ (base + 4 * n) z (t ++ replicate 8 0))

pub rule_whole : (l₀ l₁ l₂ : List ℕ) (base n : ℕ) (h : Head) (ps : List Piece) → length ps ≡ n → l₁ ≡ sets l₀ base (all_words ps)
    → l₂ ≡ sets l₁ (base + 4 * n) (tail_words n h) → l₂ ≡ sets l₀ base (rule_words ps h)
unfolding rule_words
rule_whole l₀ l₁ l₂ base n h ps m e f =
    let k : base + 4 * n ≡ base + length (all_words ps) = omega (arith, length_all ps) in
    f ∙ ap₂ (λ (l : List ℕ) (j : ℕ). sets l j (tail_words n h)) e k
    ∙ sym (sets_append l₀ base (all_words ps) (tail_words n h))
    ∙ ap (λ (j : ℕ). sets l₀ base (all_words ps ++ tail_words j h)) (sym m)

-- a distinguisher put over a rule without one
pub rule_distinguished : (ws : List ℕ) (base family first : ℕ) (ps : List Piece) → length ps ≤ 13 → (d : Option ℕ)
    → distinguished_with d (sets ws base (rule_words ps (head family first None))) base ≡ sets ws base (rule_words ps (head family first d))
unfolding rule_words tail_words
rule_distinguished ws base family first ps few None = refl
rule_distinguished ws base family first ps few (Some n) =
    let z : List ℕ = replicate (52 - 4 * length ps) 0 in
    let y : length z ≡ 52 - 4 * length ps = length-replicate (52 - 4 * length ps) _ in
    let t : List ℕ = length ps ∷ family ∷ first ∷ [] in
    let l : List ℕ = all_words ps ++ (z ++ t) in
    let k : length l ≡ 55 = length-append (all_words ps) (z ++ t) ∙ ap₂ ◌+◌ (length_all ps) (length-append z t) ∙ omega arith in
    let split : (x : List ℕ) → all_words ps ++ (z ++ (t ++ x)) ≡ l ++ x = λ x.
    ap (λ (a : List ℕ). all_words ps ++ a) (sym (append_assoc z t x)) ∙ sym (append_assoc (all_words ps) (z ++ t) x) in
    let there : (x : List ℕ) → sets ws base (all_words ps ++ (z ++ (t ++ x))) ≡ sets (sets ws base l) (base + 55) x = λ x.
    ap (sets ws base) (split x) ∙ sets_append ws base l x ∙ ap (λ (j : ℕ). sets (sets ws base l) (base + j) x) k in
    ap (λ (a : List ℕ). sets a (base + 55) (1 ∷ n ∷ [])) (there (0 ∷ 0 ∷ replicate 7 0))
    ∙ sets_again (sets ws base l) (0 ∷ 0 ∷ []) (1 ∷ n ∷ []) (replicate 7 0) (base + 55) refl
    ∙ sym (there (1 ∷ n ∷ replicate 7 0))

-- the ways that `rule_at` goes
module _ (ws : List ℕ) (place : ℕ) where
  pub at_outside : length ws / 64 ≤ place → rule_at ws place ≡ refuses 10 []
  unfolding rule_at
  at_outside h = rw (le-leb (length ws / 64) place h)

  module _ (h : place < length ws / 64) where
    pub at_bad : is_rule ws (64 * place) ≡ false → rule_at ws place ≡ refuses 10 []
    unfolding rule_at
    at_bad e = rw (lt-leb (length ws / 64) place h, e)

    pub at_good : is_rule ws (64 * place) ≡ true → rule_at ws place ≡ accepts (stored_at ws (64 * place))
    unfolding rule_at
    at_good e = rw (lt-leb (length ws / 64) place h, e)

-- ---- what is tested of a rule's words, and what they show
module _ (ws : List ℕ) (at : ℕ) where
  frame_by : count_at ws at ≤ 13 → family_at ws at ≤ 255
      → is_framed ws at ≡ (is_distinguisher ws at && (zeros_from (52 - 4 * count_at ws at) ws (at + 4 * count_at ws at) && zeros_from 7 ws (at + 57)))
  unfolding is_framed
  frame_by h k = let l : family_at ws at < 256 = omega arith in rw (le-leb (count_at ws at) 13 h, lt-ltb (family_at ws at) 256 l)

  unused : (n : ℕ) → zeros_from (at + 52 - (at + 4 * n)) ws (at + 4 * n) ≡ zeros_from (52 - 4 * n) ws (at + 4 * n)
  unused n = let e : at + 52 - (at + 4 * n) ≡ 52 - 4 * n = omega arith in ap (λ (j : ℕ). zeros_from j ws (at + 4 * n)) e

  -- by the bits of all words that nothing stands in
  pub frame_joined : count_at ws at ≤ 13 → family_at ws at ≤ 255 → (a b : ℕ)
      → zeros_from (at + 52 - (at + 4 * count_at ws at)) ws (at + 4 * count_at ws at) ≡ eqb a 0 → zeros_from 7 ws (at + 57) ≡ eqb b 0
      → is_framed ws at ≡ (is_distinguisher ws at && eqb (bit_or a b) 0)
  frame_joined h k a b e f =
      frame_by h k ∙ ap₂ (λ (x y : Bool). is_distinguisher ws at && (x && y)) (sym (unused (count_at ws at)) ∙ e) f ∙ ap (λ (x : Bool). is_distinguisher ws at && x) (sym (or_none a b))

  -- the ways that it goes: all of them are 0, one is not, or the words of a distinguisher decide
  module _ (sum : ℕ) (is : is_framed ws at ≡ (is_distinguisher ws at && eqb sum 0)) where
    pub frame_absent : bit_or (bit_or sum (get_or ws (at + 55) 0)) (get_or ws (at + 56) 0) ≡ 0 → true ≡ is_framed ws at
    frame_absent h =
        let a = none_of (bit_or sum (get_or ws (at + 55) 0)) (get_or ws (at + 56) 0) h in
        let b = none_of sum (get_or ws (at + 55) 0) a.0 in
        sym (is ∙ rw (eq-eqb sum 0 b.0, sym (test_absent ws at b.1), eq-eqb (get_or ws (at + 56) 0) 0 a.1))

    pub frame_filled : (sum ≡ 0 → ⊥) → false ≡ is_framed ws at
    frame_filled h = sym (is ∙ rw (ne_eqb sum 0 h) (and-false (is_distinguisher ws at)))

    pub frame_told : sum ≡ 0 → is_distinguisher ws at ≡ is_framed ws at
    frame_told h = sym (is ∙ rw (eq-eqb sum 0 h) (and-true (is_distinguisher ws at)))

  pub many : 13 < count_at ws at → is_framed ws at ≡ false
  unfolding is_framed
  many h = rw (lt-leb (count_at ws at) 13 h)

  pub no_family : count_at ws at ≤ 13 → 255 < family_at ws at → is_framed ws at ≡ false
  unfolding is_framed
  no_family h k = let l : 256 ≤ family_at ws at = omega arith in rw (le-leb (count_at ws at) 13 h, le-ltb (family_at ws at) 256 l)

  pub record Framed : Type 0 where
    pub few : count_at ws at ≤ 13
    pub family : family_at ws at < 256
    pub distinguisher : is_distinguisher ws at ≡ true
    pub unused : zeros_from (52 - 4 * count_at ws at) ws (at + 4 * count_at ws at) ≡ true
    pub last : zeros_from 7 ws (at + 57) ≡ true

  pub framed : is_framed ws at ≡ true → Framed
  unfolding is_framed
  framed e =
      let a = both (leb (count_at ws at) 13) _ e in
      let b = both (ltb (family_at ws at) 256) _ a.1 in
      let c = both (is_distinguisher ws at) _ b.1 in
      let d = both (zeros_from (52 - 4 * count_at ws at) ws (at + 4 * count_at ws at)) _ c.1 in
      record { few = leb-true (count_at ws at) 13 a.0; family = ltb-true (family_at ws at) 256 b.0; distinguisher = c.0; unused = d.0; last = d.1 }

  -- a rule is framed, and each of its places is a piece
  pub rule_framed : is_rule ws at ≡ true → is_framed ws at ≡ true
  unfolding is_rule
  rule_framed e = (both (is_framed ws at) (records_from (count_at ws at) ws at) e).0

  pub rule_records : is_rule ws at ≡ true → records_from (count_at ws at) ws at ≡ true
  unfolding is_rule
  rule_records e = (both (is_framed ws at) (records_from (count_at ws at) ws at) e).1

  pub by_records : is_framed ws at ≡ true → is_rule ws at ≡ records_from (count_at ws at) ws at
  unfolding is_rule
  by_records e = rw e

  pub no_frame : is_framed ws at ≡ false → is_rule ws at ≡ false
  unfolding is_rule
  no_frame e = rw e
