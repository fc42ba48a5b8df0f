-- Ranking is an order on rules, whatever they hold: of two exactly one of precedes, equal, is preceded; it carries through a third; and two rank equal
-- exactly where their components are alike: equal types, equal octets of lists, equal prefixes up to the bits past their lengths, of which a
-- well-formed prefix has none.
use Prim.Native.Nat.{ℕ, suc, ◌-◌, ◌*◌, ◌/◌, ◌%◌, ◌^◌, ◌≤◌, ◌<◌, min}
use mathlib.Core.Path.{◌≡◌, refl, sym, ◌∙◌, ap, ap₂}
use mathlib.Core.Bool.{Bool, true, false, ◌&&◌, false≢true}
use mathlib.Core.List.{List, [], ◌∷◌}
use native.Mathlib.Nat.{min-eq_left}
use native.Mathlib.Omega.{arith}
use lib.Dec.{ltb}
use lib.ListN.{length, take}
use lib.Pow.{high, low}
use Rattle.std.specs.Cmp.{IsTotalOrder}
use Rattle.std.specs.Ordering.{ordering_reverse}
use Rattle.ground.proofs.Cases.{by_test, both}
use Rattle.wide.specs.Numbers.{wide}
use Rattle.octets.specs.Addresses.{first_bits}
use Rattle.rules.specs.declared.NetworkPrefix.TheVariants.{Ipv4, Ipv6Offset}
use Rattle.stored.specs.declared.Piece.{Piece}
use Rattle.stored.specs.declared.Piece.TheVariants.{Prefix, Operators, NoRecord}
use Rattle.stored.specs.declared.Quad.{Quad}
use Rattle.stored.specs.Pieces.{type_of, named, is_piece, piece_of, piece_at, quad_at}
use Rattle.stored.specs.Stored.{StoredRule}
use Rattle.ranking.specs.declared.Front.{Front}
use Rattle.ranking.specs.Ranks.{Ordering, Precedes, Equal, Follows, is_before, lower, then_by, in_turn, rank_octets, leading_bits, front_of, rank_front, rank_prefix, Content, prefixed, listed, Compared, rank_content, rank_compared, rank, all_compared, rank_of}
use Rattle.ranking.proofs.Orders.{never, way, low_below, low_equal, low_above, low_suc, equal_same, then_assoc, then_first, then_second, by_key}
use Rattle.ranking.proofs.LeadingBits.{first_ipv4}
use Rattle.ranking.proofs.Keys.{rank_ordered}

-- ---- what every order has

-- one way round and the other: the first precedes, neither does, or the second precedes
pub data One (o p : Ordering) : Type 0 where
  first : o ≡ Precedes → p ≡ Follows → One o p
  neither : o ≡ Equal → p ≡ Equal → One o p
  second : o ≡ Follows → p ≡ Precedes → One o p

module _ {A : Type 0} (by : A → A → Ordering) (o : IsTotalOrder by) where
  one' : (x y : A) (q : Ordering) → by x y ≡ q → One (by x y) (by y x)
  one' x y Precedes e = first e (o.antisymm y x ∙ ap ordering_reverse e)
  one' x y Equal e = neither e (o.antisymm y x ∙ ap ordering_reverse e)
  one' x y Follows e = second e (o.antisymm y x ∙ ap ordering_reverse e)

  pub exactly_one : (x y : A) → One (by x y) (by y x)
  exactly_one x y = one' x y (by x y) refl

  -- what precedes z precedes all that do not
  over' : (x y z : A) (q : Ordering) → by x z ≡ Precedes → by y z ≡ q → (q ≡ Precedes → ⊥) → by x y ≡ Precedes
  over' x y z Precedes e f n = absurd (n refl)
  over' x y z Equal e f n = o.antisymm x y ∙ ap ordering_reverse (o.congr y z x f) ∙ sym (o.antisymm x z) ∙ e
  over' x y z Follows e f n = o.trans x z y e (o.antisymm z y ∙ ap ordering_reverse f)

  pub over : (x y z : A) → by x z ≡ Precedes → (by y z ≡ Precedes → ⊥) → by x y ≡ Precedes
  over x y z e n = over' x y z (by y z) e refl n

  pub preceded : (x y : A) → by x y ≡ Precedes → by y x ≡ Follows
  preceded x y e = o.antisymm y x ∙ ap ordering_reverse e

-- what the test for precedes says
pub before_is : (q : Ordering) → is_before q ≡ true → q ≡ Precedes
before_is Precedes e = refl
before_is Equal e = absurd (false≢true e)
before_is Follows e = absurd (false≢true e)

-- ---- rules, each with the lent lists that hold its operators

pub record Ruled : Type 0 where
  pub values : List ℕ
  pub octets : List ℕ
  pub rule : StoredRule

abbrev pub ranked : Ruled → Ruled → Ordering
ranked a b = rank_of a.values a.octets a.rule b.values b.octets b.rule

pub rules_ordered : IsTotalOrder ranked
unfolding rank_of
rules_ordered = by_key ranked (in_turn rank_compared) (λ (a : Ruled). all_compared a.values a.octets a.rule) rank_ordered (λ x y. refl)

pub one_of_three : (a b : Ruled) → One (ranked a b) (ranked b a)
one_of_three a b = exactly_one ranked rules_ordered a b

pub through : (a b c : Ruled) → ranked a b ≡ Precedes → ranked b c ≡ Precedes → ranked a c ≡ Precedes
through a b c = rules_ordered.trans a b c

-- ---- the document's words

-- octets "up to the shorter; lower precedes; then the longer": each cut to the other's length, then the lengths
pub in_words : (xs ys : List ℕ) → rank_octets xs ys ≡ then_by (rank_octets (take (length ys) xs) (take (length xs) ys)) (lower (length ys) (length xs))
unfolding in_turn
in_words [] [] = sym (low_equal 0 0 refl)
in_words [] (y ∷ ys) = sym (low_above (suc (length ys)) 0 (omega arith))
in_words (x ∷ xs) [] = sym (low_below 0 (suc (length xs)) (omega arith))
in_words (x ∷ xs) (y ∷ ys) =
    ap (λ (o : Ordering). then_by (lower x y) o) (in_words xs ys ∙ ap (λ (o : Ordering). then_by (rank_octets (take (length ys) xs) (take (length xs) ys)) o) (sym (low_suc (length ys) (length xs) (way _ _))))
    ∙ sym (then_assoc (lower x y) (rank_octets (take (length ys) xs) (take (length xs) ys)) (lower (suc (length ys)) (suc (length xs))))

-- "Types 1 and 2 are prefixes": of one type two components are both prefixes or both lists
abbrev pub is_prefix : Piece → Bool
is_prefix (Prefix t p) = true
is_prefix (Operators t start n) = false
is_prefix NoRecord = false

from_one : (q : Quad) → is_piece q ≡ true → ltb 0 (q.mark % 16) ≡ true
unfolding is_piece
from_one q e = (both (ltb 0 (q.mark % 16)) _ e).0

pub by_type : (q : Quad) → is_prefix (piece_of q) ≡ (ltb 0 (type_of (piece_of q)) && ltb (type_of (piece_of q)) 3)
unfolding piece_of named
by_type q =
    by_test (is_piece q)
    (λ e. by_test (ltb (q.mark % 16) 3) (λ f. rw (e, f, from_one q e, f)) (λ f. rw (e, f, from_one q e, f)))
    (λ e. rw e)

pub never_mixed : (ws : List ℕ) (at : ℕ) (ws2 : List ℕ) (at2 : ℕ) → type_of (piece_at ws at) ≡ type_of (piece_at ws2 at2) → is_prefix (piece_at ws at) ≡ is_prefix (piece_at ws2 at2)
unfolding piece_at
never_mixed ws at ws2 at2 e = by_type (quad_at ws at) ∙ ap (λ (t : ℕ). ltb 0 t && ltb t 3) e ∙ sym (by_type (quad_at ws2 at2))

-- "10.0.0.0/8 precedes 11.0.0.0/16"; 10.1.0.0/16 precedes 10.0.0.0/8; two operators precede one alone, whose octet has the end mark
pub worked : (rank_prefix (Ipv4 8 167772160) (Ipv4 16 184549376) ≡ Precedes) × (rank_prefix (Ipv4 16 167837696) (Ipv4 8 167772160) ≡ Precedes) × (rank_octets (1 ∷ 80 ∷ 129 ∷ 90 ∷ []) (129 ∷ 80 ∷ []) ≡ Precedes)
unfolding rank_front in_turn
worked = (refl, refl, refl)

-- ---- equal rank

abbrev pub Alike : Content → Content → Type 0
Alike (prefixed p) (prefixed q) =
    ((front_of p).offset ≡ (front_of q).offset) × ((front_of p).length ≡ (front_of q).length) × (leading_bits (front_of p).length (front_of p).address ≡ leading_bits (front_of q).length (front_of q).address)
Alike (prefixed p) (listed ys) = ⊥
Alike (listed xs) (prefixed q) = ⊥
Alike (listed xs) (listed ys) = xs ≡ ys

abbrev pub AllAlike : List Compared → List Compared → Type 0
AllAlike [] [] = Unit {0}
AllAlike [] (q ∷ qs) = ⊥
AllAlike (p ∷ ps) [] = ⊥
AllAlike (p ∷ ps) (q ∷ qs) = (p.tag ≡ q.tag) × Alike p.content q.content × AllAlike ps qs

pub same_octets : (xs ys : List ℕ) → rank_octets xs ys ≡ Equal → xs ≡ ys
unfolding in_turn
same_octets [] [] e = refl
same_octets [] (y ∷ ys) e = never (cc)
same_octets (x ∷ xs) [] e = never (cc)
same_octets (x ∷ xs) (y ∷ ys) e =
    ap₂ (λ (a : ℕ) (l : List ℕ). a ∷ l) (equal_same x y (then_first (lower x y) (rank_octets xs ys) e)) (same_octets xs ys (then_second (lower x y) (rank_octets xs ys) e))

pub octets_same : (xs : List ℕ) → rank_octets xs xs ≡ Equal
unfolding in_turn
octets_same [] = refl
octets_same (x ∷ xs) = rw (low_equal x x refl) (octets_same xs)

alike_prefix : (f g : Front) → rank_front f g ≡ Equal
    → (f.offset ≡ g.offset) × (f.length ≡ g.length) × (leading_bits f.length f.address ≡ leading_bits g.length g.address)
unfolding rank_front
alike_prefix f g e =
    let n = min f.length g.length in
    let o = lower f.offset g.offset in
    let b = lower (leading_bits n f.address) (leading_bits n g.address) in
    let l = lower g.length f.length in
    let t = then_second o (then_by b l) e in
    let len : f.length ≡ g.length = sym (equal_same g.length f.length (then_second b l t)) in
    let m : n ≡ f.length = min-eq_left (omega arith) in (
      equal_same f.offset g.offset (then_first o (then_by b l) e),
      len,
      sym (ap (λ (k : ℕ). leading_bits k f.address) m) ∙ equal_same _ _ (then_first b l t) ∙ ap (λ (k : ℕ). leading_bits k g.address) (m ∙ len),
    )

pub equal_length : (f g : Front) → rank_front f g ≡ Equal → f.length ≡ g.length
equal_length f g e = (alike_prefix f g e).1

alike_content : (c d : Content) → rank_content c d ≡ Equal → Alike c d
alike_content (prefixed p) (prefixed q) e = alike_prefix (front_of p) (front_of q) e
alike_content (prefixed p) (listed ys) e = never (cc)
alike_content (listed xs) (prefixed q) e = never (cc)
alike_content (listed xs) (listed ys) e = same_octets xs ys e

pub equal_alike : (ps qs : List Compared) → rank ps qs ≡ Equal → AllAlike ps qs
unfolding in_turn rank_compared
equal_alike [] [] e = tt
equal_alike [] (q ∷ qs) e = never (cc)
equal_alike (p ∷ ps) [] e = never (cc)
equal_alike (p ∷ ps) (q ∷ qs) e =
    let t = lower p.tag q.tag in
    let c = rank_content p.content q.content in
    let h = then_first (then_by t c) (rank ps qs) e in
    (equal_same p.tag q.tag (then_first t c h), alike_content p.content q.content (then_second t c h), equal_alike ps qs (then_second (then_by t c) (rank ps qs) e))

pub equal_rules : (a b : Ruled) → ranked a b ≡ Equal → AllAlike (all_compared a.values a.octets a.rule) (all_compared b.values b.octets b.rule)
unfolding rank_of
equal_rules a b e = equal_alike (all_compared a.values a.octets a.rule) (all_compared b.values b.octets b.rule) e

-- and the other way
prefix_alike : (f g : Front) → f.offset ≡ g.offset → f.length ≡ g.length → leading_bits f.length f.address ≡ leading_bits g.length g.address → rank_front f g ≡ Equal
unfolding rank_front
prefix_alike f g o l b =
    let m : min f.length g.length ≡ f.length = min-eq_left (omega arith) in
    let b' : leading_bits f.length f.address ≡ leading_bits f.length g.address = b ∙ ap (λ (k : ℕ). leading_bits k g.address) (sym l) in
    rw (m, low_equal f.offset g.offset o, low_equal _ _ b', low_equal g.length f.length (sym l))

content_alike : (c d : Content) → Alike c d → rank_content c d ≡ Equal
content_alike (prefixed p) (prefixed q) a = prefix_alike (front_of p) (front_of q) a.0 a.1 a.2
content_alike (prefixed p) (listed ys) a = absurd a
content_alike (listed xs) (prefixed q) a = absurd a
content_alike (listed xs) (listed ys) a = ap (λ (l : List ℕ). rank_octets xs l) (sym a) ∙ octets_same xs

pub alike_equal : (ps qs : List Compared) → AllAlike ps qs → rank ps qs ≡ Equal
unfolding in_turn rank_compared
alike_equal [] [] a = refl
alike_equal [] (q ∷ qs) a = absurd a
alike_equal (p ∷ ps) [] a = absurd a
alike_equal (p ∷ ps) (q ∷ qs) a =
    rw (low_equal p.tag q.tag a.0, content_alike p.content q.content a.1) (alike_equal ps qs a.2)

-- ---- well-formed prefixes: no bits past the length, so that equal rank is the same prefix

whole : (width len len2 a b : ℕ) → len ≡ len2 → first_bits width len a ≡ a → first_bits width len2 b ≡ b → a / 2 ^ (width - len) ≡ b / 2 ^ (width - len2) → a ≡ b
whole width len len2 a b l p q e = sym p ∙ ap₂ (λ (x k : ℕ). x * 2 ^ (width - k)) e l ∙ q

pub same_ipv4 : (len a len2 b : ℕ) → len ≤ 32 → first_bits 32 len a ≡ a → first_bits 32 len2 b ≡ b → rank_prefix (Ipv4 len a) (Ipv4 len2 b) ≡ Equal → Ipv4 len a ≡ Ipv4 len2 b
same_ipv4 len a len2 b h p q e =
    let f = alike_prefix (front_of (Ipv4 len a)) (front_of (Ipv4 len2 b)) e in
    let l : len ≡ len2 = f.1 in
    ap₂ Ipv4 l (whole 32 len len2 a b l p q (sym (first_ipv4 a len h) ∙ f.2 ∙ first_ipv4 b len2 (omega arith)))

pub same_ipv6 : (len off h l len2 off2 h2 l2 : ℕ) → l < 2 ^ 64 → l2 < 2 ^ 64 → first_bits 128 len (wide h l) ≡ wide h l → first_bits 128 len2 (wide h2 l2) ≡ wide h2 l2
    → rank_prefix (Ipv6Offset len off h l) (Ipv6Offset len2 off2 h2 l2) ≡ Equal → Ipv6Offset len off h l ≡ Ipv6Offset len2 off2 h2 l2
same_ipv6 len off h l len2 off2 h2 l2 b b2 p q e =
    let f = alike_prefix (front_of (Ipv6Offset len off h l)) (front_of (Ipv6Offset len2 off2 h2 l2)) e in
    let w : wide h l ≡ wide h2 l2 = whole 128 len len2 (wide h l) (wide h2 l2) f.1 p q f.2 in
    let x : h ≡ h2 = sym (high h 64 b) ∙ ap (λ (n : ℕ). n / 2 ^ 64) w ∙ high h2 64 b2 in
    let y : l ≡ l2 = sym (low h 64 b) ∙ ap (λ (n : ℕ). n % 2 ^ 64) w ∙ low h2 64 b2 in
    let o : off ≡ off2 = f.0 in
    let n : len ≡ len2 = f.1 in
    cc
