-- Which of two rules precedes: document 01, "Matching and ranking"; RFC 8955, 5.1; RFC 8956, 4. `rank_of` is the definition. It is an order on
-- any rules whatever, well-formed or not: `Laws` in proofs/ says so.
use Rattle.std.specs.Prelude.{ℕ, ◌+◌, ◌-◌, ◌*◌, ◌/◌, ◌%◌, ◌^◌, ◌≤◌, min, ◌≡◌, Bool, true, List, [], ◌∷◌, map, length}
use Rattle.std.specs.Ordering.{nat_cmp, ordering_then, is_lt}
-- The RFC's words: the first of two precedes, ranks equal or follows.
pub use Rattle.std.specs.declared.cmp.Ordering.{Ordering}
pub use Rattle.std.specs.declared.cmp.Ordering.TheVariants.{Less as Precedes, Equal, Greater as Follows}
use Rattle.wide.specs.Numbers.{wide}
use Rattle.octets.specs.Widths.{width_of}
use Rattle.operators.specs.declared.Kind.{Kind}
use Rattle.operators.specs.Ops.{kind_of, cleared_in, Op, ops_in, list_octets}
use Rattle.rules.specs.declared.NetworkPrefix.{NetworkPrefix}
use Rattle.rules.specs.declared.NetworkPrefix.TheVariants.{Ipv4, Ipv6, Ipv4Offset, Ipv6Offset}
use Rattle.stored.specs.declared.Piece.{Piece}
use Rattle.stored.specs.declared.Piece.TheVariants.{Prefix, Operators, NoRecord}
use Rattle.stored.specs.Pieces.{piece_at}
use Rattle.stored.specs.Stored.{StoredRule, is_rule, stored_at}
use Rattle.ranking.specs.declared.Front.{Front}
use Rattle.ranking.specs.declared.Component.{Component}

-- "lower precedes": what `cmp` answers
abbrev pub lower : ℕ → ℕ → Ordering
lower x y = nat_cmp x y

-- "then": what comes next counts where the first tells nothing
abbrev pub then_by : Ordering → Ordering → Ordering
then_by first next = ordering_then first next

-- "compared in turn", "up to the shorter; .. then the longer"
unfoldable pub in_turn : {A : Type 0} → (A → A → Ordering) → List A → List A → Ordering
in_turn by [] [] = Equal
in_turn by [] (y ∷ ys) = Follows
in_turn by (x ∷ xs) [] = Precedes
in_turn by (x ∷ xs) (y ∷ ys) = then_by (by x y) (in_turn by xs ys)

-- ---- prefixes

-- r is how many of k bits two numbers share from the front: the first n are the same exactly for n up to r
pub record Shares (k a b r : ℕ) : Type 0 where
  pub within : r ≤ k
  pub same : (n : ℕ) → n ≤ r → a / 2 ^ (k - n) ≡ b / 2 ^ (k - n)
  pub only : (n : ℕ) → n ≤ k → a / 2 ^ (k - n) ≡ b / 2 ^ (k - n) → n ≤ r

-- the first n of 128 bits
abbrev pub leading_bits : ℕ → ℕ → ℕ
leading_bits n a = a / 2 ^ (128 - n)

-- bits count from the front of the address, so that an IPv4 address is the first 32 of the 128; a form without an offset has offset 0
abbrev pub front : ℕ → ℕ → ℕ → Front
front off len a = record { offset = off; length = len; address = a }

abbrev pub front_of : NetworkPrefix → Front
front_of (Ipv4 len a) = front 0 len (a * 2 ^ 96)
front_of (Ipv6 len h l) = front 0 len (wide h l)
front_of (Ipv4Offset len off a) = front off len (a * 2 ^ 96)
front_of (Ipv6Offset len off h l) = front off len (wide h l)

-- "Prefixes: IPv6 lower offset precedes; then the bits up to the shorter length, lower precedes; then the longer length."
abbrev pub rank_bits : ℕ → Front → Front → Ordering
rank_bits n f g = lower (leading_bits n f.address) (leading_bits n g.address)

unfoldable pub rank_front : Front → Front → Ordering
rank_front f g = then_by (lower f.offset g.offset) (then_by (rank_bits (min f.length g.length) f g) (lower g.length f.length))

abbrev pub rank_prefix : NetworkPrefix → NetworkPrefix → Ordering
rank_prefix p q = rank_front (front_of p) (front_of q)

-- ---- lists

-- "Lists: octets as the standard writing gives them, up to the shorter; lower precedes; then the longer."
abbrev pub rank_octets : List ℕ → List ℕ → Ordering
rank_octets xs ys = in_turn lower xs ys

-- one operator of each, with no octets made: `operators_in_turn` in proofs/ has the law
abbrev pub cut_to : ℕ → ℕ → ℕ
cut_to octet value = value % 2 ^ (8 * width_of octet)

unfoldable pub rank_op : Kind → Op → Op → Ordering
rank_op kind a b =
    then_by (lower (cleared_in kind a.octet) (cleared_in kind b.octet)) (lower (cut_to a.octet a.value) (cut_to b.octet b.value))

-- ---- rules

-- what is compared of a component: its type, then its prefix or the octets of its list
pub data Content : Type 0 where
  prefixed : NetworkPrefix → Content
  listed : List ℕ → Content

pub record Compared : Type 0 where
  pub tag : ℕ
  pub content : Content

abbrev pub compared : ℕ → Content → Compared
compared tag content = record { tag = tag; content = content }

-- a list of operators
abbrev pub compared_list : ℕ → List Op → Compared
compared_list tag os = compared tag (listed (list_octets (kind_of tag) os))

-- a component of a rule whose operators are in the lent lists from a place on; no rule has a NoRecord
abbrev pub compared_of : List ℕ → List ℕ → ℕ → Piece → Compared
compared_of values octets first (Prefix tag p) = compared tag (prefixed p)
compared_of values octets first (Operators tag start n) = compared_list tag (ops_in values octets (first + start) n)
compared_of values octets first NoRecord = compared 0 (listed [])

-- a prefix and a list are never of one type (`never_mixed` in proofs/); the prefix precedes, so that any two are in an order
abbrev pub rank_content : Content → Content → Ordering
rank_content (prefixed p) (prefixed q) = rank_prefix p q
rank_content (prefixed p) (listed ys) = Precedes
rank_content (listed xs) (prefixed q) = Follows
rank_content (listed xs) (listed ys) = rank_octets xs ys

-- "components are compared in turn; lower type precedes, and an ended rule counts as a type above all"
unfoldable pub rank_compared : Compared → Compared → Ordering
rank_compared a b = then_by (lower a.tag b.tag) (rank_content a.content b.content)

abbrev pub rank : List Compared → List Compared → Ordering
rank xs ys = in_turn rank_compared xs ys

-- a stored rule, its operators in the lent lists from its first place on
abbrev pub all_compared : List ℕ → List ℕ → StoredRule → List Compared
all_compared values octets r = map (compared_of values octets r.head.first) r.pieces

unfoldable pub rank_of : List ℕ → List ℕ → StoredRule → List ℕ → List ℕ → StoredRule → Ordering
rank_of values octets r values2 octets2 s = rank (all_compared values octets r) (all_compared values2 octets2 s)

abbrev pub is_before : Ordering → Bool
is_before order = is_lt order

-- ---- what is tested before rules are ranked: 64 words that are a rule, and operators within the lent lists

abbrev pub Inside : ℕ → ℕ → ℕ → Piece → Type 0
Inside values octets first (Prefix tag p) = Unit {0}
Inside values octets first (Operators tag start n) = (first + start + n ≤ values) × (first + start + n ≤ octets)
Inside values octets first NoRecord = ⊥

-- a component where it stands: what is compared of it; its words are there, and its operators are within the lent lists
abbrev pub compared_at : Component → Compared
compared_at c = compared_of c.values.now c.octets.now c.first (piece_at c.words.now c.at)

abbrev pub Within : Component → Type 0
Within c = (c.at + 4 ≤ length c.words.now) × Inside (length c.values.now) (length c.octets.now) c.first (piece_at c.words.now c.at)

abbrev pub AllInside : ℕ → ℕ → ℕ → List Piece → Type 0
AllInside values octets first [] = Unit {0}
AllInside values octets first (p ∷ ps) = Inside values octets first p × AllInside values octets first ps

pub record Rankable (words : List ℕ) (at : ℕ) (values octets : List ℕ) : Type 0 where
  pub whole : at + 64 ≤ length words
  pub rule : is_rule words at ≡ true
  pub inside : AllInside (length values) (length octets) (stored_at words at).head.first (stored_at words at).pieces
