-- A component as a piece: its type, with its prefix or the places of its operators; and its four words in a stored rule. Four words are a piece if
-- writing what they name gives them back. This is what the walks over a rule see: reading, writing, matching and ranking take a component apart nowhere else.
use Rattle.std.specs.Prelude.{ℕ, ◌+◌, ◌*◌, ◌/◌, ◌%◌, ◌^◌, List, [], ◌∷◌, Bool, true, false, ◌&&◌, get_or, ltb, leb, eqb}
use Rattle.ground.specs.Picks.{pick}
use Rattle.rules.specs.declared.NetworkPrefix.{NetworkPrefix}
use Rattle.rules.specs.declared.NetworkPrefix.TheVariants.{Ipv4, Ipv6, Ipv4Offset, Ipv6Offset}
use Rattle.stored.specs.declared.Piece.{Piece}
use Rattle.stored.specs.declared.Piece.TheVariants.{Prefix, Operators, NoRecord}
use Rattle.stored.specs.declared.Quad.{Quad}

-- "Each component starts with a type octet"
abbrev pub type_of : Piece → ℕ
type_of (Prefix t p) = t
type_of (Operators t start count) = t
type_of NoRecord = 0

abbrev pub is_record : Piece → Bool
is_record (Prefix t p) = true
is_record (Operators t start count) = true
is_record NoRecord = false

-- ---- the words of a piece

abbrev pub quad : ℕ → ℕ → ℕ → ℕ → Quad
quad mark a b c = record { mark = mark; a = a; b = b; c = c }

-- a prefix: its type and 16 times its form; its length and 256 times its offset; its address
abbrev pub prefix_quad : ℕ → NetworkPrefix → Quad
prefix_quad t (Ipv4 len a) = quad t len a 0
prefix_quad t (Ipv6 len h l) = quad (t + 16) len h l
prefix_quad t (Ipv4Offset len off a) = quad (t + 32) (len + 256 * off) a 0
prefix_quad t (Ipv6Offset len off h l) = quad (t + 48) (len + 256 * off) h l

-- a list: its type, start and count
abbrev pub quad_of : Piece → Quad
quad_of (Prefix t p) = prefix_quad t p
quad_of (Operators t start count) = quad t start count 0
quad_of NoRecord = quad 0 0 0 0

abbrev pub quad_words : Quad → List ℕ
quad_words q = q.mark ∷ q.a ∷ q.b ∷ q.c ∷ []

abbrev pub piece_words : Piece → List ℕ
piece_words p = quad_words (quad_of p)

-- ---- the piece of four words

-- what they name: each word is cut to the width of what it names
abbrev pub network_of : ℕ → ℕ → ℕ → ℕ → NetworkPrefix
network_of form a b c =
    pick (eqb form 0) (Ipv4 (a % 256) (b % 2 ^ 32))
    (pick (eqb form 1) (Ipv6 (a % 256) b c)
    (pick (eqb form 2) (Ipv4Offset (a % 256) (a / 256 % 256) (b % 2 ^ 32)) (Ipv6Offset (a % 256) (a / 256 % 256) b c)))

-- "Types 1 and 2 are prefixes", the others lists
unfoldable pub named : Quad → Piece
named q =
    pick (ltb (q.mark % 16) 3) (Prefix (q.mark % 16) (network_of (q.mark / 16) q.a q.b q.c))
    (Operators (q.mark % 16) q.a q.b)

abbrev pub same_quad : Quad → Quad → Bool
same_quad x y = eqb x.mark y.mark && (eqb x.a y.a && (eqb x.b y.b && eqb x.c y.c))

-- a type from 1 to 13, and the very words of what they name
unfoldable pub is_piece : Quad → Bool
is_piece q = ltb 0 (q.mark % 16) && (leb (q.mark % 16) 13 && same_quad (quad_of (named q)) q)

unfoldable pub piece_of : Quad → Piece
piece_of q = pick (is_piece q) (named q) NoRecord

abbrev pub quad_at : List ℕ → ℕ → Quad
quad_at ws at = quad (get_or ws at 0) (get_or ws (at + 1) 0) (get_or ws (at + 2) 0) (get_or ws (at + 3) 0)

unfoldable pub piece_at : List ℕ → ℕ → Piece
piece_at ws at = piece_of (quad_at ws at)
