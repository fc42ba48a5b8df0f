-- A rule in 64 words of a lent list: thirteen places of four words for the components, then the count, the family, the first place, the distinguisher's
-- two words and seven words 0.
-- Words are a rule if they are framed so, with 0 wherever nothing stands, and each place within the count is a piece. Nothing outside this crate knows
-- which word holds what.
use Rattle.std.specs.Prelude.{Option, ℕ, zero, suc, ◌+◌, ◌-◌, ◌*◌, ◌/◌, List, [], ◌∷◌, ◌++◌, Bool, true, ◌&&◌, length, get_or, replicate, ltb, leb, eqb}
use Rattle.ground.specs.Answers.{Answer, accepts, refuses}
use Rattle.ground.specs.Picks.{pick}
use Rattle.stored.specs.declared.Piece.{Piece}
use Rattle.stored.specs.Pieces.{is_record, piece_words, piece_at}
use Rattle.stored.specs.Distinguishers.{presence_word, bits_word, distinguisher_at, is_distinguisher}

-- what a rule says beside its components: its family, the place in the lent lists where its operators begin, and its distinguisher
pub record Head : Type 0 where
  pub family : ℕ
  pub first : ℕ
  pub distinguisher : Option ℕ

abbrev pub head : ℕ → ℕ → Option ℕ → Head
head family first d = record { family = family; first = first; distinguisher = d }

-- a rule as its words tell it
pub record StoredRule : Type 0 where
  pub pieces : List Piece
  pub head : Head

abbrev pub stored_rule : List Piece → Head → StoredRule
stored_rule ps h = record { pieces = ps; head = h }

-- ---- the words of a rule

unfoldable pub all_words : List Piece → List ℕ
all_words [] = []
all_words (p ∷ ps) = piece_words p ++ all_words ps

-- what follows n components
unfoldable pub tail_words : ℕ → Head → List ℕ
tail_words n h = replicate (52 - 4 * n) 0 ++ (n ∷ h.family ∷ h.first ∷ presence_word h.distinguisher ∷ bits_word h.distinguisher ∷ replicate 7 0)

unfoldable pub rule_words : List Piece → Head → List ℕ
rule_words ps h = all_words ps ++ tail_words (length ps) h

-- ---- the rule of 64 words, from a word on

abbrev pub count_at : List ℕ → ℕ → ℕ
count_at ws at = get_or ws (at + 52) 0

abbrev pub family_at : List ℕ → ℕ → ℕ
family_at ws at = get_or ws (at + 53) 0

abbrev pub first_at : List ℕ → ℕ → ℕ
first_at ws at = get_or ws (at + 54) 0

abbrev pub head_at : List ℕ → ℕ → Head
head_at ws at = head (family_at ws at) (first_at ws at) (distinguisher_at ws at)

-- of k places: the pieces, and whether each is one; of k words: whether all are 0
unfoldable pub pieces_from : ℕ → List ℕ → ℕ → List Piece
pieces_from zero ws at = []
pieces_from (suc k) ws at = piece_at ws at ∷ pieces_from k ws (at + 4)

unfoldable pub records_from : ℕ → List ℕ → ℕ → Bool
records_from zero ws at = true
records_from (suc k) ws at = is_record (piece_at ws at) && records_from k ws (at + 4)

unfoldable pub zeros_from : ℕ → List ℕ → ℕ → Bool
zeros_from zero ws at = true
zeros_from (suc k) ws at = eqb (get_or ws at 0) 0 && zeros_from k ws (at + 1)

-- all but the components: a count of 13 at most, a family of one octet, the words of a distinguisher, 0 past the count and in the last seven words
unfoldable pub is_framed : List ℕ → ℕ → Bool
is_framed ws at =
    leb (count_at ws at) 13
    && (ltb (family_at ws at) 256
    && (is_distinguisher ws at && (zeros_from (52 - 4 * count_at ws at) ws (at + 4 * count_at ws at) && zeros_from 7 ws (at + 57))))

unfoldable pub is_rule : List ℕ → ℕ → Bool
is_rule ws at = is_framed ws at && records_from (count_at ws at) ws at

abbrev pub stored_at : List ℕ → ℕ → StoredRule
stored_at ws at = stored_rule (pieces_from (count_at ws at) ws at) (head_at ws at)

-- what stands at a place: words that are no rule, or are not there, are BadRecord
unfoldable pub rule_at : List ℕ → ℕ → Answer StoredRule
rule_at ws place =
    pick (leb (length ws / 64) place) (refuses 10 []) (pick (is_rule ws (64 * place)) (accepts (stored_at ws (64 * place))) (refuses 10 []))
