-- The slots of a rule by value: what each turn of a loop over them comes to, and what they hold of a rule that was read or is stored.
use Prim.Native.Nat.{ℕ, zero, suc, ◌+◌, ◌-◌, ◌*◌, ◌≤◌, ◌<◌}
use mathlib.Core.Path.{◌≡◌, refl, sym, ap, ap₂, ◌∙◌}
use mathlib.Core.Bool.{true, false, false≢true}
use mathlib.Core.List.{List, [], ◌∷◌, ◌++◌, map, map-append, append_assoc}
use native.Mathlib.Numerals.{add-one}
use native.Mathlib.Omega.{arith}
use lib.ListN.{length, get_or, drop, set, replicate, length-append, length-map, length-take, drop_of_length-le, get_or-map}
use lib.Seq.{sets, drop-cons, set_at}
use lib.Dec.{eqb}
use Rattle.std.specs.Prelude.{Option}
use Rattle.std.proofs.lemmas.List.Folds.{list_any_at}
use Rattle.ground.proofs.Cases.{by_test}
use Rattle.ground.proofs.Overlays.{sets_append}
use Rattle.rules.specs.declared.FlowSpecComponent.{FlowSpecComponent}
use Rattle.rules.specs.declared.FlowSpecComponent.TheVariants.{Nothing}
use Rattle.rules.specs.declared.FlowSpecNlri.{FlowSpecNlri}
use Rattle.rules.specs.Components.{covered, components_of, counts_as, holds_one}
use Rattle.stored.specs.declared.Piece.{Piece}
use Rattle.stored.specs.declared.Piece.TheVariants.{NoRecord}
use Rattle.stored.specs.Pieces.{piece_words, piece_at, is_record}
use Rattle.stored.specs.Distinguishers.{distinguisher_at}
use Rattle.stored.specs.Stored.{stored_rule, all_words, count_at, family_at, first_at, pieces_from, stored_at}
use Rattle.stored.proofs.Words.{pieces_more, length_pieces}
use Rattle.stored.proofs.Inverse.{Fit, FitAll}
use Rattle.nlri.specs.Nlri.{apart, joined, pieces_in, slot_for, slots_of, rule_of, stored_of}
use Rattle.nlri.proofs.Components.{is_piece_lem, pieces_again, components_again}

-- ---- slots of pieces

slots_more : (ps : List Piece) (p : Piece) (i : ℕ) → length ps ≡ i → i < 13 → set (slots_of ps) i (slot_for p) ≡ slots_of (ps ++ (p ∷ []))
slots_more ps p i n h =
    let e : 13 - length ps ≡ suc (12 - i) = omega arith in
    let m : length (ps ++ (p ∷ [])) ≡ length ps + 1 = length-append ps (p ∷ []) in
    let f : 12 - i ≡ 13 - length (ps ++ (p ∷ [])) = omega arith in
    ap (λ (j : ℕ). set (map slot_for ps ++ replicate j Nothing) i (slot_for p)) e
    ∙ set_at (map slot_for ps) Nothing (replicate (12 - i) Nothing) (slot_for p) i (length-map ps slot_for ∙ n)
    ∙ sym (append_assoc (map slot_for ps) (slot_for p ∷ []) (replicate (12 - i) Nothing))
    ∙ ap₂ (λ (l : List FlowSpecComponent) (j : ℕ). l ++ replicate j Nothing) (sym (map-append slot_for ps (p ∷ []))) f

-- a turn of `slots_at`
pub slots_turn : (ws : List ℕ) (at i : ℕ) → i < 13 → set (slots_of (pieces_from i ws at)) i (joined (piece_at ws (at + 4 * i))) ≡ slots_of (pieces_from (i + 1) ws at)
slots_turn ws at i h =
    slots_more (pieces_from i ws at) (piece_at ws (at + 4 * i)) i (length_pieces i ws at) h
    ∙ ap slots_of (sym (pieces_more i ws at))
    ∙ ap (λ (j : ℕ). slots_of (pieces_from j ws at)) (sym (add-one i))

-- the slots that a count covers hold what they were made of
covered_slots : (ps : List Piece) (more : List FlowSpecComponent) → covered (length ps) (map slot_for ps ++ more) ≡ map joined ps
covered_slots [] more = refl
covered_slots (p ∷ ps) more = ap (λ (l : List FlowSpecComponent). joined p ∷ l) (covered_slots ps more)

module _ (ws : List ℕ) (at : ℕ) where
  pub stored_again : stored_of (rule_of (stored_at ws at)) ≡ stored_at ws at
  stored_again =
      ap (λ (ps : List Piece). stored_rule ps (stored_at ws at).head)
      (ap (map apart) (covered_slots (stored_at ws at).pieces _) ∙ pieces_again (count_at ws at) ws at)

  pub rule_is : (slots : List FlowSpecComponent) (n f g : ℕ) (i : Option ℕ) → slots ≡ slots_of (pieces_from n ws at) → n ≡ count_at ws at → f ≡ family_at ws at → g ≡ first_at ws at → i ≡ distinguisher_at ws at
      → ◌≡◌ {A = FlowSpecNlri} (record { slots = slots; count = n; family = f; first = g; distinguisher = i }) (rule_of (stored_at ws at))
  rule_is slots n f g i e c d h j =
      ap₂ (λ (s : List FlowSpecComponent) (m : ℕ). record { slots = s; count = m; family = f; first = g; distinguisher = i }) (e ∙ ap (λ (m : ℕ). slots_of (pieces_from m ws at)) c) (c ∙ sym (length_pieces (count_at ws at) ws at))
      ∙ ap₂ (λ (x y : ℕ). record { slots = slots_of (stored_at ws at).pieces; count = length (stored_at ws at).pieces; family = x; first = y; distinguisher = i }) d h
      ∙ ap (λ (x : Option ℕ). record { slots = slots_of (stored_at ws at).pieces; count = length (stored_at ws at).pieces; family = family_at ws at; first = first_at ws at; distinguisher = x }) j

-- what is stored of a rule gives its components back
pub same_components : (r : FlowSpecNlri) → components_of (rule_of (stored_of r)) ≡ components_of r
same_components r = covered_slots (stored_of r).pieces _ ∙ components_again (components_of r)

-- ---- pieces of slots

pub length_pieces_in : (n : ℕ) (ss : List FlowSpecComponent) → n ≤ length ss → length (pieces_in n ss) ≡ n
length_pieces_in n ss h = simp (length-map, length-take) (omega arith)

none_there : (cs : List FlowSpecComponent) (i : ℕ) → i < length cs → holds_one 1 cs ≡ false → eqb (counts_as (get_or cs i Nothing)) 1 ≡ false
none_there cs i h e =
    by_test (eqb (counts_as (get_or cs i Nothing)) 1)
    (λ t. absurd (false≢true (sym e ∙ list_any_at (λ c. eqb (counts_as c) 1) cs i Nothing h t)))
    (λ t. t)

-- a turn of `put_slots`
module _ (cs : List FlowSpecComponent) (i : ℕ) (here : i < length cs) where
  pub record_there : holds_one 1 cs ≡ false → is_record (apart (get_or cs i Nothing)) ≡ true
  record_there e = is_piece_lem (get_or cs i Nothing) (none_there cs i here e)

  pub put_more : (l₀ l m : List ℕ) (base : ℕ) (p : Piece) → sets l₀ base (all_words (map apart cs)) ≡ sets l (base + 4 * i) (all_words (drop i (map apart cs)))
      → p ≡ apart (get_or cs i Nothing) → m ≡ sets l (base + 4 * i) (piece_words p) → sets l₀ base (all_words (map apart cs)) ≡ sets m (base + 4 * (i + 1)) (all_words (drop (i + 1) (map apart cs)))
  unfolding all_words
  put_more l₀ l m base p so is e =
      let ps = map apart cs in
      let k : base + 4 * i + 4 ≡ base + 4 * (i + 1) = omega arith in
      so
      ∙ ap (λ (s : List Piece). sets l (base + 4 * i) (all_words s)) (drop-cons ps i NoRecord (simp length-map here))
      ∙ ap (λ (x : Piece). sets l (base + 4 * i) (piece_words x ++ all_words (drop (suc i) ps))) (get_or-map apart cs i Nothing ∙ sym is)
      ∙ sets_append l (base + 4 * i) (piece_words p) (all_words (drop (suc i) ps))
      ∙ ap₂ (λ (t : List ℕ) (j : ℕ). sets t j (all_words (drop (suc i) ps))) (sym e) k
      ∙ ap (λ (j : ℕ). sets m (base + 4 * (i + 1)) (all_words (drop j ps))) (sym (add-one i))

pub put_end : (l₀ l : List ℕ) (base i : ℕ) (cs : List FlowSpecComponent) → sets l₀ base (all_words (map apart cs)) ≡ sets l (base + 4 * i) (all_words (drop i (map apart cs))) → length cs ≤ i
    → l ≡ sets l₀ base (all_words (map apart cs))
unfolding all_words
put_end l₀ l base i cs so h = sym (so ∙ ap (λ (s : List Piece). sets l (base + 4 * i) (all_words s)) (drop_of_length-le (map apart cs) (simp length-map h)))

pub fit_more : (i : ℕ) (slots : List FlowSpecComponent) → i < length slots → FitAll (pieces_in i slots) → Fit (apart (get_or slots i Nothing)) → FitAll (pieces_in (suc i) slots)
fit_more i [] h a f = absurd (omega arith)
fit_more zero (s ∷ ss) h a f = (f, tt)
fit_more (suc i) (s ∷ ss) h a f = (a.0, fit_more i ss (omega arith) a.1 f)

pub all_fit : (i : ℕ) (slots : List FlowSpecComponent) → length slots ≤ i → FitAll (pieces_in i slots) → FitAll (map apart slots)
all_fit i [] h a = tt
all_fit zero (s ∷ ss) h a = absurd (omega arith)
all_fit (suc i) (s ∷ ss) h a = (a.0, all_fit i ss (omega arith) a.1)
