-- A rule that was put is what is read at its place, and what is read, put again, leaves the words as they are. Both go one place at a time along the
-- words: from what was stored to what each word is, and from each test that passed to the word that it saw.
use Prim.Native.Nat.{ℕ, zero, suc, ◌+◌, ◌-◌, ◌*◌, ◌/◌, ◌%◌, ◌^◌, ◌≤◌, ◌<◌}
use mathlib.Core.Path.{◌≡◌, refl, sym, ap, ap₂, ◌∙◌, subst}
use mathlib.Core.List.{List, [], ◌∷◌, ◌++◌, append_assoc}
use mathlib.Core.Bool.{Bool, true, false, ◌&&◌}
use native.Mathlib.Nat.{mod-eq_of_lt}
use native.Mathlib.Omega.{arith}
use borrow.Author.Tests.{lt-ltb, le-ltb, le-leb, leb-false, eqb-true, eq-eqb}
use lib.Dec.{ltb, leb, eqb}
use lib.ListN.{length, get_or, take, drop, replicate, length-append, length-drop, length-replicate, take-append-drop}
use lib.Seq.{sets, sets-eq, length-sets, drop_at, drop-drop, get_or-drop, take-add, drop-cons, length-take-le}
use Rattle.std.specs.Prelude.{Option}
use Rattle.ground.proofs.Cases.{both}
use Rattle.ground.specs.Answers.{Answer, accepts, refuses}
use Rattle.ground.specs.Picks.{pick}
use Rattle.rules.specs.declared.NetworkPrefix.{NetworkPrefix}
use Rattle.rules.specs.declared.NetworkPrefix.TheVariants.{Ipv4, Ipv6, Ipv4Offset, Ipv6Offset}
use Rattle.stored.specs.declared.Quad.{Quad}
use Rattle.stored.specs.declared.Piece.{Piece}
use Rattle.stored.specs.declared.Piece.TheVariants.{Prefix, Operators, NoRecord}
use Rattle.stored.specs.Pieces.{quad, quad_of, quad_words, piece_words, prefix_quad, network_of, named, same_quad, quad_at, is_piece, piece_of, piece_at, is_record}
use Rattle.stored.specs.Distinguishers.{presence_word, bits_word, distinguisher_at, is_distinguisher}
use Rattle.stored.specs.Stored.{Head, head, all_words, tail_words, rule_words, pieces_from, records_from, zeros_from, StoredRule, stored_rule, is_framed, is_rule, stored_at, rule_at}
use Rattle.stored.proofs.Distinguishers.{put_named, put_tested, tested_words}
use Rattle.stored.proofs.Words.{framed, rule_framed, rule_records, at_good, length_all, length_pieces}

-- what every value of these types is: each field fits its width
abbrev pub FitPrefix : NetworkPrefix → Type 0
FitPrefix (Ipv4 len a) = (len < 256) × (a < 2 ^ 32)
FitPrefix (Ipv6 len h l) = len < 256
FitPrefix (Ipv4Offset len off a) = (len < 256) × (off < 256) × (a < 2 ^ 32)
FitPrefix (Ipv6Offset len off h l) = (len < 256) × (off < 256)

-- a piece of a rule: a type from 1 to 13, as its content has it, and a prefix that fits
abbrev pub Fit : Piece → Type 0
Fit (Prefix t p) = (1 ≤ t) × (t ≤ 2) × FitPrefix p
Fit (Operators t start count) = (3 ≤ t) × (t ≤ 13)
Fit NoRecord = ⊥

abbrev pub FitAll : List Piece → Type 0
FitAll [] = Unit
FitAll (p ∷ ps) = Fit p × FitAll ps

-- one prefix of a form, under any of the two types
first_octet : (len off : ℕ) → len < 256 → (len + 256 * off) % 256 ≡ len
first_octet len off f = omega arith

second_octet : (len off : ℕ) → len < 256 → off < 256 → (len + 256 * off) / 256 % 256 ≡ off
second_octet len off f g = omega arith

abbrev network : ℕ → Quad → NetworkPrefix
network form q = network_of form q.a q.b q.c

abbrev form_of : NetworkPrefix → ℕ
form_of (Ipv4 len a) = 0
form_of (Ipv6 len h l) = 1
form_of (Ipv4Offset len off a) = 2
form_of (Ipv6Offset len off h l) = 3

network_back : (t : ℕ) (p : NetworkPrefix) → FitPrefix p → network (form_of p) (prefix_quad t p) ≡ p
network_back t (Ipv4 len a) (f, g) = ap₂ Ipv4 (mod-eq_of_lt f) (mod-eq_of_lt g)
network_back t (Ipv6 len h l) f = ap (λ (x : ℕ). Ipv6 x h l) (mod-eq_of_lt f)
network_back t (Ipv4Offset len off a) (f, g, h) =
    ap₂ (λ (x y : ℕ). Ipv4Offset x y (a % 2 ^ 32)) (first_octet len off f) (second_octet len off f g) ∙ ap (λ (x : ℕ). Ipv4Offset len off x) (mod-eq_of_lt h)
network_back t (Ipv6Offset len off h l) (f, g) = ap₂ (λ (x y : ℕ). Ipv6Offset x y h l) (first_octet len off f) (second_octet len off f g)

form_mark : (t : ℕ) → t ≤ 2 → (p : NetworkPrefix) → ((prefix_quad t p).mark % 16 ≡ t) × ((prefix_quad t p).mark / 16 ≡ form_of p)
form_mark t h (Ipv4 len a) = (omega arith, omega arith)
form_mark t h (Ipv6 len g l) = (omega arith, omega arith)
form_mark t h (Ipv4Offset len off a) = (omega arith, omega arith)
form_mark t h (Ipv6Offset len off g l) = (omega arith, omega arith)

pub piece_back : (p : Piece) → Fit p → named (quad_of p) ≡ p
unfolding named
piece_back (Prefix t p) (l, h, f) =
    let m = form_mark t h p in
    let q = prefix_quad t p in
    rw (lt-ltb (q.mark % 16) 3 (omega (arith, m.0)))
    (ap₂ (λ (x y : ℕ). Prefix x (network_of y q.a q.b q.c)) m.0 m.1 ∙ ap (λ x. Prefix t x) (network_back t p f))
piece_back (Operators t start count) (l, h) =
    let e : t % 16 ≡ t = omega arith in
    rw (le-ltb (t % 16) 3 (omega arith)) (ap (λ (x : ℕ). Operators x start count) e)
piece_back NoRecord f = absurd f

same_self : (q : Quad) → same_quad q q ≡ true
same_self q = rw (eq-eqb q.mark q.mark refl, eq-eqb q.a q.a refl, eq-eqb q.b q.b refl, eq-eqb q.c q.c refl)

same_eq : (x y : Quad) → same_quad x y ≡ true → x ≡ y
same_eq x y e =
    let p = both (eqb x.mark y.mark) _ e in
    let q = both (eqb x.a y.a) _ p.1 in
    let r = both (eqb x.b y.b) (eqb x.c y.c) q.1 in
    ap₂ (λ (k a : ℕ). quad k a x.b x.c) (eqb-true _ _ p.0) (eqb-true _ _ q.0)
    ∙ ap₂ (λ (b c : ℕ). quad y.mark y.a b c) (eqb-true _ _ r.0) (eqb-true _ _ r.1)

type_range : (p : Piece) → Fit p → (1 ≤ (quad_of p).mark % 16) × ((quad_of p).mark % 16 ≤ 13)
type_range (Prefix t p) (l, h, f) = let m = (form_mark t h p).0 in (omega (arith, m), omega (arith, m))
type_range (Operators t start count) (l, h) = (omega arith, omega arith)
type_range NoRecord f = absurd f

-- the words of a piece are that piece
pub words_piece : (p : Piece) → Fit p → piece_of (quad_of p) ≡ p
unfolding piece_of is_piece
words_piece p f =
    let r = type_range p f in
    let q = quad_of p in
    let s : same_quad (quad_of (named q)) q ≡ true = ap (λ x. same_quad (quad_of x) q) (piece_back p f) ∙ same_self q in
    rw (lt-ltb 0 (q.mark % 16) (omega (arith, r.0)), le-leb (q.mark % 16) 13 r.1, s) (piece_back p f)

-- and what is a piece has the piece's words
by_both : (a b c : Bool) (p : Piece) → is_record (pick (a && (b && c)) p NoRecord) ≡ true → c ≡ true
by_both true true true p e = refl
by_both true true false p e = e
by_both true false c p e = let z : ◌≡◌ {A = Bool} false true = e in let y : ◌≡◌ {A = ℕ} 0 1 = cc in absurd (omega arith)
by_both false b c p e = let z : ◌≡◌ {A = Bool} false true = e in let y : ◌≡◌ {A = ℕ} 0 1 = cc in absurd (omega arith)

picked : (a b c : Bool) (p : Piece) → is_record (pick (a && (b && c)) p NoRecord) ≡ true → pick (a && (b && c)) p NoRecord ≡ p
picked true true true p e = refl
picked true true false p e = let y : ◌≡◌ {A = ℕ} 0 1 = cc in absurd (omega arith)
picked true false c p e = let y : ◌≡◌ {A = ℕ} 0 1 = cc in absurd (omega arith)
picked false b c p e = let y : ◌≡◌ {A = ℕ} 0 1 = cc in absurd (omega arith)

words_back : (q : Quad) → is_record (piece_of q) ≡ true → quad_of (piece_of q) ≡ q
unfolding piece_of is_piece
words_back q e =
    ap quad_of (picked (ltb 0 (q.mark % 16)) (leb (q.mark % 16) 13) (same_quad (quad_of (named q)) q) (named q) e)
    ∙ same_eq (quad_of (named q)) q (by_both (ltb 0 (q.mark % 16)) (leb (q.mark % 16) 13) (same_quad (quad_of (named q)) q) (named q) e)

fit_record : (p : Piece) → Fit p → is_record p ≡ true
fit_record (Prefix t p) f = refl
fit_record (Operators t start count) f = refl
fit_record NoRecord f = absurd f

-- what stands at a place, from what the list is from there on
module _ (ws : List ℕ) (at : ℕ) (xs : List ℕ) (e : drop at ws ≡ xs) where
  word_here : (i : ℕ) → get_or ws (at + i) 0 ≡ get_or xs i 0
  word_here i = sym (get_or-drop at ws i 0) ∙ ap (λ (l : List ℕ). get_or l i 0) e

  rest_here : (n : ℕ) → drop (at + n) ws ≡ drop n xs
  rest_here n = sym (drop-drop n at ws) ∙ ap (λ (l : List ℕ). drop n l) e

quad_here : (ws : List ℕ) (at : ℕ) (q : Quad) (more : List ℕ) → drop at ws ≡ quad_words q ++ more → quad_at ws at ≡ q
quad_here ws at q more e =
    let z : at ≡ at + 0 = omega arith in
    let g = word_here ws at (quad_words q ++ more) e in
    ap₂ (λ (x y : ℕ). quad x y (get_or ws (at + 2) 0) (get_or ws (at + 3) 0)) (ap (λ (j : ℕ). get_or ws j 0) z ∙ g 0) (g 1) ∙ ap₂ (λ (x y : ℕ). quad q.mark q.a x y) (g 2) (g 3)

-- pieces that were put are read, each a piece of the rule
pub pieces_back : (ps : List Piece) → FitAll ps → (ws : List ℕ) (at : ℕ) (more : List ℕ) → drop at ws ≡ all_words ps ++ more
    → (pieces_from (length ps) ws at ≡ ps) × (records_from (length ps) ws at ≡ true) × (drop (at + 4 * length ps) ws ≡ more)
unfolding all_words pieces_from records_from piece_at
pieces_back [] f ws at more e = let z : at + 4 * 0 ≡ at = omega arith in (refl, refl, ap (λ (j : ℕ). drop j ws) z ∙ e)
pieces_back (p ∷ ps) (f, g) ws at more e =
    let h = quad_here ws at (quad_of p) (all_words ps ++ more) e in
    let i = pieces_back ps g ws (at + 4) more (rest_here ws at _ e 4) in
    let z : at + 4 + 4 * length ps ≡ at + 4 * suc (length ps) = omega arith in
    let w : piece_of (quad_at ws at) ≡ p = ap piece_of h ∙ words_piece p f in (
      ap₂ (λ (x : Piece) (l : List Piece). x ∷ l) w i.0,
      ap₂ (λ (a b : Bool). a && b) (ap is_record w ∙ fit_record p f) i.1,
      sym (ap (λ (j : ℕ). drop j ws) z) ∙ i.2,
    )

pub zeros_back : (k : ℕ) (ws : List ℕ) (at : ℕ) (more : List ℕ) → drop at ws ≡ replicate k 0 ++ more → (zeros_from k ws at ≡ true) × (drop (at + k) ws ≡ more)
unfolding zeros_from
zeros_back zero ws at more e = let z : at + 0 ≡ at = omega arith in (refl, ap (λ (j : ℕ). drop j ws) z ∙ e)
zeros_back (suc k) ws at more e =
    let y : at ≡ at + 0 = omega arith in
    let z : at + 1 + k ≡ at + suc k = omega arith in
    let i = zeros_back k ws (at + 1) more (rest_here ws at _ e 1) in
    let w : get_or ws at 0 ≡ 0 = ap (λ (j : ℕ). get_or ws j 0) y ∙ word_here ws at _ e 0 in
    (ap₂ (λ (a b : Bool). a && b) (eq-eqb (get_or ws at 0) 0 w) i.0, sym (ap (λ (j : ℕ). drop j ws) z) ∙ i.1)

-- the words of a rule
pub length_rule : (ps : List Piece) (h : Head) → length ps ≤ 13 → length (rule_words ps h) ≡ 64
unfolding rule_words tail_words
length_rule ps h few =
    let z : List ℕ = replicate (52 - 4 * length ps) 0 in
    let t : List ℕ = length ps ∷ h.family ∷ h.first ∷ presence_word h.distinguisher ∷ bits_word h.distinguisher ∷ replicate 7 0 in
    let y : length z ≡ 52 - 4 * length ps = length-replicate (52 - 4 * length ps) _ in
    let a = length-append (all_words ps) (z ++ t) in
    let b = length-append z t in
    let c = length_all ps in
    omega arith

pub words_at : (ps : List Piece) (more : List ℕ) (k : ℕ) → k < length ps → take 4 (drop (4 * k) (all_words ps ++ more)) ≡ piece_words (get_or ps k NoRecord)
unfolding all_words
words_at [] more k h = absurd (omega arith)
words_at (p ∷ ps) more zero h = refl
words_at (p ∷ ps) more (suc k) h =
    let e : 4 * suc k ≡ 4 + 4 * k = omega arith in
    ap (λ (j : ℕ). take 4 (drop j (piece_words p ++ (all_words ps ++ more)))) e
    ∙ ap (λ (l : List ℕ). take 4 l) (sym (drop-drop (4 * k) 4 (piece_words p ++ (all_words ps ++ more))))
    ∙ words_at ps more k (omega arith)

-- an overlay, from its place on
pub drop_sets : (l : List ℕ) (i : ℕ) (vs : List ℕ) → i + length vs ≤ length l → drop i (sets l i vs) ≡ vs ++ drop (i + length vs) l
drop_sets l i vs h =
    ap (λ (t : List ℕ). drop i t) (sets-eq vs l i h ∙ append_assoc (take i l) vs (drop (i + length vs) l))
    ∙ drop_at (take i l) (vs ++ drop (i + length vs) l) i (length-take-le i l (omega arith))

-- storing what stands there changes nothing
pub sets_same : (l : List ℕ) (i n : ℕ) → i + n ≤ length l → sets l i (take n (drop i l)) ≡ l
sets_same l i n h =
    let m : length (take n (drop i l)) ≡ n = length-take-le n (drop i l) (simp length-drop (omega arith)) in
    sets-eq (take n (drop i l)) l i (omega (arith, m))
    ∙ append_assoc (take i l) (take n (drop i l)) (drop (i + length (take n (drop i l))) l)
    ∙ ap (λ (j : ℕ). take i l ++ (take n (drop i l) ++ drop (i + j) l)) m
    ∙ ap (λ (t : List ℕ). take i l ++ (take n (drop i l) ++ t)) (sym (drop-drop n i l))
    ∙ ap (λ (t : List ℕ). take i l ++ t) (take-append-drop n (drop i l))
    ∙ take-append-drop i l

-- words that start with a rule's are that rule
module _ (ps : List Piece) (h : Head) (few : length ps ≤ 13) (fit : FitAll ps) (octet : h.family < 256) where
  pub rule_here : (ws : List ℕ) (at : ℕ) (more : List ℕ) → drop at ws ≡ rule_words ps h ++ more → (is_rule ws at ≡ true) × (stored_at ws at ≡ stored_rule ps h)
  unfolding rule_words tail_words is_rule is_framed
  rule_here ws at more e =
      let n = length ps in
      let z : List ℕ = replicate (52 - 4 * n) 0 in
      let t : List ℕ = n ∷ h.family ∷ h.first ∷ presence_word h.distinguisher ∷ bits_word h.distinguisher ∷ replicate 7 0 in
      let d : drop at ws ≡ all_words ps ++ (z ++ (t ++ more)) = e ∙ append_assoc (all_words ps) (z ++ t) more ∙ ap (λ (l : List ℕ). all_words ps ++ l) (append_assoc z t more) in
      let a = pieces_back ps fit ws at (z ++ (t ++ more)) d in
      let b = zeros_back (52 - 4 * n) ws (at + 4 * n) (t ++ more) a.2 in
      let k : at + 4 * n + (52 - 4 * n) ≡ at + 52 = omega arith in
      let u : drop (at + 52) ws ≡ t ++ more = sym (ap (λ (j : ℕ). drop j ws) k) ∙ b.1 in
      let k0 : at + 52 + 0 ≡ at + 52 = omega arith in
      let k1 : at + 52 + 1 ≡ at + 53 = omega arith in
      let k2 : at + 52 + 2 ≡ at + 54 = omega arith in
      let k3 : at + 52 + 3 ≡ at + 55 = omega arith in
      let w = word_here ws (at + 52) (t ++ more) u in
      let w0 : get_or ws (at + 52) 0 ≡ n = sym (ap (λ (j : ℕ). get_or ws j 0) k0) ∙ w 0 in
      let w1 : get_or ws (at + 53) 0 ≡ h.family = sym (ap (λ (j : ℕ). get_or ws j 0) k1) ∙ w 1 in
      let w2 : get_or ws (at + 54) 0 ≡ h.first = sym (ap (λ (j : ℕ). get_or ws j 0) k2) ∙ w 2 in
      let k4 : at + 52 + 4 ≡ at + 56 = omega arith in
      let k5 : at + 52 + 5 ≡ at + 57 = omega arith in
      let w3 : get_or ws (at + 55) 0 ≡ presence_word h.distinguisher = sym (ap (λ (j : ℕ). get_or ws j 0) k3) ∙ w 3 in
      let w4 : get_or ws (at + 56) 0 ≡ bits_word h.distinguisher = sym (ap (λ (j : ℕ). get_or ws j 0) k4) ∙ w 4 in
      let v : drop (at + 57) ws ≡ replicate 7 0 ++ more = sym (ap (λ (j : ℕ). drop j ws) k5) ∙ rest_here ws (at + 52) (t ++ more) u 5 in
      let l = zeros_back 7 ws (at + 57) more v in (
        ap₂ (λ (m f : ℕ). (leb m 13 && (ltb f 256 && (is_distinguisher ws at && (zeros_from (52 - 4 * m) ws (at + 4 * m) && zeros_from 7 ws (at + 57))))) && records_from m ws at) w0 w1
            ∙ rw (le-leb n 13 few, lt-ltb h.family 256 octet, put_tested ws at h.distinguisher w3 w4, b.0, l.0, a.1),
        ap₂ (λ (m f : ℕ). stored_rule (pieces_from m ws at) (head f (get_or ws (at + 54) 0) (distinguisher_at ws at))) w0 w1
            ∙ ap₂ (λ (x : List Piece) (g : ℕ). stored_rule x (head h.family g (distinguisher_at ws at))) a.0 w2
            ∙ ap (λ (d : Option ℕ). stored_rule ps (head h.family h.first d)) (put_named ws at h.distinguisher w3 w4),
      )

  -- put, then read
  pub put_read : (ws : List ℕ) (place : ℕ) → place < length ws / 64 → rule_at (sets ws (64 * place) (rule_words ps h)) place ≡ accepts (stored_rule ps h)
  put_read ws place l =
      let at = 64 * place in
      let vs = rule_words ps h in
      let n : length vs ≡ 64 = length_rule ps h few in
      let m : length (sets ws at vs) ≡ length ws = length-sets ws at vs in
      let g = rule_here (sets ws at vs) at (drop (at + length vs) ws) (drop_sets ws at vs (omega arith)) in
      at_good (sets ws at vs) place (subst (λ (j : ℕ). place < j / 64) (sym m) l) g.0 ∙ ap accepts g.1

-- the words behind tests that passed
take_join : (ws : List ℕ) (at a b : ℕ) → take a (drop at ws) ++ take b (drop (at + a) ws) ≡ take (a + b) (drop at ws)
take_join ws at a b = ap (λ (l : List ℕ). take a (drop at ws) ++ take b l) (sym (drop-drop a at ws)) ∙ sym (take-add a b (drop at ws))

word_there : (ws : List ℕ) (at k : ℕ) → at < length ws → take (suc k) (drop at ws) ≡ get_or ws at 0 ∷ take k (drop (at + 1) ws)
word_there ws at k h =
    let e : suc at ≡ at + 1 = omega arith in
    ap (λ (l : List ℕ). take (suc k) l) (drop-cons ws at 0 h) ∙ ap (λ (j : ℕ). get_or ws at 0 ∷ take k (drop j ws)) e

quad_there : (ws : List ℕ) (at : ℕ) → at + 4 ≤ length ws → take 4 (drop at ws) ≡ quad_words (quad_at ws at)
quad_there ws at h =
    let b : at + 1 + 1 ≡ at + 2 = omega arith in
    let c : at + 2 + 1 ≡ at + 3 = omega arith in
    word_there ws at 3 (omega arith)
    ∙ ap (λ (l : List ℕ). get_or ws at 0 ∷ l) (word_there ws (at + 1) 2 (omega arith) ∙ ap (λ (j : ℕ). get_or ws (at + 1) 0 ∷ take 2 (drop j ws)) b)
    ∙ ap (λ (l : List ℕ). get_or ws at 0 ∷ get_or ws (at + 1) 0 ∷ l) (word_there ws (at + 2) 1 (omega arith) ∙ ap (λ (j : ℕ). get_or ws (at + 2) 0 ∷ take 1 (drop j ws)) c)
    ∙ ap (λ (l : List ℕ). get_or ws at 0 ∷ get_or ws (at + 1) 0 ∷ get_or ws (at + 2) 0 ∷ l) (word_there ws (at + 3) 0 (omega arith))

pieces_there : (k : ℕ) (ws : List ℕ) (at : ℕ) → at + 4 * k ≤ length ws → records_from k ws at ≡ true → all_words (pieces_from k ws at) ≡ take (4 * k) (drop at ws)
unfolding all_words pieces_from records_from piece_at
pieces_there zero ws at l g = refl
pieces_there (suc k) ws at l g =
    let b = both (is_record (piece_at ws at)) (records_from k ws (at + 4)) g in
    let z : 4 + 4 * k ≡ 4 * suc k = omega arith in
    ap₂ (λ (q : Quad) (r : List ℕ). quad_words q ++ r) (words_back (quad_at ws at) b.0) (pieces_there k ws (at + 4) (omega arith) b.1)
    ∙ ap (λ (x : List ℕ). x ++ take (4 * k) (drop (at + 4) ws)) (sym (quad_there ws at (omega arith)))
    ∙ take_join ws at 4 (4 * k)
    ∙ ap (λ (j : ℕ). take j (drop at ws)) z

zeros_there : (k : ℕ) (ws : List ℕ) (at : ℕ) → at + k ≤ length ws → zeros_from k ws at ≡ true → replicate k 0 ≡ take k (drop at ws)
unfolding zeros_from
zeros_there zero ws at l g = refl
zeros_there (suc k) ws at l g =
    let b = both (eqb (get_or ws at 0) 0) (zeros_from k ws (at + 1)) g in
    ap₂ (λ (x : ℕ) (r : List ℕ). x ∷ r) (sym (eqb-true (get_or ws at 0) 0 b.0)) (zeros_there k ws (at + 1) (omega arith) b.1)
    ∙ sym (word_there ws at k (omega arith))

pub rule_there : (ws : List ℕ) (at : ℕ) → at + 64 ≤ length ws → is_rule ws at ≡ true → rule_words (stored_at ws at).pieces (stored_at ws at).head ≡ take 64 (drop at ws)
unfolding rule_words tail_words
rule_there ws at h e =
    let r = framed ws at (rule_framed ws at e) in
    let n = get_or ws (at + 52) 0 in
    let f = r.few in
    let m : length (pieces_from n ws at) ≡ n = length_pieces n ws at in
    let a = pieces_there n ws at (omega arith) (rule_records ws at e) in
    let b = zeros_there (52 - 4 * n) ws (at + 4 * n) (omega arith) r.unused in
    let c = zeros_there 7 ws (at + 57) (omega arith) r.last in
    let d = tested_words ws at r.distinguisher in
    let k : at + 4 * n + (52 - 4 * n) ≡ at + 52 = omega arith in
    let k1 : at + 52 + 1 ≡ at + 53 = omega arith in
    let k2 : at + 53 + 1 ≡ at + 54 = omega arith in
    let k3 : at + 54 + 1 ≡ at + 55 = omega arith in
    let k4 : at + 55 + 1 ≡ at + 56 = omega arith in
    let k5 : at + 56 + 1 ≡ at + 57 = omega arith in
    let s : 4 * n + (52 - 4 * n + 12) ≡ 64 = omega arith in
    let u : presence_word (distinguisher_at ws at) ∷ bits_word (distinguisher_at ws at) ∷ replicate 7 0 ≡ take 9 (drop (at + 55) ws) =
    ap₂ (λ (x y : ℕ). x ∷ y ∷ replicate 7 0) d.0 d.1
    ∙ ap (λ (l : List ℕ). get_or ws (at + 55) 0 ∷ get_or ws (at + 56) 0 ∷ l) (c ∙ ap (λ (j : ℕ). take 7 (drop j ws)) (sym k5))
    ∙ ap (λ (l : List ℕ). get_or ws (at + 55) 0 ∷ l) (sym (word_there ws (at + 56) 7 (omega arith)) ∙ ap (λ (j : ℕ). take 8 (drop j ws)) (sym k4))
    ∙ sym (word_there ws (at + 55) 8 (omega arith)) in
    let t : n ∷ get_or ws (at + 53) 0 ∷ get_or ws (at + 54) 0 ∷ presence_word (distinguisher_at ws at) ∷ bits_word (distinguisher_at ws at) ∷ replicate 7 0 ≡ take 12 (drop (at + 52) ws) =
    ap (λ (l : List ℕ). n ∷ get_or ws (at + 53) 0 ∷ get_or ws (at + 54) 0 ∷ l) (u ∙ ap (λ (j : ℕ). take 9 (drop j ws)) (sym k3))
    ∙ ap (λ (l : List ℕ). n ∷ get_or ws (at + 53) 0 ∷ l) (sym (word_there ws (at + 54) 9 (omega arith)) ∙ ap (λ (j : ℕ). take 10 (drop j ws)) (sym k2))
    ∙ ap (λ (l : List ℕ). n ∷ l) (sym (word_there ws (at + 53) 10 (omega arith)) ∙ ap (λ (j : ℕ). take 11 (drop j ws)) (sym k1))
    ∙ sym (word_there ws (at + 52) 11 (omega arith)) in
    ap (λ (j : ℕ). all_words (pieces_from n ws at) ++ (replicate (52 - 4 * j) 0 ++ (j ∷ get_or ws (at + 53) 0 ∷ get_or ws (at + 54) 0 ∷ presence_word (distinguisher_at ws at) ∷ bits_word (distinguisher_at ws at) ∷ replicate 7 0))) m
    ∙ ap₂ (λ (x y : List ℕ). x ++ (y ++ (n ∷ get_or ws (at + 53) 0 ∷ get_or ws (at + 54) 0 ∷ presence_word (distinguisher_at ws at) ∷ bits_word (distinguisher_at ws at) ∷ replicate 7 0))) a b
    ∙ ap (λ (x : List ℕ). take (4 * n) (drop at ws) ++ (take (52 - 4 * n) (drop (at + 4 * n) ws) ++ x)) (t ∙ ap (λ (j : ℕ). take 12 (drop j ws)) (sym k))
    ∙ ap (λ (x : List ℕ). take (4 * n) (drop at ws) ++ x) (take_join ws (at + 4 * n) (52 - 4 * n) 12)
    ∙ take_join ws at (4 * n) (52 - 4 * n + 12)
    ∙ ap (λ (j : ℕ). take j (drop at ws)) s

-- what an accepted place shows
accepted_second : (b : Bool) (x s : StoredRule) → pick b (accepts x) (refuses 10 []) ≡ accepts s → (b ≡ true) × (s ≡ x)
accepted_second true x s e = (refl, cc)
accepted_second false x s e = let z : ◌≡◌ {A = ℕ} 0 1 = cc in absurd (omega arith)

accepted_first : (b : Bool) (y : Answer StoredRule) (s : StoredRule) → pick b (refuses 10 []) y ≡ accepts s → (b ≡ false) × (y ≡ accepts s)
accepted_first true y s e = let z : ◌≡◌ {A = ℕ} 0 1 = cc in absurd (omega arith)
accepted_first false y s e = (refl, e)

module _ (ws : List ℕ) (place : ℕ) (s : StoredRule) (e : rule_at ws place ≡ accepts s) where
  pub accepted : (place < length ws / 64) × (is_rule ws (64 * place) ≡ true) × (s ≡ stored_at ws (64 * place))
  unfolding rule_at
  accepted =
      let a = accepted_first (leb (length ws / 64) place) _ s e in
      let b = accepted_second (is_rule ws (64 * place)) (stored_at ws (64 * place)) s a.1 in
      (leb-false (length ws / 64) place a.0, b.0, b.1)

  -- read, then put
  pub read_put : sets ws (64 * place) (rule_words s.pieces s.head) ≡ ws
  read_put =
      let a = accepted in
      let h = a.0 in
      ap (λ (x : StoredRule). sets ws (64 * place) (rule_words x.pieces x.head)) a.2
      ∙ ap (λ (l : List ℕ). sets ws (64 * place) l) (rule_there ws (64 * place) (omega arith) a.1)
      ∙ sets_same ws (64 * place) 64 (omega arith)
