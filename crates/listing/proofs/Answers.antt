-- What `list` has of an input once it is read: words that can be listed, whose lines are the listing, however far the lent lists go on with zeros past
-- the rule's operators. And what it answers then.
use Prim.Native.Nat.{ℕ, zero, suc, ◌+◌, ◌≤◌, ◌<◌}
use mathlib.Core.Path.{◌≡◌, refl, sym, ap, ap₂, ◌∙◌, subst}
use mathlib.Core.Bool.{false}
use mathlib.Core.List.{List, [], ◌∷◌, ◌++◌, map}
use mathlib.Core.Logic.{⊎_elim}
use native.Mathlib.Omega.{arith}
use borrow.Author.Tests.{lt-ltb, le-ltb}
use lib.ListN.{length, get_or, set, take, replicate, length-map, length-replicate}
use lib.Seq.{sets, length-sets, length-take-le}
use Rattle.ground.proofs.Answers.{never, same_accepted}
use Rattle.ground.specs.Answers.{Answer, accepts, refuses, declines}
use Rattle.ground.proofs.Cases.{lt_or_le}
use Rattle.refusals.specs.declared.Fault.{Fault}
use Rattle.refusals.specs.Refusals.{answered}
use Rattle.choices.specs.declared.Reading.TheVariants.{Ipv4}
use Rattle.operators.specs.Ops.{Op, ops_in, octet_of, number_of}
use Rattle.prefixes.proofs.Accepted.{Octets}
use Rattle.stored.specs.declared.Piece.{Piece}
use Rattle.stored.specs.declared.Piece.TheVariants.{Prefix, Operators, NoRecord}
use Rattle.stored.specs.Stored.{head, StoredRule, count_at, pieces_from, stored_at}
use Rattle.stored.proofs.Words.{length_pieces}
use Rattle.stored.proofs.Inverse.{put_read, accepted}
use Rattle.reading.specs.declared.Taken.{Taken}
use Rattle.reading.specs.Readings.{ReadRule, read_at, taken_of, words_of, operators_of}
use Rattle.reading.proofs.Walked.{read_rule_lem, read_family}
use Rattle.std.specs.Prelude.{Result, Ok, Err}
use Rattle.std.specs.Result.{result_unwrap_or}
use Rattle.listing.specs.Listings.{op_lines, piece_lines, type_line, ops_line, component_lines, rule_lines, answer_lines, listed_at, listing_of, listed_into, counted_in, octets_in}
use Rattle.listing.specs.Puts.{AllBacked, Listable, lines_of}
use Rattle.listing.proofs.RulesBacked.{no_operators, all_counts, rule_backed, all_more}
use Rattle.listing.proofs.Sizes.{lines_most}
use Rattle.listing.proofs.NeverShort.{over_long, read_whole}

-- ---- lists that go on with zeros
abbrev blank : ℕ → List ℕ
blank n = replicate n 0

abbrev Same : List ℕ → List ℕ → Type 0
Same xs ys = (i : ℕ) → get_or xs i 0 ≡ get_or ys i 0

zeros : (n i : ℕ) → get_or (blank n) i 0 ≡ 0
zeros zero i = refl
zeros (suc n) zero = refl
zeros (suc n) (suc i) = zeros n i

sets_under : (a : ℕ) (l : List ℕ) (i : ℕ) (vs : List ℕ) → sets (a ∷ l) (suc i) vs ≡ a ∷ sets l i vs
sets_under a l i [] = refl
sets_under a l i (v ∷ vs) = sets_under a (set l i v) (suc i) vs

padded : (n : ℕ) (xs : List ℕ) → length xs ≤ n → Same (sets (blank n) 0 xs) xs
padded n [] h i = zeros n i
padded zero (x ∷ xs) h i = absurd (omega arith)
padded (suc n) (x ∷ xs) h zero = ap (λ (l : List ℕ). get_or l 0 0) (sets_under x (blank n) 0 xs)
padded (suc n) (x ∷ xs) h (suc i) = ap (λ (l : List ℕ). get_or l (suc i) 0) (sets_under x (blank n) 0 xs) ∙ padded n xs (omega arith) i

module _ (vs ws os us : List ℕ) (p : Same vs ws) (q : Same os us) where
  ops_same : (at n : ℕ) → ops_in vs os at n ≡ ops_in ws us at n
  unfolding ops_in
  ops_same at zero = refl
  ops_same at (suc n) = rw (p at, q at, ops_same (at + 1) n)

  piece_same : (x : Piece) → piece_lines vs os x ≡ piece_lines ws us x
  piece_same (Prefix t y) = refl
  piece_same (Operators t start n) = ap (λ (os : List Op). type_line t ++ ops_line n ++ op_lines os) (ops_same start n)
  piece_same NoRecord = refl

  components_same : (ps : List Piece) → component_lines vs os ps ≡ component_lines ws us ps
  unfolding component_lines
  components_same [] = refl
  components_same (x ∷ ps) = ap₂ (λ (xs ys : List ℕ). xs ++ ys) (piece_same x) (components_same ps)

  rule_same : (used : ℕ) (ps : List Piece) → rule_lines used ps vs os ≡ rule_lines used ps ws us
  unfolding rule_lines
  rule_same used ps = rw (components_same ps)

-- ---- what was read
as_accepted : (s : List ℕ) (r : ReadRule) → listed_at s ≡ accepts r → (length s ≤ 4097) × (read_at Ipv4 false s ≡ accepts r)
as_accepted s r e =
    ⊎_elim (λ h. never (sym (over_long s h) ∙ e)) (λ h. (h, sym (read_whole s h) ∙ e)) (lt_or_le 4097 (length s))

-- the pieces of an answer are those of its words
abbrev pieces_of : Answer ReadRule → List Piece
pieces_of (accepts r) = r.pieces
pieces_of (declines f) = []

-- an answer to an input that is listed: few components, their operators there, and its lines those of the lists that go on
record Listing (s : List ℕ) (a : Answer ReadRule) : Type 0 where
  pub pieces : (stored_at (sets (blank 64) 0 (words_of a)) 0).pieces ≡ pieces_of a
  pub few : length (pieces_of a) ≤ 13
  pub backed : AllBacked 2047 2047 (pieces_of a)
  pub counts : all_counts (pieces_of a) ≤ 2047
  pub lines : lines_of (taken_of a) (pieces_of a) (sets (blank 2047) 0 (map number_of (operators_of a))) (sets (blank 2047) 0 (map octet_of (operators_of a))) ≡ answer_lines a

listing_of_lem : (s : List ℕ) → Octets s → (a : Answer ReadRule) → listed_at s ≡ a → Listing s a
unfolding pieces_from
listing_of_lem s o (accepts r) e =
    let h = as_accepted s r e in
    let b = rule_backed s r h.0 h.1 in
    let g = read_rule_lem Ipv4 false s r o h.1 in
    let n = g.few in
    let y = read_family Ipv4 false s r h.1 in
    let f = b.few in
    let vs = map number_of r.operators in
    let os = map octet_of r.operators in
    let w = sets (blank 64) 0 (words_of (accepts r)) in
    let x = accepted w 0 _ (put_read r.pieces (head r.family 0 r.distinguisher) (omega arith) g.fit (omega arith) (blank 64) 0 (omega arith)) in
    record {
      pieces = sym (ap (λ (z : StoredRule). z.pieces) x.2);
      few = omega arith;
      backed = all_more f f r.pieces b.backed;
      counts = omega (arith, b.total);
      lines =
          rule_same (sets (blank 2047) 0 vs) vs (sets (blank 2047) 0 os) os (padded 2047 vs (simp length-map f)) (padded 2047 os (simp length-map f)) r.used r.pieces;
    }
listing_of_lem s o (declines f) e = record { pieces = refl; few = omega arith; backed = λ i. no_operators 2047 2047; counts = omega arith; lines = refl }

pub record Given (s : List ℕ) (read : Result Taken Fault) (words values octets : List ℕ) : Type 0 where
  pub listable : Listable words (length values) (length octets)
  pub lines : lines_of (answered read) (stored_at words 0).pieces values octets ≡ listing_of s
  pub placeable : length (lines_of (answered read) (stored_at words 0).pieces values octets) ≤ 65536
  pub most : length (listing_of s) ≤ 65536

long : (n : ℕ) (xs : List ℕ) {l : List ℕ} → l ≡ sets (blank n) 0 xs → length l ≡ n
long n xs e = ap length e ∙ length-sets (blank n) 0 xs ∙ length-replicate {A = ℕ} n 0

pub given : (s : List ℕ) → Octets s → (read : Result Taken Fault) {words values octets : List ℕ} → answered read ≡ taken_of (listed_at s)
    → words ≡ sets (blank 64) 0 (words_of (listed_at s)) → values ≡ sets (blank 2047) 0 (map number_of (operators_of (listed_at s)))
    → octets ≡ sets (blank 2047) 0 (map octet_of (operators_of (listed_at s))) → Given s read words values octets
given s o read {words} {values} {octets} t w v u =
    let g = listing_of_lem s o (listed_at s) refl in
    let ps = (stored_at words 0).pieces in
    let e : ps ≡ pieces_of (listed_at s) = ap (λ (ws : List ℕ). (stored_at ws 0).pieces) w ∙ g.pieces in
    let n = ap length e in
    let c = ap all_counts e in
    let m = lines_most read ps values octets (omega (arith, g.few)) (omega (arith, g.counts)) in
    let i : lines_of (answered read) ps values octets ≡ listing_of s = rw (t, e, v, u) g.lines in
    let a = long 64 (words_of (listed_at s)) w in
    record {
      listable =
          rw (long 2047 (map number_of (operators_of (listed_at s))) v, long 2047 (map octet_of (operators_of (listed_at s))) u)
          (record { long = omega arith; few = omega (arith, g.few, length_pieces (count_at words 0) words 0); backed = subst (AllBacked 2047 2047) (sym e) g.backed });
      lines = i;
      placeable = m;
      most = subst (λ (xs : List ℕ). length xs ≤ 65536) i m;
    }

-- ---- what is answered
module _ (s out : List ℕ) {n : ℕ} (is : n ≡ length (listing_of s)) where
  pub too_short : length out < n → (refuses 9 (n ∷ []) ≡ counted_in (listed_into s (length out))) × (out ≡ sets out 0 (octets_in (listed_into s (length out))))
  unfolding listed_into
  too_short h =
      let k : length out < length (listing_of s) = omega arith in
      rw (lt-ltb (length out) (length (listing_of s)) k) (ap (λ (m : ℕ). refuses 9 (m ∷ [])) is, refl)

  pub enough : n ≤ length out → {left : List ℕ} → left ≡ sets out 0 (listing_of s)
      → (accepts n ≡ counted_in (listed_into s (length out))) × (left ≡ sets out 0 (octets_in (listed_into s (length out))))
  unfolding listed_into
  enough h e =
      let k : length (listing_of s) ≤ length out = omega arith in
      rw (le-ltb (length out) (length (listing_of s)) k) (ap accepts is, e)

-- with room for any listing
told_count : (r : Result ℕ Fault) {n : ℕ} → answered r ≡ accepts n → result_unwrap_or r 0 ≡ n
told_count (Ok n) e = same_accepted e
told_count (Err f) e = never e

pub whole_listing : (s out : List ℕ) → length (listing_of s) ≤ length out → (r : Result ℕ Fault) → answered r ≡ counted_in (listed_into s (length out))
    → {left : List ℕ} → left ≡ sets out 0 (octets_in (listed_into s (length out))) → {n : ℕ} → n ≡ result_unwrap_or r 0
    → (n ≡ length (listing_of s)) × ((left ≡ sets out 0 (listing_of s)) × ((n ≤ length left) × (n ≡ length (take n left))))
unfolding listed_into
whole_listing s out h r told {left} e {n} is =
    let roomy : listed_into s (length out) ≡ accepts (listing_of s) = rw (le-ltb (length out) (length (listing_of s)) h) refl in
    let k : n ≡ length (listing_of s) = is ∙ told_count r (told ∙ ap counted_in roomy) in
    let f : left ≡ sets out 0 (listing_of s) = e ∙ ap (λ (x : Answer (List ℕ)). sets out 0 (octets_in x)) roomy in
    let l : length left ≡ length out = ap length f ∙ length-sets out 0 (listing_of s) in
    let m : n ≤ length left = omega arith in
    (k, (f, (m, sym (length-take-le n left m))))
