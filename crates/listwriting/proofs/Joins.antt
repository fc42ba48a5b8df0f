-- What is joined over operators: one more, and 16 that are alike; and one operator alone. That no bit past its width is set in a value is that the value fits, and bits joined
-- are below a power of two if each is.
use Prim.Native.Nat.{ℕ, zero, suc, ◌+◌, ◌-◌, ◌*◌, ◌/◌, ◌%◌, ◌^◌, ◌≤◌, ◌<◌}
use mathlib.Core.Path.{◌≡◌, refl, sym, ◌∙◌, ap, ap₂, subst}
use mathlib.Core.List.{List, [], ◌∷◌}
use mathlib.Core.Bool.{Bool, true, false, not, ◌&&◌, ◌||◌, and-true, and-false, false≢true}
use mathlib.Core.Logic.{⊎_elim}
use native.Mathlib.Nat.{div-add-mod', div-eq_of_lt, mod-eq_of_lt, mod-lt, zero-mul}
use native.Mathlib.Omega.{arith}
use borrow.Author.Tests.{eq-eqb, ne_eqb, le-leb, lt-leb, lt-ltb, le-ltb, leb-true, leb-false, eqb-true, eqb-false, ltb-true, ltb-false, not-true, not-false}
use lib.Bits.{bit_or, bit_and, or_add_and, and_le_l, and_le_r, or_lt, and_high, and_zero_r}
use lib.Dec.{eqb, leb, ltb}
use lib.ListN.{get_or}
use lib.Pow.{pow_pos}
use Rattle.std.specs.declared.option.Option.TheVariants.{Some, None}
use Rattle.ground.proofs.Cases.{by_test, both, lt_or_le}
use Rattle.ground.specs.Picks.{pick}
use Rattle.octets.specs.Widths.{code_in, widths, width_of}
use Rattle.octets.proofs.Widths.{width_range, width_most}
use Rattle.choices.specs.Choices.{codes_by}
use Rattle.choices.proofs.WidthTable.{row}
use Rattle.operators.specs.Ops.{op}
use Rattle.listwriting.specs.declared.Sum.{Sum}
use Rattle.listwriting.specs.Lists.{size_in, fits_in, ends, takes, narrow, one_size, pair_size}
use Rattle.listwriting.specs.Runs.{beyond, Alike, Joined, sum, nothing, sound, rest, Adds}
use Rattle.listwriting.proofs.Ends.{fits_at, rest_last, rest_more, right_each}
use Rattle.listwriting.proofs.Sizes.{size_more, size_none}

-- ---- bits joined

or_least : (a b : ℕ) → (a ≤ bit_or a b) × (b ≤ bit_or a b)
or_least a b =
    let s : bit_or a b + bit_and a b ≡ a + b = or_add_and a b in
    let l : bit_and a b ≤ a = and_le_l a b in
    let r : bit_and a b ≤ b = and_le_r a b in
    (omega arith, omega arith)

or_below : (k a b : ℕ) → ltb (bit_or a b) (2 ^ k) ≡ (ltb a (2 ^ k) && ltb b (2 ^ k))
or_below k a b =
    let l = or_least a b in
    by_test (ltb a (2 ^ k))
    (λ e. by_test (ltb b (2 ^ k))
    (λ f. lt-ltb (bit_or a b) (2 ^ k) (or_lt k a b (ltb-true a (2 ^ k) e) (ltb-true b (2 ^ k) f)) ∙ sym (rw (e, f)))
    (λ f. le-ltb (bit_or a b) (2 ^ k) (omega (arith, l.1, ltb-false b (2 ^ k) f)) ∙ sym (rw (e, f))))
    (λ e. le-ltb (bit_or a b) (2 ^ k) (omega (arith, l.0, ltb-false a (2 ^ k) e)) ∙ sym (rw e))

zero_below : (a : ℕ) → eqb a 0 ≡ ltb a (2 ^ 0)
zero_below a = by_test (eqb a 0) (λ e. e ∙ sym (lt-ltb a 1 (omega (arith, eqb-true a 0 e)))) (λ e. e ∙ sym (le-ltb a 1 (omega (arith, eqb-false a 0 e))))

or_none : (a b : ℕ) → eqb (bit_or a b) 0 ≡ (eqb a 0 && eqb b 0)
or_none a b = zero_below (bit_or a b) ∙ or_below 0 a b ∙ sym (ap₂ ◌&&◌ (zero_below a) (zero_below b))

-- ---- the tables

-- by the width's code: the octets of an operator
abbrev pub octets_by : List ℕ
octets_by = 2 ∷ 3 ∷ 5 ∷ 9 ∷ []

-- no bit of the upper ones
none_above : (a v n : ℕ) → (n ≤ v → 0 < a) → (v < n → a ≡ 0) → eqb a 0 ≡ ltb v n
none_above a v n f g =
    by_test (ltb v n)
    (λ e. eq-eqb a 0 (g (ltb-true v n e)) ∙ sym e)
    (λ e. ne_eqb a 0 (λ z. let p : 0 < a = f (ltb-false v n e) in omega arith) ∙ sym e)

-- v has j digits more than k, of which the mask keeps the upper
upper : (j k v : ℕ) → v / 2 ^ k < 2 ^ j → eqb (bit_and v (2 ^ (j + k) - 2 ^ k)) 0 ≡ ltb v (2 ^ k)
upper j k v h =
    let e : bit_and v (2 ^ (j + k) - 2 ^ k) ≡ v / 2 ^ k * 2 ^ k = and_high v j k ∙ ap (λ (q : ℕ). q * 2 ^ k) (mod-eq_of_lt h) in
    let d : v / 2 ^ k * 2 ^ k + v % 2 ^ k ≡ v = div-add-mod' v (2 ^ k) in
    let m : v % 2 ^ k < 2 ^ k = mod-lt v (pow_pos k) in
    none_above (bit_and v (2 ^ (j + k) - 2 ^ k)) v (2 ^ k) (λ l. omega (arith, e)) (λ l. e ∙ ap (λ (q : ℕ). q * 2 ^ k) (div-eq_of_lt l) ∙ zero-mul (2 ^ k))

pub beyond_by : (code v : ℕ) → code < 4 → v < 2 ^ 64 → eqb (bit_and v (get_or beyond code 0)) 0 ≡ ltb v (2 ^ (8 * get_or widths code 0))
beyond_by zero v h b = upper 56 8 v (omega arith)
beyond_by (suc zero) v h b = upper 48 16 v (omega arith)
beyond_by (suc (suc zero)) v h b = upper 32 32 v (omega arith)
beyond_by (suc (suc (suc zero))) v h b = none_above (bit_and v 0) v 18446744073709551616 (λ k. absurd (omega arith)) (λ k. and_zero_r v)
beyond_by (suc (suc (suc (suc k)))) v h b = absurd (omega arith)

pub octets_by_lem : (code : ℕ) → code < 4 → get_or octets_by code 0 ≡ 1 + get_or widths code 0
octets_by_lem zero h = refl
octets_by_lem (suc zero) h = refl
octets_by_lem (suc (suc zero)) h = refl
octets_by_lem (suc (suc (suc zero))) h = refl
octets_by_lem (suc (suc (suc (suc k)))) h = absurd (omega arith)

-- ---- 16 operators

-- the place after those that have it has it too
one_more : {P : ℕ → Type 0} (from q : ℕ) → ((i : ℕ) → from ≤ i → i < q → P i) → P q → (i : ℕ) → from ≤ i → i < q + 1 → P i
one_more {P} from q h p i f t = ⊎_elim (h i f) (λ k. let e : q ≡ i = omega arith in rw e at p) (lt_or_le i q)

pub alike_more : (os : List ℕ) (code from q : ℕ) (same : Bool) → (same ≡ true → Alike os code from q)
    → ((same && eqb (code_in (get_or os q 0)) code) && ltb (get_or os q 0) 128) ≡ true → Alike os code from (q + 1)
alike_more os code from q same h e =
    let o = get_or os q 0 in
    let m = both (same && eqb (code_in o) code) (ltb o 128) e in
    let s = both same (eqb (code_in o) code) m.0 in
    one_more from q (h s.0) (eqb-true (code_in o) code s.1, ltb-true o 128 m.1)

module _ (vs : List ℕ) (from : ℕ) where
  pub joined_none : Joined vs from (from + 0) 0
  joined_none = record { each = λ i f t. absurd (omega arith); least = λ k h. pow_pos k }

  pub joined_more : (n all : ℕ) → Joined vs from (from + n) all → Joined vs from (from + (n + 1)) (bit_or all (get_or vs (from + n) 0))
  joined_more n all j =
      let l = or_least all (get_or vs (from + n) 0) in
      record {
        each = λ i f t. one_more {P = λ (j : ℕ). get_or vs j 0 ≤ bit_or all (get_or vs (from + n) 0)} from (from + n) (λ i f t. omega (arith, j.each i f t, l.0)) l.1 i f (omega arith);
        least = λ k b. or_lt k all (get_or vs (from + n) 0) (j.least k (λ i f t. b i f (omega arith))) (b (from + n) (omega arith) (omega arith));
      }

-- ---- what is joined, and what is left of a list

shuffled : (a b f c r : Bool) → (((a && f) && (b && c)) && r) ≡ ((a && b) && (f && (c && r)))
shuffled true true true c r = refl
shuffled true true false c r = refl
shuffled true false true c r = refl
shuffled true false false c r = refl
shuffled false b f c r = refl

not_marked : (o : ℕ) → ltb o 128 ≡ not (leb 128 o)
not_marked o =
    by_test (ltb o 128)
    (λ e. e ∙ sym (ap not (lt-leb 128 o (ltb-true o 128 e))))
    (λ e. e ∙ sym (ap not (le-leb 128 o (ltb-false o 128 e))))

sound_more : (over marks x o : ℕ) (r : Bool) → (sound (sum (bit_or over x) (bit_or marks o) 0) && r) ≡ (sound (sum over marks 0) && (eqb x 0 && (not (leb 128 o) && r)))
sound_more over marks x o r =
    ap₂ (λ a b. (a && b) && r) (or_none over x) (or_below 7 marks o ∙ ap (λ c. ltb marks 128 && c) (not_marked o))
    ∙ shuffled (eqb over 0) (ltb marks 128) (eqb x 0) (not (leb 128 o)) r

kept : (a b r : Bool) → (((a && true) && b) && r) ≡ ((a && b) && r)
kept true b r = refl
kept false b r = refl

lost : (a b r : Bool) → (((a && false) && b) && r) ≡ ((a && b) && false)
lost true true r = refl
lost true false r = refl
lost false b r = refl

module _ (vs os : List ℕ) where
  pub adds_none : (from : ℕ) (s : Sum) → Adds vs os from from s s
  adds_none from s = record { added = λ end h. record { right = refl; long = refl }; most = omega arith }

  pub adds_chain : {from q to : ℕ} {s r t : Sum} → q ≤ to → Adds vs os from q s r → Adds vs os q to r t → Adds vs os from to s t
  adds_chain {from} {q} {to} {s} {r} {t} h f g = record {
    added = λ end e.
        let a = f.added end (omega arith) in
        let b = g.added end e in
        record { right = b.right ∙ a.right; long = b.long ∙ a.long };
    most = omega (arith, f.most, g.most);
  }

  -- one operator more
  module _ (q : ℕ) (word : get_or vs q 0 < 2 ^ 64) where
    known : code_in (get_or os q 0) < 4
    known = omega arith

    pub adds_one : (over marks n : ℕ)
        → Adds vs os q (q + 1) (sum over marks n) (sum (bit_or over (bit_and (get_or vs q 0) (get_or beyond (code_in (get_or os q 0)) 0))) (bit_or marks (get_or os q 0)) (n + get_or octets_by (code_in (get_or os q 0)) 0))
    adds_one over marks n = record {
      added = λ end h. record {
        right =
            sound_more over marks (bit_and (get_or vs q 0) (get_or beyond (code_in (get_or os q 0)) 0)) (get_or os q 0) (rest vs os (q + 1) end)
            ∙ ap (λ x. sound (sum over marks n) && (x && (not (leb 128 (get_or os q 0)) && rest vs os (q + 1) end))) (beyond_by (code_in (get_or os q 0)) (get_or vs q 0) known word)
            ∙ ap (λ x. sound (sum over marks n) && x) (sym (rest_more vs os q end h));
        long = omega (arith, size_more os q end (omega arith), octets_by_lem (code_in (get_or os q 0)) known);
      };
      most = omega (arith, octets_by_lem (code_in (get_or os q 0)) known, (width_range (code_in (get_or os q 0)) known).1);
    }

  -- operators that are alike
  module _ (code from to : ℕ) (known : code < 4) (alike : Alike os code from to) where
    size_alike : (end n q : ℕ) → to ≤ end → from ≤ q → q + n ≡ to → size_in os q (end - q) ≡ n * get_or octets_by code 0 + size_in os to (end - to)
    size_alike end zero q h f e = let z : q ≡ to = omega arith in rw z (omega arith)
    size_alike end (suc n) q h f e =
        let w : width_of (get_or os q 0) ≡ get_or widths code 0 = ap (λ (k : ℕ). get_or widths k 0) (alike q f (omega arith)).0 in
        omega (arith, size_more os q end (omega arith), size_alike end n (q + 1) h (omega arith) (omega arith), w, octets_by_lem code known)

    module _ (end : ℕ) (h : to < end) where
      all_fit : ((i : ℕ) → from ≤ i → i < to → fits_at vs os i ≡ true) → (n q : ℕ) → from ≤ q → q + n ≡ to → rest vs os q end ≡ rest vs os to end
      all_fit a zero q f e = let z : q ≡ to = omega arith in rw z
      all_fit a (suc n) q f e =
          rest_more vs os q end (omega arith)
          ∙ ap₂ (λ x y. x && (not y && rest vs os (q + 1) end)) (a q f (omega arith)) (lt-leb 128 (get_or os q 0) (alike q f (omega arith)).1)
          ∙ all_fit a n (q + 1) (omega arith) (omega arith)

    fits_by : (i : ℕ) → from ≤ i → i < to → fits_at vs os i ≡ ltb (get_or vs i 0) (2 ^ (8 * get_or widths code 0))
    fits_by i f t = ap (λ (k : ℕ). ltb (get_or vs i 0) (2 ^ (8 * get_or widths k 0))) (alike i f t).0

    module _ (all : ℕ) (join : Joined vs from to all) (word : all < 2 ^ 64) (up : from ≤ to) where
      alike_right : (end over marks : ℕ) → to < end
          → (sound (sum (bit_or over (bit_and all (get_or beyond code 0))) marks 0) && rest vs os to end) ≡ (sound (sum over marks 0) && rest vs os from end)
      alike_right end over marks h =
          ap (λ x. (x && ltb marks 128) && rest vs os to end) (or_none over (bit_and all (get_or beyond code 0)))
          ∙ by_test (ltb all (2 ^ (8 * get_or widths code 0)))
          (λ e.
          let a : (i : ℕ) → from ≤ i → i < to → fits_at vs os i ≡ true = λ i f t. fits_by i f t ∙ lt-ltb (get_or vs i 0) (2 ^ (8 * get_or widths code 0)) (omega (arith, join.each i f t, ltb-true all (2 ^ (8 * get_or widths code 0)) e)) in
          ap₂ (λ x y. ((eqb over 0 && x) && ltb marks 128) && y) (beyond_by code all known word ∙ e) (sym (all_fit end h a (to - from) from (omega arith) (omega arith)))
          ∙ kept (eqb over 0) (ltb marks 128) (rest vs os from end))
          (λ e.
          let b : rest vs os from end ≡ false = by_test (rest vs os from end)
          (λ r. absurd (false≢true (sym e ∙ lt-ltb all (2 ^ (8 * get_or widths code 0)) (join.least (8 * get_or widths code 0) (λ i f t. ltb-true (get_or vs i 0) (2 ^ (8 * get_or widths code 0)) (sym (fits_by i f t) ∙ right_each vs os from end r i f (omega arith)))))))
          (λ r. r) in
          ap (λ x. ((eqb over 0 && x) && ltb marks 128) && rest vs os to end) (beyond_by code all known word ∙ e)
          ∙ lost (eqb over 0) (ltb marks 128) (rest vs os to end)
          ∙ sym (ap (λ x. sound (sum over marks 0) && x) b))

  -- 16 of them
  pub adds_alike : (code from : ℕ) → code < 4 → Alike os code from (from + 16) → (all : ℕ) → Joined vs from (from + 16) all → all < 2 ^ 64 → (over marks n : ℕ)
      → Adds vs os from (from + 16) (sum over marks n) (sum (bit_or over (bit_and all (get_or beyond code 0))) marks (n + 16 * get_or octets_by code 0))
  adds_alike code from known alike all join word over marks n = record {
    added = λ end h. record {
      right = alike_right code from (from + 16) known alike all join word (omega arith) end over marks h;
      long = omega (arith, size_alike code from (from + 16) known alike end 16 from (omega arith) (omega arith) (omega arith));
    };
    most = omega (arith, octets_by_lem code known, (width_range code known).1);
  }

  -- the last operator, and what was joined of those before it
  module _ (from last end : ℕ) (is : last + 1 ≡ end) (r : Sum) (h : Adds vs os from last nothing r) (word : get_or vs last 0 < 2 ^ 64) where
    ending : (a b f c : Bool) → (((a && f) && b) && c) ≡ ((a && b) && (f && c))
    ending true true true c = refl
    ending true true false c = refl
    ending true false true c = refl
    ending true false false c = refl
    ending false b f c = refl

    code_known : code_in (get_or os last 0) < 4
    code_known = omega arith

    pub ended_right : (m : ℕ) → m ≡ get_or beyond (code_in (get_or os last 0)) 0
        → ((eqb (bit_or r.over (bit_and (get_or vs last 0) m)) 0 && ltb r.marks 128) && leb 128 (get_or os last 0)) ≡ rest vs os from end
    ended_right m e =
        ap (λ x. (x && ltb r.marks 128) && leb 128 (get_or os last 0))
        (or_none r.over (bit_and (get_or vs last 0) m)
        ∙ ap (λ x. eqb r.over 0 && x) (ap (λ (k : ℕ). eqb (bit_and (get_or vs last 0) k) 0) e ∙ beyond_by (code_in (get_or os last 0)) (get_or vs last 0) code_known word))
        ∙ ending (eqb r.over 0) (ltb r.marks 128) (fits_at vs os last) (leb 128 (get_or os last 0))
        ∙ ap (λ x. sound r && x) (sym (rest_last vs os last end is))
        ∙ (h.added end (omega arith)).right

    pub ended_long : r.size + 1 + width_of (get_or os last 0) ≡ size_in os from (end - from)
    ended_long = omega (arith, (h.added end (omega arith)).long, size_more os last end (omega arith), size_none os (last + 1) end (omega arith))

    pub ended_most : r.size + 1 + width_of (get_or os last 0) ≤ 9 * (last - from) + 9
    ended_most = omega (arith, h.most, width_most (get_or os last 0))

-- one operator alone: its two highest bits are 10, and no bit past its width is set
module _ (o v m : ℕ) (octet : o < 256) (word : v < 2 ^ 64) (is : m ≡ get_or beyond (code_in o) 0) where
  alone_fits : eqb (bit_and v m) 0 ≡ fits_in o v
  alone_fits = ap (λ (k : ℕ). eqb (bit_and v k) 0) is ∙ beyond_by (code_in o) v (omega arith) word

  highest : (b : Bool) → eqb (o / 64) 2 ≡ b → (not (eqb (o % 128 / 64) 1) && (fits_in o v && leb 128 o)) ≡ (b && fits_in o v)
  highest true e =
      let k : o / 64 ≡ 2 = eqb-true (o / 64) 2 e in
      ap₂ (λ x y. not x && (fits_in o v && y)) (ne_eqb (o % 128 / 64) 1 (λ z. omega arith)) (le-leb 128 o (omega arith))
      ∙ and-true (fits_in o v)
  highest false e =
      let k = eqb-false (o / 64) 2 e in
      ⊎_elim
      (λ l. ap (λ y. not (eqb (o % 128 / 64) 1) && (fits_in o v && y)) (lt-leb 128 o l) ∙ ap (λ y. not (eqb (o % 128 / 64) 1) && y) (and-false (fits_in o v)) ∙ and-false (not (eqb (o % 128 / 64) 1)))
      (λ l. ap (λ x. not x && (fits_in o v && leb 128 o)) (eq-eqb (o % 128 / 64) 1 (⊎_elim (λ a. omega arith) (λ a. absurd (k (omega arith))) (lt_or_le 191 o))))
      (lt_or_le o 128)

  alone_takes : takes (op o v ∷ []) ≡ (eqb (o / 64) 2 && eqb (bit_and v m) 0)
  unfolding takes ends
  alone_takes = highest (eqb (o / 64) 2) refl ∙ ap (λ x. eqb (o / 64) 2 && x) (sym alone_fits)

  neither : (a b : Bool) → not a || not b ≡ not (a && b)
  neither true b = refl
  neither false b = refl

  pub alone_not : (t : ℕ) → not (eqb (o / 64) 2) || not (eqb (bit_and v m) 0) ≡ true → None ≡ one_size t o v
  alone_not t e = rw (alone_takes, not-true (eqb (o / 64) 2 && eqb (bit_and v m) 0) (sym (neither (eqb (o / 64) 2) (eqb (bit_and v m) 0)) ∙ e))

  -- and what the type says of its width
  module _ (t : ℕ) (e : not (eqb (o / 64) 2) || not (eqb (bit_and v m) 0) ≡ false) where
    alone_is : one_size t o v ≡ pick (ltb (code_in o) (codes_by t)) (Some (2 + width_of o)) None
    unfolding narrow
    alone_is =
        rw (alone_takes, not-false (eqb (o / 64) 2 && eqb (bit_and v m) 0) (sym (neither (eqb (o / 64) 2) (eqb (bit_and v m) 0)) ∙ e))
        (ap (λ b. pick b (Some (2 + width_of o)) None) (and-true (ltb (code_in o) (codes_by t))))

    pub alone_wide : leb (codes_by t) (code_in o) ≡ true → None ≡ one_size t o v
    alone_wide w = sym (alone_is ∙ rw (le-ltb (code_in o) (codes_by t) (leb-true (codes_by t) (code_in o) w)))

    pub alone_narrow : leb (codes_by t) (code_in o) ≡ false → Some (2 + width_of o) ≡ one_size t o v
    alone_narrow w = sym (alone_is ∙ rw (lt-ltb (code_in o) (codes_by t) (leb-false (codes_by t) (code_in o) w)))

-- two operators: neither of the first's two highest bits is set, the second's highest is, and no bit past a width
unmarked : (o : ℕ) → o < 256 → eqb (o / 64) 0 ≡ (not (eqb (o % 128 / 64) 1) && not (leb 128 o))
unmarked o b =
    by_test (eqb (o / 64) 0)
    (λ e. let k : o / 64 ≡ 0 = eqb-true (o / 64) 0 e in rw (e, ne_eqb (o % 128 / 64) 1 (λ z. omega arith), lt-leb 128 o (omega arith)))
    (λ e. let k = eqb-false (o / 64) 0 e in
    ⊎_elim
    (λ l. rw (e, eq-eqb (o % 128 / 64) 1 (⊎_elim (λ a. absurd (k (omega arith))) (λ a. omega arith) (lt_or_le o 64))))
    (λ l. rw (e, le-leb 128 o l) (sym (and-false (not (eqb (o % 128 / 64) 1)))))
    (lt_or_le o 128))

in_turn_lem : (x f y g l : Bool) → (((x && y) && l) && (f && g)) ≡ (x && (f && (y && (g && l))))
in_turn_lem true true true true true = refl
in_turn_lem true true true true false = refl
in_turn_lem true true true false true = refl
in_turn_lem true true true false false = refl
in_turn_lem true true false g l = refl
in_turn_lem true false true g true = refl
in_turn_lem true false true g false = refl
in_turn_lem true false false g l = refl
in_turn_lem false f y g l = refl

module _ (o v m : ℕ) (octet : o < 256) (word : v < 2 ^ 64) (is : m ≡ get_or beyond (code_in o) 0)
    (p w n : ℕ) (octet₂ : p < 256) (word₂ : w < 2 ^ 64) (is₂ : n ≡ get_or beyond (code_in p) 0) where
  pub pair_takes : ((eqb (o / 64) 0 && leb 128 p) && eqb (bit_or (bit_and v m) (bit_and w n)) 0) ≡ takes (op o v ∷ op p w ∷ [])
  unfolding takes ends
  pair_takes =
      ap₂ (λ x y. (x && leb 128 p) && y) (unmarked o octet) (or_none (bit_and v m) (bit_and w n) ∙ ap₂ ◌&&◌ (alone_fits o v m octet word is) (alone_fits p w n octet₂ word₂ is₂))
      ∙ in_turn_lem (not (eqb (o % 128 / 64) 1)) (fits_in o v) (not (leb 128 o)) (fits_in p w) (leb 128 p)

-- their widths, by the bits of both codes
not_leb : (a b : ℕ) → leb a b ≡ not (ltb b a)
not_leb a b =
    by_test (leb a b)
    (λ e. rw (e, le-ltb b a (leb-true a b e)))
    (λ e. rw (e, lt-ltb b a (leb-false a b e)))

pub pair_wide : (t o p v w : ℕ) → leb (codes_by t) (bit_or (code_in o) (code_in p)) ≡ not (narrow (codes_by t) (op o v ∷ op p w ∷ []))
unfolding narrow
pair_wide t o p v w =
    let c = codes_by t in
    let q = row t in
    let e : ltb (bit_or (code_in o) (code_in p)) c ≡ (ltb (code_in o) c && ltb (code_in p) c) =
    subst (λ (n : ℕ). ltb (bit_or (code_in o) (code_in p)) n ≡ (ltb (code_in o) n && ltb (code_in p) n)) (sym q.power) (or_below q.exponent (code_in o) (code_in p)) in
    not_leb c (bit_or (code_in o) (code_in p)) ∙ ap not (e ∙ ap (λ b. ltb (code_in o) c && b) (sym (and-true (ltb (code_in p) c))))

-- the ways that two operators go: by the test, then by their widths
module _ (o v m : ℕ) (octet : o < 256) (word : v < 2 ^ 64) (is : m ≡ get_or beyond (code_in o) 0)
    (p w n : ℕ) (octet₂ : p < 256) (word₂ : w < 2 ^ 64) (is₂ : n ≡ get_or beyond (code_in p) 0) (t : ℕ) where
  abbrev tested : Bool
  tested = (eqb (o / 64) 0 && leb 128 p) && eqb (bit_or (bit_and v m) (bit_and w n)) 0

  taken_by : {b : Bool} → tested ≡ b → takes (op o v ∷ op p w ∷ []) ≡ b
  taken_by e = sym (pair_takes o v m octet word is p w n octet₂ word₂ is₂) ∙ e

  pub pair_not : tested ≡ false → None ≡ pair_size t o v p w
  pair_not e = rw (taken_by e)

  module _ (e : tested ≡ true) where
    pub pair_not_wide : leb (codes_by t) (bit_or (code_in o) (code_in p)) ≡ true → None ≡ pair_size t o v p w
    pair_not_wide f = rw (taken_by e, not-true (narrow (codes_by t) (op o v ∷ op p w ∷ [])) (sym (pair_wide t o p v w) ∙ f))

    pub pair_narrow : leb (codes_by t) (bit_or (code_in o) (code_in p)) ≡ false → Some (3 + width_of o + width_of p) ≡ pair_size t o v p w
    pair_narrow f = rw (taken_by e, not-false (narrow (codes_by t) (op o v ∷ op p w ∷ [])) (sym (pair_wide t o p v w) ∙ f))

pub code_join : (o p : ℕ) → bit_or (code_in o) (code_in p) < 4
code_join o p = or_lt 2 (code_in o) (code_in p) (omega arith) (omega arith)
