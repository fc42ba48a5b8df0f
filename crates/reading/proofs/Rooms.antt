-- Room for a rule: what `lacking` says of an input that was tested. Whoever tests an input, asks what is lacking and then stores, as `read_into` does, finds here
-- what the reading gives and that `store` may be called.
use Prim.Native.Nat.{ℕ, ◌≤◌, ◌<◌}
use mathlib.Core.Path.{◌≡◌, refl, sym, ◌∙◌, ap}
use mathlib.Core.Bool.{Bool, true}
use mathlib.Core.Logic.{⊎_elim}
use mathlib.Core.List.{List, [], ◌∷◌}
use native.Mathlib.Omega.{arith}
use borrow.Author.Tests.{lt-ltb, le-ltb, ltb-false, leb-true, leb-false}
use lib.Dec.{ltb, leb}
use lib.ListN.{length}
use Rattle.std.specs.Prelude.{Some, None, ◌⊎◌}
use Rattle.ground.proofs.Answers.{never}
use Rattle.ground.proofs.Cases.{by_test}
use Rattle.ground.specs.Answers.{Answer, Refused, accepts, refuses, declines}
use Rattle.choices.specs.declared.Reading.{Reading}
use Rattle.lists.specs.Runs.{Places}
use Rattle.reading.specs.declared.Taken.{Taken}
use Rattle.reading.specs.Readings.{ReadRule, read_at, shorter, roomed, read_into, taken, taken_of}
use Rattle.reading.specs.Parts.{is_read, rule_in, read_of, lacking_of}

-- room is lacking, or it is not
some_none : {A : Type 0} {k : ℕ} → None ≡ Some k → A
some_none e = absurd (cc)

-- the shorter of two
module _ (m n k : ℕ) where
  short_first : m < k → shorter m n < k
  short_first h = by_test (leb m n) (λ t. rw t h) (λ f. let g = leb-false m n f in rw f (omega arith))

  short_second : n < k → shorter m n < k
  short_second h = by_test (leb m n) (λ t. let g = leb-true m n t in rw t (omega arith)) (λ f. rw f h)

  long_both : k ≤ m → k ≤ n → k ≤ shorter m n
  long_both h l = by_test (leb m n) (λ t. rw t h) (λ f. rw f l)

  both_long : k ≤ shorter m n → (k ≤ m) × (k ≤ n)
  both_long h =
      by_test (leb m n)
      (λ t. let g = leb-true m n t in let l = rw t at h in (omega arith, omega arith))
      (λ f. let g = leb-false m n f in let l = rw f at h in (omega arith, omega arith))

-- each return of `lacking`
module _ (n words values octets : ℕ) where
  pub lacks_words : words < 64 → Some 1 ≡ lacking_of n words values octets
  unfolding lacking_of
  lacks_words h = simp (lt-ltb words 64 h)

  module _ (w : 64 ≤ words) where
    lacks_places : shorter values octets < n → Some n ≡ lacking_of n words values octets
    unfolding lacking_of
    lacks_places h = simp (le-ltb words 64 w, lt-ltb (shorter values octets) n h)

    pub lacks_either : (values < n) ⊎ ((n ≤ values) × (octets < n)) → Some n ≡ lacking_of n words values octets
    lacks_either = ⊎_elim (λ h. lacks_places (short_first values octets n h)) (λ h. lacks_places (short_second values octets n h.1))

    pub lacks_none : n ≤ values → n ≤ octets → None ≡ lacking_of n words values octets
    unfolding lacking_of
    lacks_none h l = simp (le-ltb words 64 w, le-ltb (shorter values octets) n (long_both values octets n h l))

  -- where nothing is lacking there is room
  pub enough : None ≡ lacking_of n words values octets → (64 ≤ words) × ((n ≤ values) × (n ≤ octets))
  unfolding lacking_of
  enough e =
      by_test (ltb words 64)
      (λ t. let z = rw t at e in some_none z)
      (λ f. by_test (ltb (shorter values octets) n)
      (λ t. let z = rw (f, t) at e in some_none z)
      (λ g. (ltb-false words 64 f, both_long values octets n (ltb-false (shorter values octets) n g))))

-- what a rule is with so much room, by what is lacking
module _ (r : ReadRule) (words values octets : ℕ) where
  pub roomed_lacking : {k : ℕ} → Some k ≡ lacking_of (length r.operators) words values octets → roomed (accepts r) words values octets ≡ refuses 9 (k ∷ [])
  unfolding lacking_of
  roomed_lacking {k} e =
      by_test (ltb words 64)
      (λ t. let z = rw t at e in let k_is : k ≡ 1 = cc in rw (t, k_is))
      (λ f. by_test (ltb (shorter values octets) (length r.operators))
      (λ t. let z = rw (f, t) at e in let k_is : k ≡ length r.operators = cc in rw (f, t, k_is))
      (λ g. let z = rw (f, g) at e in some_none (sym z)))

  pub roomed_whole : None ≡ lacking_of (length r.operators) words values octets → roomed (accepts r) words values octets ≡ accepts r
  roomed_whole e =
      let m = enough (length r.operators) words values octets e in
      simp (le-ltb words 64 m.0, le-ltb (shorter values octets) (length r.operators) (long_both values octets (length r.operators) m.1.0 m.1.1))

-- what is behind what was taken
untaken_refused : (a : Answer ReadRule) {f : Refused} → declines f ≡ taken_of a → a ≡ declines f
untaken_refused (accepts x) e = never e
untaken_refused (declines f) e = cc

taken_in : {u n u' n' : ℕ} → accepts (taken u n) ≡ accepts (taken u' n') → (u ≡ u') × (n ≡ n')
taken_in {u} {n} {u'} {n'} e = let z : taken u n ≡ taken u' n' = cc in (ap (λ (t : Taken). t.used) z, ap (λ (t : Taken). t.operators) z)

untaken : (a : Answer ReadRule) {u n : ℕ} → accepts (taken u n) ≡ taken_of a → (is_read a ≡ true) × ((a ≡ accepts (rule_in a)) × ((u ≡ (rule_in a).used) × (n ≡ length (rule_in a).operators)))
untaken (accepts x) e = let t = taken_in e in (refl, (refl, t))
untaken (declines f) e = never (sym e)

-- what `store` asks of an input that was accepted
module _ (r : Reading) (rd : Bool) (s : List ℕ) {u n : ℕ} (q : accepts (taken u n) ≡ taken_of (read_at r rd s)) where
  pub tested : (is_read (read_at r rd s) ≡ true) × (u ≡ (read_of r rd s).used)
  tested = ((untaken (read_at r rd s) q).0, (untaken (read_at r rd s) q).1.1.0)

  pub counted_in_lem : length (read_of r rd s).operators ≡ n
  counted_in_lem = sym (untaken (read_at r rd s) q).1.1.1

module _ (r : Reading) (rd : Bool) (s : List ℕ) (words values octets : ℕ) where
  by_read : {a : Answer ReadRule} → read_at r rd s ≡ a → read_into r rd s words values octets ≡ roomed a words values octets
  unfolding read_into
  by_read e = ap (λ (x : Answer ReadRule). roomed x words values octets) e

  -- an input that is refused is refused with any room
  pub into_refused : {f : Refused} → declines f ≡ taken_of (read_at r rd s) → read_into r rd s words values octets ≡ declines f
  into_refused e = by_read (untaken_refused (read_at r rd s) e)

  -- one that is accepted goes by what is lacking
  module _ {u n : ℕ} (q : accepts (taken u n) ≡ taken_of (read_at r rd s)) where
    into_by : read_into r rd s words values octets ≡ roomed (accepts (read_of r rd s)) words values octets
    into_by = by_read (untaken (read_at r rd s) q).1.0

    pub into_lacking : {k : ℕ} → Some k ≡ lacking_of n words values octets → read_into r rd s words values octets ≡ refuses 9 (k ∷ [])
    into_lacking {k} e =
        let z : Some k ≡ lacking_of (length (read_of r rd s).operators) words values octets = rw (counted_in_lem r rd s q) e in
        into_by ∙ roomed_lacking (read_of r rd s) words values octets z

    module _ (e : None ≡ lacking_of n words values octets) where
      pub into_roomed : read_into r rd s words values octets ≡ accepts (read_of r rd s)
      into_roomed =
          let z : None ≡ lacking_of (length (read_of r rd s).operators) words values octets = rw (counted_in_lem r rd s q) e in
          into_by ∙ roomed_whole (read_of r rd s) words values octets z

      pub room : (64 ≤ words) × Places 0 (length (read_of r rd s).operators) values octets
      room =
          let m = enough n words values octets e in
          let i = counted_in_lem r rd s q in
          (m.0, record { in_values = omega arith; in_octets = omega arith })
