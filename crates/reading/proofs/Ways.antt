-- The ways that a reading into lent lists goes, over plain lists: one law for each return of `test_body`, `test`, `read_into` and `read`.
use Prim.Native.Nat.{ℕ, ◌+◌, ◌-◌, ◌^◌, ◌≤◌, ◌<◌}
use mathlib.Core.Path.{◌≡◌, refl, sym, ◌∙◌, ap, ap₂}
use mathlib.Core.Bool.{Bool, true, false}
use mathlib.Core.List.{List, [], ◌∷◌, map}
use native.Mathlib.Omega.{arith}
use lib.ListN.{length, get_or, length-take, length-drop}
use lib.Seq.{sets}
use Rattle.ground.specs.Answers.{Answer, Refused, at_octet, answer_by, accepts, refuses, refuses_at, declines}
use Rattle.ground.proofs.Answers.{never}
use Rattle.std.specs.Prelude.{Option, None, Some}
use Rattle.refusals.specs.declared.Fault.{Fault}
use Rattle.refusals.specs.Refusals.{place_of, told, Movable}
use Rattle.octets.specs.declared.Length.{Length}
use Rattle.octets.specs.Lengths.{length_at, length_width, length_value}
use Rattle.octets.proofs.Lengths.{field_whole}
use Rattle.choices.specs.declared.Reading.{Reading}
use Rattle.choices.specs.declared.Reading.TheVariants.{Plain, Ipv4, Ipv6}
use Rattle.choices.specs.Choices.{expects, bound_of, front_of, family_of, standard_of}
use Rattle.operators.specs.Ops.{octet_of, number_of}
use Rattle.stored.specs.Stored.{head, rule_words}
use Rattle.walk.specs.Walks.{Body, walk_at, counted}
use Rattle.walk.proofs.Places.{walk_breaks}
use Rattle.reading.specs.declared.Taken.{Taken}
use Rattle.reading.specs.Readings.{ReadRule, ruled, part, front_at, stated_at, after_length, too_long, read_at, read_into, by_reading, standard_into, taken, taken_of, words_of, operators_of}
use Rattle.reading.specs.Parts.{read_of, lacking_of}
use Rattle.reading.proofs.Stated.{told_so, told_not, stated_past, stated_short, stated_components}
use Rattle.reading.proofs.Rooms.{into_refused, into_lacking, into_roomed, tested, counted_in_lem}

-- what a reading answers and leaves
abbrev pub Post : Answer ReadRule → (ws vs os : List ℕ) → Answer Taken → (ws' vs' os' : List ℕ) → Type 0
Post a ws vs os told ws' vs' os' =
    (told ≡ taken_of a) × ((ws' ≡ sets ws 0 (words_of a)) × ((vs' ≡ sets vs 0 (map number_of (operators_of a))) × (os' ≡ sets os 0 (map octet_of (operators_of a)))))

pub refused : (a : Answer ReadRule) {f : Refused} → a ≡ declines f → (ws vs os : List ℕ) → Post a ws vs os (declines f) ws vs os
refused a e ws vs os = (rw e, (rw e, (rw e, rw e)))

filled : (a : Answer ReadRule) {r : ReadRule} → a ≡ accepts r → (ws vs os : List ℕ) {ws' vs' os' : List ℕ} {n : ℕ} → length r.operators ≡ n
    → ws' ≡ sets ws 0 (rule_words r.pieces (head r.family 0 r.distinguisher)) → vs' ≡ sets vs 0 (map number_of r.operators) → os' ≡ sets os 0 (map octet_of r.operators)
    → Post a ws vs os (accepts (taken r.used n)) ws' vs' os'
filled a {r} e ws vs os i x y z = (rw e (ap (λ (m : ℕ). accepts (taken r.used m)) (sym i)), (rw e x, (rw e y, rw e z)))

-- where the part ends that a walk sees
pub bound_in : (r : Reading) (n from stated : ℕ) → from ≤ stated → stated ≤ n → (from ≤ bound_of r n stated) × (bound_of r n stated ≤ n)
bound_in Plain n from stated h k = (omega arith, omega arith)
bound_in Ipv4 n from stated h k = (omega arith, omega arith)
bound_in Ipv6 n from stated h k = (omega arith, omega arith)

-- what is taken, from what the walk counted
abbrev pub taken_by : ℕ → Answer ℕ → Answer Taken
taken_by used (accepts n) = accepts (taken used n)
taken_by used (declines f) = declines f

taken_ruled : (family : ℕ) (d : Option ℕ) (used start : ℕ) (a : Answer Body) → taken_by used (answer_by start (counted a)) ≡ taken_of (ruled family d used (answer_by start a))
taken_ruled family d used start (accepts b) = refl
taken_ruled family d used start (declines f) = refl

-- the first walk over a body
module _ (r : Reading) (rd : Bool) (s : List ℕ) (start size : ℕ) (in-input : start ≤ length s) where
  pub past_taken : length s - start < size → refuses_at 1 [] (length s) ≡ taken_of (stated_at r rd s start size)
  past_taken h = sym (ap taken_of (stated_past r rd s start size (omega arith)))

  module _ (h : size ≤ length s - start) where
    pub short_taken : size < front_of r rd → refuses_at 19 [] (start + size) ≡ taken_of (stated_at r rd s start size)
    short_taken k = sym (ap taken_of (stated_short r rd s start size (omega arith) k))

    -- the walk starts at a place, so many octets before the stated end
    module _ (k : front_of r rd ≤ size) {from left end : ℕ} (f : from ≡ start + front_of r rd) (l : left ≡ size - front_of r rd) (e : end ≡ bound_of r (length s) (start + size)) where
      pub walk_taken : {a : Answer ℕ} → a ≡ counted (walk_at r (part s from end) left) → taken_by (start + size) (answer_by from a) ≡ taken_of (stated_at r rd s start size)
      walk_taken q =
          let d = front_at (front_of r rd) s start in
          ap (λ (a : Answer ℕ). taken_by (start + size) (answer_by from a)) q ∙ taken_ruled (family_of r) d (start + size) from (walk_at r (part s from end) left)
          ∙ ap taken_of whole
        where
          whole : ruled (family_of r) (front_at (front_of r rd) s start) (start + size) (answer_by from (walk_at r (part s from end) left)) ≡ stated_at r rd s start size
          whole = rw (f, l, e) (sym (stated_components r rd s start size (omega arith) k))

-- where the components start, with a distinguisher before them and without
module _ (r : Reading) (mode start size : ℕ) {from left : ℕ} where
  pub so_front : mode ≡ 2 → {front : ℕ} → front ≡ front_of r true → front ≤ size → from ≡ start + front → left ≡ size - front
      → (from ≡ start + front_of r (expects mode)) × (left ≡ size - front_of r (expects mode)) × (front_of r (expects mode) ≤ size)
  so_front h f k x y = let e = told_so r h in (omega (arith, e, f, x), omega (arith, e, f, y), omega (arith, e, f, k))

  pub no_front : (mode ≡ 2 → ⊥) → from ≡ start → left ≡ size
      → (from ≡ start + front_of r (expects mode)) × (left ≡ size - front_of r (expects mode)) × (front_of r (expects mode) ≤ size)
  no_front h x y = let e = told_not r h in (omega (arith, e, x), omega (arith, e, y), omega (arith, e))

  pub bound_at : (n : ℕ) → (from ≡ start + front_of r (expects mode)) × (left ≡ size - front_of r (expects mode)) × (front_of r (expects mode) ≤ size) → size ≤ n - start → start ≤ n
      → {end : ℕ} → end ≡ bound_of r n (start + size) → (from ≤ end) × (end ≤ n)
  bound_at n k h l e = rw e (bound_in r n from (start + size) (omega (arith, k.0, k.2)) (omega arith))

-- a refusal of the walk has its place within the part, so that it can be moved by the part's start
uncounted : (a : Answer Body) {f : Refused} → declines f ≡ counted a → a ≡ declines f
uncounted (accepts b) e = never e
uncounted (declines g) e = cc

movable_at : (start : ℕ) (p : Option ℕ) {n : ℕ} → place_of p ≡ at_octet n → start + n < 2 ^ 64 → Movable start p
movable_at start None e h = tt
movable_at start (Some at) {n} e h = let z : at ≡ n = cc in omega arith

pub walk_movable : (r : Reading) (s : List ℕ) (start size end : ℕ) → start ≤ end → end ≤ length s → length s < 2 ^ 64
    → (f : Fault) → declines (told f) ≡ counted (walk_at r (part s start end) size) → Movable start f.place
walk_movable r s start size end h k l f e =
    let b = walk_breaks r (part s start end) size (uncounted (walk_at r (part s start end) size) e) in
    let n : length (part s start end) ≡ end - start = simp (length-take, length-drop) (omega arith) in
    movable_at start f.place b.is (omega (arith, b.within))

pub after_of : {x y : Length} → accepts x ≡ accepts y → x.next.at ≡ y.next.at
after_of {x} {y} e = let z : x ≡ y = cc in ap (λ (l : Length). l.next.at) z

-- the first pass
module _ (r : Reading) (rd : Bool) (s : List ℕ) where
  pub over_long : too_long r (length s) ≡ true → refuses 8 (length s ∷ []) ≡ taken_of (read_at r rd s)
  unfolding read_at
  over_long h = rw h

  module _ (h : too_long r (length s) ≡ false) where
    read_is : {a : Answer Length} → a ≡ length_at s 0 → read_at r rd s ≡ after_length r rd s a
    unfolding read_at
    read_is e = rw (h, sym e)

    pub no_length : {f : Refused} → declines f ≡ length_at s 0 → declines f ≡ taken_of (read_at r rd s)
    no_length e = sym (ap taken_of (read_is e))

    pub by_field : {start size : ℕ} → start ≡ length_width (get_or s 0 0) → size ≡ length_value s 0 → start ≤ length s
        → {told : Answer Taken} → told ≡ taken_of (stated_at r rd s start size) → told ≡ taken_of (read_at r rd s)
    by_field e f l p =
        let z : length_width (get_or s 0 0) ≡ 0 + length_width (get_or s 0 0) = omega arith in
        p ∙ ap taken_of (ap₂ (stated_at r rd s) (e ∙ z) f ∙ sym (read_is (field_whole s 0 (omega arith))))

-- room, and then the second pass
module _ (r : Reading) (rd : Bool) (s ws vs os : List ℕ) where
  abbrev answer : Answer ReadRule
  answer = read_into r rd s (length ws) (length vs) (length os)

  pub test_refused : {f : Refused} → declines f ≡ taken_of (read_at r rd s) → Post answer ws vs os (declines f) ws vs os
  test_refused e = refused answer (into_refused r rd s (length ws) (length vs) (length os) e) ws vs os

  module _ {u n : ℕ} (q : accepts (taken u n) ≡ taken_of (read_at r rd s)) where
    pub no_room : {k : ℕ} → Some k ≡ lacking_of n (length ws) (length vs) (length os) → Post answer ws vs os (refuses 9 (k ∷ [])) ws vs os
    no_room e = refused answer (into_lacking r rd s (length ws) (length vs) (length os) q e) ws vs os

    pub all_stored : None ≡ lacking_of n (length ws) (length vs) (length os) → {ws' vs' os' : List ℕ} → ws' ≡ sets ws 0 (rule_words (read_of r rd s).pieces (head (read_of r rd s).family 0 (read_of r rd s).distinguisher))
        → vs' ≡ sets vs 0 (map number_of (read_of r rd s).operators) → os' ≡ sets os 0 (map octet_of (read_of r rd s).operators)
        → Post answer ws vs os (accepts (taken u n)) ws' vs' os'
    all_stored e x y w = rw (tested r rd s q).1 (filled answer (into_roomed r rd s (length ws) (length vs) (length os) q e) ws vs os (counted_in_lem r rd s q) x y w)

module _ (family : ℕ) (rd : Bool) (s ws vs os : List ℕ) where
  standard_is : {a : Answer Reading} → a ≡ standard_of family → standard_into family rd s (length ws) (length vs) (length os) ≡ by_reading a rd s (length ws) (length vs) (length os)
  unfolding standard_into
  standard_is e = rw (sym e)

  pub bad_family : {f : Refused} → declines f ≡ standard_of family → Post (standard_into family rd s (length ws) (length vs) (length os)) ws vs os (declines f) ws vs os
  bad_family e = refused (standard_into family rd s (length ws) (length vs) (length os)) (standard_is e) ws vs os

  pub of_family : {r : Reading} → accepts r ≡ standard_of family → {told : Answer Taken} {ws' vs' os' : List ℕ}
      → Post (read_into r rd s (length ws) (length vs) (length os)) ws vs os told ws' vs' os' → Post (standard_into family rd s (length ws) (length vs) (length os)) ws vs os told ws' vs' os'
  of_family e p = rw (standard_is e) p
