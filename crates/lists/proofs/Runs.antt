-- Laws of the first pass: what is left of a list after n operators goes by the operator there, an operator of a run's width is one step, and
-- an operator alone is the list.
use Rattle.std.specs.declared.ops.ControlFlow.TheVariants.{Continue, Break}
use Prim.Native.Nat.{ℕ, ◌+◌, ◌-◌, ◌/◌, ◌%◌, ◌≤◌, ◌<◌}
use mathlib.Core.Path.{◌≡◌, refl, sym, ◌∙◌, ap}
use mathlib.Core.Bool.{true, false, ◌&&◌, false≢true}
use mathlib.Core.List.{List, [], ◌∷◌}
use native.Mathlib.Omega.{arith}
use borrow.Author.Tests.{leb-true, leb-false, ltb-true, ltb-false, eqb-true, lt-leb, lt-ltb, le-ltb}
use lib.ListN.{length, get_or}
use lib.Dec.{leb, ltb, eqb}
use Rattle.ground.specs.Answers.{Answer, accepts, refuses_at, declines}
use Rattle.ground.proofs.Cases.{by_test, both}
use Rattle.octets.specs.Widths.{widths, code_in, width_of}
use Rattle.choices.specs.declared.Reading.{Reading}
use Rattle.choices.specs.declared.Reading.TheVariants.{Plain, Ipv4, Ipv6}
use Rattle.choices.specs.Choices.{codes_in, refused_in, limit_of}
use Rattle.operators.specs.declared.Kind.{Kind}
use Rattle.operators.specs.declared.Kind.TheVariants.{Numeric, Bitmask}
use Rattle.choices.proofs.Limits.{is_taken}
use Rattle.choices.proofs.WidthTable.{codes_least}
use Rattle.operators.specs.Ops.{kind_of}
use Rattle.lists.specs.declared.Tally.{Tally}
use Rattle.lists.specs.Lists.{tally, plus, op_at, after_op, too_wide, list_at}
use Rattle.lists.specs.Runs.{rest, Ran, stop, reached, Passed, lone, alone_at}
use Rattle.lists.proofs.Operators.{operator_taken}
use Rattle.lists.proofs.Equations.{list_missing, list_wide, list_cut, list_refused, list_last, list_more}

plus_none : (a : Answer Tally) → plus 0 a ≡ a
plus_none (accepts l) = let e : 0 + l.count ≡ l.count = omega arith in ap (λ (n : ℕ). accepts (tally n l.next.at)) e
plus_none (declines f) = refl

plus_one : (n : ℕ) (a : Answer Tally) → plus n (plus 1 a) ≡ plus (n + 1) a
plus_one n (accepts l) = let e : n + (1 + l.count) ≡ n + 1 + l.count = omega arith in ap (λ (m : ℕ). accepts (tally m l.next.at)) e
plus_one n (declines f) = refl

module _ (r : Reading) (t : ℕ) (s : List ℕ) (at : ℕ) where
  pub rest_first : list_at r t s at ≡ rest r t s at 0
  unfolding rest
  rest_first = sym (plus_none (list_at r t s at))

  module _ (n : ℕ) where
    pub rest_missing : length s ≤ at → rest r t s at n ≡ refuses_at 1 [] (length s)
    unfolding rest
    rest_missing h = ap (plus n) (list_missing r t s at h)

    pub rest_wide : at < length s → too_wide r t (get_or s at 0) ≡ true → rest r t s at n ≡ refuses_at 6 (code_in (get_or s at 0) ∷ []) at
    unfolding rest
    rest_wide h e = ap (plus n) (list_wide r t s at h e)

    module _ (narrow : too_wide r t (get_or s at 0) ≡ false) where
      pub rest_cut : at < length s → length s ≤ at + width_of (get_or s at 0) → rest r t s at n ≡ refuses_at 1 [] (length s)
      unfolding rest
      rest_cut h k = ap (plus n) (list_cut r t s at narrow h k)

      module _ (h : at + width_of (get_or s at 0) < length s) where
        pub rest_refused : refused_in r (kind_of t) (get_or s at 0) ≡ true → rest r t s at n ≡ refuses_at 5 (get_or s at 0 ∷ []) at
        unfolding rest
        rest_refused e = ap (plus n) (list_refused r t s at narrow h e)

        module _ (e : refused_in r (kind_of t) (get_or s at 0) ≡ false) {w : ℕ} (is-w : w ≡ width_of (get_or s at 0)) where
          pub rest_last : 128 ≤ get_or s at 0 → rest r t s at n ≡ accepts (tally (n + 1) (at + 1 + w))
          unfolding rest
          rest_last l = ap (plus n) (list_last r t s at (operator_taken r t s at narrow h e) l) ∙ rw is-w

          pub rest_more : get_or s at 0 < 128 → rest r t s at n ≡ rest r t s (at + 1 + w) (n + 1)
          unfolding rest
          rest_more l =
              ap (plus n) (list_more r t s at (operator_taken r t s at narrow h e) l)
              ∙ plus_one n (list_at r t s (after_op at (op_at s at))) ∙ rw is-w

          -- and past the run that follows it
          pub rest_run : {bound : ℕ} {to : Ran} → bound ≡ limit_of r (kind_of t) → get_or s at 0 < 128
              → Passed (code_in (get_or s at 0)) bound s (at + 1 + w) (n + 1) to → rest r t s at n ≡ reached r t s to
          rest_run l m p = rest_more m ∙ p.same r t (record { width = omega (arith, leb-false (codes_in r t) (code_in (get_or s at 0)) narrow); limit = l })

-- a code below the bound is taken
is_narrow : (r : Reading) (t x : ℕ) → code_in x < codes_in r t → too_wide r t x ≡ false
is_narrow r t x h = lt-leb (codes_in r t) (code_in x) h

pub width_by : (x : ℕ) {code w : ℕ} → w ≡ get_or widths code 0 → x / 16 % 4 ≡ code → w ≡ width_of x
width_by x is-w is_code = is-w ∙ ap (λ (c : ℕ). get_or widths c 0) (sym is_code)

-- a run goes on past an operator of its width
module _ {code bound : ℕ} {s : List ℕ} {at₀ n₀ at n : ℕ} (h : Passed code bound s at₀ n₀ (Continue (tally n at))) (is_code : code_in (get_or s at 0) ≡ code)
    {w : ℕ} (is-w : w ≡ width_of (get_or s at 0)) (in-s : at + w < length s) (b : get_or s at 0 % 16 < bound) where
  next : at + 1 + w ≡ at + (w + 1)
  next = omega arith

  step : (to : Ran) → stop to ≡ tally (n + 1) (at + (w + 1))
      → ((r : Reading) (t : ℕ) → too_wide r t (get_or s at 0) ≡ false → refused_in r (kind_of t) (get_or s at 0) ≡ false → rest r t s at n ≡ reached r t s to)
      → Passed code bound s at₀ n₀ to
  step to e f =
      let p = h.place in
      let o = h.on in
      let i = ap (λ (t : Tally). t.next.at) e in
      let m = ap (λ (t : Tally). t.count) e in
      record {
        same = λ r t k. h.same r t k ∙ f r t (is_narrow r t _ (omega (arith, k.width))) (is_taken r (kind_of t) _ (omega (arith, k.limit)));
        on = omega arith;
        place = omega arith;
        within = omega arith;
      }

  pub on_more : get_or s at 0 < 128 → Passed code bound s at₀ n₀ (Continue (tally (n + 1) (at + (w + 1))))
  on_more l = step _ refl (λ r t c e. rest_more r t s at n c (omega arith) e is-w l ∙ ap (λ (a : ℕ). rest r t s a (n + 1)) next)

  pub on_last : 128 ≤ get_or s at 0 → Passed code bound s at₀ n₀ (Break (tally (n + 1) (at + (w + 1))))
  on_last l = step _ refl (λ r t c e. rest_last r t s at n c (omega arith) e is-w l ∙ ap (λ (a : ℕ). accepts (tally (n + 1) a)) next)

-- an operator alone: it is whole, has the end mark and a value of one octet, which every type takes
pub lone_is : (x : ℕ) → lone x ≡ true → (128 ≤ x) × (1 ≡ width_of x)
lone_is x e =
    let b = both (leb 128 x) (eqb (code_in x) 0) e in
    (leb-true 128 x b.0, width_by x refl (eqb-true (code_in x) 0 b.1))

lone_narrow : (r : Reading) (t x : ℕ) → lone x ≡ true → too_wide r t x ≡ false
lone_narrow r t x e = is_narrow r t x (omega (arith, eqb-true (code_in x) 0 (both (leb 128 x) (eqb (code_in x) 0) e).1, codes_least r t))

pub alone_is : (s : List ℕ) (at : ℕ) → alone_at s at ≡ true → (at + 1 < length s) × ((lone (get_or s at 0) ≡ true) × (get_or s at 0 % 16 < 4))
unfolding alone_at
alone_is s at e =
    by_test (ltb (length s - at) 2)
    (λ h. absurd (false≢true (rw h at e)))
    (λ h. let b = both (lone (get_or s at 0)) (ltb (get_or s at 0 % 16) 4) (rw h at e) in
    (omega (arith, ltb-false (length s - at) 2 h), (b.0, ltb-true (get_or s at 0 % 16) 4 b.1)))

pub alone_short : (s : List ℕ) (at : ℕ) → length s - at < 2 → false ≡ alone_at s at
unfolding alone_at
alone_short s at h = simp (lt-ltb _ _ h)

pub alone_whole : (s : List ℕ) (at : ℕ) → 2 ≤ length s - at → (lone (get_or s at 0) && ltb (get_or s at 0 % 16) 4) ≡ alone_at s at
unfolding alone_at
alone_whole s at h = simp (le-ltb _ _ h)

module _ (r : Reading) (t : ℕ) (s : List ℕ) (at : ℕ) (h : at + 1 < length s) (l : lone (get_or s at 0) ≡ true) where
  pub lone_done : refused_in r (kind_of t) (get_or s at 0) ≡ false → list_at r t s at ≡ accepts (tally 1 (at + 2))
  lone_done e =
      let f = lone_is (get_or s at 0) l in
      let w : at + width_of (get_or s at 0) < length s = omega (arith, f.1) in
      let i : at + 1 + width_of (get_or s at 0) ≡ at + 2 = omega (arith, f.1) in
      list_last r t s at (operator_taken r t s at (lone_narrow r t (get_or s at 0) l) w e) f.0 ∙ ap (λ (a : ℕ). accepts (tally 1 a)) i

-- four is the least limit
least : (r : Reading) (k : Kind) → 4 ≤ limit_of r k
least Plain Numeric = omega arith
least Plain Bitmask = omega arith
least Ipv4 k = omega arith
least Ipv6 k = omega arith

pub alone_done : (r : Reading) (t : ℕ) (s : List ℕ) (at : ℕ) → alone_at s at ≡ true → list_at r t s at ≡ accepts (tally 1 (at + 2))
alone_done r t s at e =
    let a = alone_is s at e in
    lone_done r t s at a.0 a.1.0 (is_taken r (kind_of t) (get_or s at 0) (omega (arith, a.1.1, least r (kind_of t))))
