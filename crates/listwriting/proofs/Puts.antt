-- The turns of the loops that write a list: one operator more, a run more, and the end.
use Prim.Native.Nat.{ℕ, ◌+◌, ◌-◌, ◌≤◌, ◌<◌}
use mathlib.Core.Path.{◌≡◌, refl, sym, ◌∙◌, ap}
use mathlib.Core.List.{List}
use native.Mathlib.Omega.{arith}
use native.Mathlib.Numerals.{add-one}
use lib.ListN.{length, get_or, set}
use lib.Seq.{sets, length-sets}
use Rattle.ground.proofs.Overlays.{sets_append}
use Rattle.octets.specs.Spell.{spelled}
use Rattle.octets.specs.Widths.{widths, code_in, width_of}
use Rattle.octets.proofs.Spells.{length_spelled}
use Rattle.operators.specs.declared.Kind.{Kind}
use Rattle.operators.specs.Ops.{cleared_in, op, ops_in, op_octets, list_octets}
use Rattle.listwriting.specs.Lists.{size_in}
use Rattle.listwriting.specs.Runs.{between, Put}
use Rattle.listwriting.proofs.Sizes.{size_more, size_none, size_one, ops_more, ops_none}

module _ (kind : Kind) (values octets : List ℕ) (from to at : ℕ) (out₀ : List ℕ) where
  pub put_first : from ≤ to → Put kind values octets from to at out₀ out₀ from at
  put_first h = record { least = omega arith; most = h; long = refl; place = refl; stored = refl }

  module _ {out : List ℕ} {q p : ℕ} (h : Put kind values octets from to at out₀ out q p) where
    -- all are written
    pub put_end : to ≤ q → (p ≡ at + size_in octets from (to - from)) × (out ≡ sets out₀ at (between kind values octets from to))
    unfolding list_octets
    put_end e =
        let z = size_none octets q to e in
        (omega (arith, h.place), ap (λ os. sets out p (list_octets kind os)) (sym (ops_none values octets q to e)) ∙ h.stored)

    -- there is room for those that are left
    pub put_left : at + size_in octets from (to - from) ≤ length out₀ → p + size_in octets q (to - q) ≤ length out
    put_left r = omega (arith, h.place, h.long)

    -- a run goes on where another ended
    pub put_chain : {out' : List ℕ} {q' p' : ℕ} → Put kind values octets q to p out out' q' p' → Put kind values octets from to at out₀ out' q' p'
    put_chain g = record {
      least = omega (arith, h.least, g.least);
      most = g.most;
      long = g.long ∙ h.long;
      place = g.place ∙ h.place;
      stored = g.stored ∙ h.stored;
    }

    module _ (code w : ℕ) (is-w : w ≡ get_or widths code 0) (e : q < to) (is : code_in (get_or octets q 0) ≡ code) where
      wide : width_of (get_or octets q 0) ≡ get_or widths code 0
      wide = ap (λ (k : ℕ). get_or widths k 0) is

      -- there is room for the next operator
      pub put_room : at + size_in octets from (to - from) ≤ length out₀ → p + 1 + get_or widths code 0 ≤ length out
      put_room r = omega (arith, h.place, h.long, size_more octets q to e, wide)

      -- one operator more
      pub put_more : {out' : List ℕ} {x : ℕ} → x ≡ cleared_in kind (get_or octets q 0) → out' ≡ sets (set out p x) (p + 1) (spelled (get_or widths code 0) (get_or values q 0))
          → Put kind values octets from to at out₀ out' (q + 1) (p + (1 + w))
      unfolding list_octets
      put_more {out'} {x} f g =
          let o = op (get_or octets q 0) (get_or values q 0) in
          let s : out' ≡ sets out p (op_octets kind o) = g ∙ rw (add-one p, f, ← wide) in
          let n : length (op_octets kind o) ≡ 1 + w = omega (arith, length_spelled (width_of (get_or octets q 0)) (get_or values q 0), wide, is-w) in
          let m : p + (1 + w) ≡ p + length (op_octets kind o) = omega arith in
          record {
            least = omega (arith, h.least);
            most = omega arith;
            long = ap length s ∙ length-sets out p (op_octets kind o) ∙ h.long;
            place = omega (arith, h.place, size_more octets q to e, wide, is-w);
            stored = rw (s, m, ← sets_append out p (op_octets kind o) (between kind values octets (q + 1) to))
                (ap (λ os. sets out p (list_octets kind os)) (sym (ops_more values octets q to e)) ∙ h.stored);
          }

-- a list of one operator that takes two octets
module _ (kind : Kind) (values octets : List ℕ) (from n at : ℕ) (out : List ℕ) (one : n ≡ 1) (is : code_in (get_or octets from 0) ≡ 0) where
  lone_size : size_in octets from n ≡ 2
  lone_size = let w : width_of (get_or octets from 0) ≡ 1 = ap (λ (k : ℕ). get_or widths k 0) is in rw one (omega (arith, size_one octets from))

  pub lone_room : at + size_in octets from n ≤ length out → at + 2 ≤ length out
  lone_room r = omega (arith, lone_size)

  pub put_lone : {out' : List ℕ} {x : ℕ} → x ≡ cleared_in kind (get_or octets from 0) → out' ≡ sets (set out at x) (at + 1) (spelled 1 (get_or values from 0))
      → (at + 2 ≡ at + size_in octets from n) × (out' ≡ sets out at (list_octets kind (ops_in values octets from n)))
  put_lone f g =
      let h = put_more kind values octets from (from + n) at out (put_first kind values octets from (from + n) at out (omega arith)) 0 1 refl (omega arith) is f g in
      let k : from + n - from ≡ n = omega arith in
      (omega (arith, lone_size), rw k at (put_end kind values octets from (from + n) at out h (omega arith)).1)
