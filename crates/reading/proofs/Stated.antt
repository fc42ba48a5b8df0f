-- The ways that it goes after the length: the stated end lies past the input, the body is too short for a distinguisher, or its components decide. And
-- what stands before the first component.
use Prim.Native.Nat.{ℕ, ◌+◌, ◌≤◌, ◌<◌}
use mathlib.Core.Path.{◌≡◌, refl, ap, ◌∙◌}
use mathlib.Core.Bool.{Bool, true, false}
use mathlib.Core.List.{List, []}
use borrow.Author.Tests.{lt-ltb, le-ltb, eq-eqb, ne_eqb}
use lib.ListN.{length, take, drop}
use Rattle.std.specs.Prelude.{None, Some}
use Rattle.ground.specs.Answers.{refuses_at}
use Rattle.octets.specs.Spell.{value_of}
use Rattle.choices.specs.declared.Reading.{Reading}
use Rattle.choices.specs.declared.Reading.TheVariants.{Plain, Ipv4, Ipv6}
use Rattle.choices.specs.Choices.{expects, front_of}
use Rattle.reading.specs.Readings.{front_at, components_at, stated_at}

module _ (r : Reading) (rd : Bool) (s : List ℕ) (start size : ℕ) where
  pub stated_past : length s < start + size → stated_at r rd s start size ≡ refuses_at 1 [] (length s)
  unfolding stated_at
  stated_past h = rw (lt-ltb (length s) (start + size) h)

  module _ (h : start + size ≤ length s) where
    pub stated_short : size < front_of r rd → stated_at r rd s start size ≡ refuses_at 19 [] (start + size)
    unfolding stated_at
    stated_short k = rw (le-ltb (length s) (start + size) h, lt-ltb size (front_of r rd) k)

    pub stated_components : front_of r rd ≤ size → stated_at r rd s start size ≡ components_at r (front_of r rd) s start size
    unfolding stated_at
    stated_components k = rw (le-ltb (length s) (start + size) h, le-ltb size (front_of r rd) k)

-- what stands before the first component is nothing, or eight octets
pub front_without : (r : Reading) → front_of r false ≡ 0
front_without Plain = refl
front_without Ipv4 = refl
front_without Ipv6 = refl

-- as the number says that a call is told by
pub told_so : (r : Reading) {mode : ℕ} → mode ≡ 2 → front_of r (expects mode) ≡ front_of r true
told_so r {mode} h = ap (front_of r) (eq-eqb mode 2 h)

pub told_not : (r : Reading) {mode : ℕ} → (mode ≡ 2 → ⊥) → front_of r (expects mode) ≡ 0
told_not r {mode} h = ap (front_of r) (ne_eqb mode 2 h) ∙ front_without r

pub front_eight : (r : Reading) (rd : Bool) → (front_of r rd ≡ 0 → ⊥) → front_of r rd ≡ 8
front_eight Plain rd h = absurd (h refl)
front_eight Ipv4 true h = refl
front_eight Ipv4 false h = absurd (h refl)
front_eight Ipv6 true h = refl
front_eight Ipv6 false h = absurd (h refl)

module _ (s : List ℕ) (at front : ℕ) where
  pub front_none : front ≡ 0 → None ≡ front_at front s at
  unfolding front_at
  front_none h = rw (eq-eqb front 0 h)

  pub front_is : (front ≡ 0 → ⊥) → Some (value_of (take 8 (drop at s))) ≡ front_at front s at
  unfolding front_at
  front_is h = rw (ne_eqb front 0 h)
