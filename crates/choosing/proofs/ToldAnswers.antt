-- What the pass tells of the answer.
use Prim.Native.Nat.{ℕ, ◌≤◌}
use mathlib.Core.Path.{◌≡◌, sym, ap, ◌∙◌}
use mathlib.Core.Bool.{true, false}
use mathlib.Core.List.{[]}
use borrow.Author.Tests.{le-ltb}
use Rattle.std.specs.declared.option.Option.{Option}
use Rattle.ground.specs.Answers.{accepts, refuses}
use Rattle.packets.specs.Packets.{Packet, packet_ok}
use Rattle.choosing.specs.declared.Found.{Found}
use Rattle.choosing.specs.Choosing.{Table, rules_in, whole_rules, formed_at, family_is, like_first, Choice, all_below, first_failing, unless_place, choice_of, chosen_in}
use Rattle.choosing.specs.Passes.{Finds}

-- what was found before the pass
pub record Ready (t : Table) (p : Packet) : Type 0 where
  pub few : rules_in t ≤ 64
  pub fields_in_range : packet_ok p ≡ true
  pub whole : whole_rules t ≡ true

module _ (t : Table) (p : Packet) (h : Ready t p) where
  pub tells_bad : all_below (formed_at t) (rules_in t) ≡ false → refuses 10 [] ≡ chosen_in t p
  unfolding chosen_in
  tells_bad a = rw (le-ltb 64 (rules_in t) h.few, h.fields_in_range, h.whole, a)

  -- and by it: the first place of another family, then that of another distinguisher than the rule at place 0, then the best
  module _ (family : ℕ) (is : family ≡ p.family) (f : Found) (e : Finds t p family (rules_in t) f) where
    unmixed : {m : Option ℕ} → f.mixed ≡ m → choice_of m ≡ first_failing (family_is t p.family) (rules_in t)
    unmixed k = sym (ap choice_of k) ∙ e.mixed ∙ ap (λ (x : ℕ). first_failing (family_is t x) (rules_in t)) is

    pub tells : {m : Option ℕ} → f.mixed ≡ m → (o : Choice) → o ≡ first_failing (like_first t) (rules_in t)
        → unless_place 14 (choice_of m) (unless_place 20 o (accepts (choice_of f.best))) ≡ chosen_in t p
    unfolding chosen_in
    tells k o q = rw (le-ltb 64 (rules_in t) h.few, h.fields_in_range, h.whole, e.formed, sym (unmixed k), sym q, sym e.best)
