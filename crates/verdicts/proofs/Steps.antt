-- What one component tells, by the tests of the code; and a prefix, or what is no list, as a component.
use Prim.Native.Nat.{ℕ, zero, suc}
use mathlib.Core.Path.{◌≡◌, refl, sym, ap, ◌∙◌}
use mathlib.Core.Bool.{Bool, true, false, ◌&&◌}
use native.Mathlib.Omega.{arith}
use borrow.Author.Tests.{ne_eqb}
use Rattle.std.specs.declared.option.Option.TheVariants.{Some, None}
use Rattle.choices.specs.declared.Reading.{Reading}
use Rattle.choices.specs.declared.Reading.TheVariants.{Plain}
use Rattle.rules.specs.declared.NetworkPrefix.{NetworkPrefix}
use Rattle.stored.specs.declared.Piece.{Piece}
use Rattle.stored.specs.declared.Piece.TheVariants.{Prefix, Operators, NoRecord}
use Rattle.stored.specs.Views.{NoList}
use Rattle.packets.specs.Packets.{Packet}
use Rattle.packets.specs.Shown.{address_of}
use Rattle.matching.specs.Rules.{prefix_matches, piece_matches}
use Rattle.measuring.specs.Bodies.{Lent}
use Rattle.measuring.specs.Weights.{weight_of}
use Rattle.measuring.proofs.Laws.{Listed, list_shows, not_plain}
use Rattle.measuring.proofs.Weights.{weight_taken, weight_prefix, weight_none}
use Rattle.verdicts.specs.declared.Step.{Step}
use Rattle.verdicts.specs.Steps.{step_in, step_of, prefix_step, other_step}

-- what it tells, by its octets
pub step_some : (n type count : ℕ) (met : Bool) {s : Step} → Some s ≡ step_in n type count met → (n ≡ 0 → ⊥) × (s ≡ record { octets = n; tag = type; operators = count; met = met })
step_some zero type count met e = cc
step_some (suc n) type count met e = (λ z. omega arith, cc (rw (ne_eqb (suc n) 0 (λ z. omega arith)) at e))

pub step_none : (n type count : ℕ) (met : Bool) → None ≡ step_in n type count met → n ≡ 0
step_none zero type count met e = refl
step_none (suc n) type count met e = cc (rw (ne_eqb (suc n) 0 (λ z. omega arith)) at e)

-- by whether there are octets, and whether it is asked if the component is met
module _ (n type count : ℕ) (met b : Bool) {k : ℕ} (is : k ≡ n) where
  pub not_taken : k ≡ 0 → None ≡ step_in n type count (met && b)
  not_taken z = let e : n ≡ 0 = sym is ∙ z in rw e

  module _ (some : k ≡ 0 → ⊥) where
    taken : {c : Bool} → c ≡ (met && b) → Some (record { octets = k; tag = type; operators = count; met = c }) ≡ step_in n type count (met && b)
    taken e = rw (← is, ne_eqb k 0 some, e)

    pub asked : met ≡ true → {c : Bool} → c ≡ b → Some (record { octets = k; tag = type; operators = count; met = c }) ≡ step_in n type count (met && b)
    asked t e = taken (e ∙ sym (ap (λ x. x && b) t))

    pub not_asked : met ≡ false → Some (record { octets = k; tag = type; operators = count; met = met }) ≡ step_in n type count (met && b)
    not_asked f = taken (f ∙ sym (ap (λ x. x && b) f))

-- a list of some octets in a standard writing lies within the lent lists
pub listed : (w : Reading) (l : Lent) (left previous type start count : ℕ) {k : ℕ} → (w ≡ Plain → ⊥) → k ≡ weight_of w l left previous (Operators type start count) → (k ≡ 0 → ⊥) → Listed type l start count
listed w l left previous type start count u e z =
    list_shows w (not_plain w u) l type start count (weight_taken w l left previous (Operators type start count) (omega (arith, e, z)))

module _ (w : Reading) (l : Lent) (left previous : ℕ) (p : Packet) (met : Bool) where
  pub prefix_is : (type : ℕ) (x : NetworkPrefix) → prefix_step w previous p met type x ≡ step_of w l left previous p met (Prefix type x)
  unfolding prefix_step step_of piece_matches
  prefix_is type x = ap (λ (n : ℕ). step_in n type 0 (met && prefix_matches x (address_of p type))) (sym (weight_prefix w l left previous type x))

  pub other_is : (x : Piece) → NoList x → other_step w previous p met x ≡ step_of w l left previous p met x
  unfolding step_of
  other_is (Prefix type x) n = prefix_is type x
  other_is (Operators type start count) n = absurd n
  other_is NoRecord n =
      sym (ap (λ (k : ℕ). step_in k 0 0 (met && piece_matches l.values l.octets l.first p NoRecord)) (weight_none w l left previous))
