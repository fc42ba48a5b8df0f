-- The packet of some words by the tests that the code makes: the ranges by words, and what words in range lend.
use Prim.Native.Nat.{ℕ, zero, suc}
use mathlib.Core.Path.{◌≡◌, refl, sym, ◌∙◌, ap}
use mathlib.Core.Bool.{Bool, true, false, ◌&&◌, false≢true}
use mathlib.Core.List.{List}
use lib.ListN.{length, get_or}
use native.Mathlib.Omega.{arith}
use lib.Dec.{ltb, leb, eqb}
use borrow.Author.Tests.{le-ltb, eq-eqb, ne_eqb, eqb-true, eqb-false}
use Rattle.ground.specs.Picks.{pick}
use Rattle.ground.proofs.Cases.{by_test}
use Rattle.wide.specs.Numbers.{wide}
use Rattle.packets.specs.Packets.{Packet, address_fits, pair_fits, field_fits, label_fits, most_flags, family_ok, packet_ok, flags_ok, no_packet, packet_of, packet_at}

-- a number of two halves is below 2 ^ 32 if the upper is 0 and the lower is
pub narrow : (h l : ℕ) → eqb h 0 && ltb l 4294967296 ≡ ltb (wide h l) 4294967296
narrow zero l = let e : wide 0 l ≡ l = omega arith in rw e
narrow (suc h) l = rw (ne_eqb (suc h) 0 (λ e. omega (arith, e))) (sym (le-ltb (wide (suc h) l) 4294967296 (omega arith)))

pub no_packet_lem : packet_ok no_packet ≡ false
unfolding packet_ok
no_packet_lem = refl

-- a test of what is picked, where the other fails it
tested : (lent : Bool) (p q : Packet) → packet_ok q ≡ false → lent && packet_ok p ≡ packet_ok (pick lent p q)
tested true p q e = refl
tested false p q e = sym e

module _ (ws : List ℕ) where
  pub not_twenty : (length ws ≡ 20 → ⊥) → false ≡ packet_ok (packet_at ws)
  unfolding packet_at
  not_twenty h = rw (ne_eqb (length ws) 20 h) (sym no_packet_lem)

  by_flags : length ws ≡ 20 → flags_ok ws && packet_ok (packet_of ws) ≡ packet_ok (packet_at ws)
  unfolding packet_at
  by_flags h = rw (eq-eqb (length ws) 20 h) (tested (flags_ok ws) (packet_of ws) no_packet no_packet_lem)

  -- by what the code has tested of addresses, ports, ICMP fields, flags and label
  pub twenty : (d s p i f l : Bool) → d ≡ address_fits (get_or ws 0 0) (packet_of ws).destination → s ≡ address_fits (get_or ws 0 0) (packet_of ws).source
      → p ≡ pair_fits 65535 (packet_of ws).ports → i ≡ pair_fits 255 (packet_of ws).icmp → f ≡ field_fits most_flags (packet_of ws).flags
      → l ≡ label_fits (get_or ws 0 0) (packet_of ws).label → length ws ≡ 20
      → flags_ok ws && (family_ok (get_or ws 0 0) && d && s && leb (get_or ws 5 0) 255 && leb (get_or ws 6 0) 65575 && leb (get_or ws 7 0) 63 && leb (get_or ws 8 0) 15 && p && i && f && l)
      ≡ packet_ok (packet_at ws)
  unfolding packet_ok
  twenty d s p i f l ed es ep ei ef el h = rw (ed, es, ep, ei, ef, el) (by_flags h)

  no_family : get_or ws 0 0 ≡ 0 → packet_ok (packet_of ws) ≡ false
  unfolding packet_ok
  no_family e = rw e

  -- words of a packet in range: there are 20, they lend the packet of their fields, and its family is not 0
  module _ (ok : packet_ok (packet_at ws) ≡ true) where
    pub are_twenty : length ws ≡ 20
    are_twenty = by_test (eqb (length ws) 20) (λ e. eqb-true _ _ e) (λ e. absurd (false≢true (not_twenty (eqb-false _ _ e) ∙ ok)))

    pub lends : packet_at ws ≡ packet_of ws
    unfolding packet_at
    lends =
        rw (eq-eqb (length ws) 20 are_twenty)
        (by_test (flags_ok ws) (λ e. rw e) (λ e. absurd (false≢true (sym (ap (λ (b : Bool). b && packet_ok (packet_of ws)) e) ∙ by_flags are_twenty ∙ ok))))

    pub a_family : get_or ws 0 0 ≡ 0 → ⊥
    a_family e = false≢true (sym (no_family e) ∙ sym (ap packet_ok lends) ∙ ok)
