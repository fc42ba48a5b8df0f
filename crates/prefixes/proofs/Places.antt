-- Where a prefix broke, and that no octet behind that place plays a part: document 01, "What comes back". An accepted extent goes by the
-- octets up to its end.
use Prim.Native.Nat.{ℕ, ◌+◌, ◌≤◌}
use mathlib.Core.Path.{◌≡◌, refl, sym, ◌∙◌, ap, ap₂, subst}
use mathlib.Core.Bool.{false}
use mathlib.Core.List.{List, []}
use mathlib.Core.Logic.{⊎_elim}
use native.Mathlib.Omega.{arith}
use lib.Dec.{eqb}
use lib.ListN.{length, get_or}
use Rattle.ground.specs.Answers.{Refused, at_octet, refused, accepts, refuses_at, declines}
use Rattle.ground.specs.Picks.{pick}
use Rattle.ground.proofs.Answers.{never, same_refusal}
use Rattle.ground.proofs.Cases.{by_test, lt_or_le}
use Rattle.ground.proofs.Places.{Alike, alike_less, Breaks, breaks_at_end, breaks_here}
use Rattle.choices.specs.declared.Reading.{Reading}
use Rattle.choices.specs.declared.Reading.TheVariants.{Plain, Ipv4, Ipv6}
use Rattle.prefixes.specs.declared.Extent.{Extent}
use Rattle.prefixes.specs.Prefixes.{from_in, offset_in, range_in, extent_of, named_at, extent_at, is_extent}
use Rattle.prefixes.proofs.Laws.{extent_missing, extent_bad, extent_short, extent_whole, extent_taken, extent_is}

-- how many octets behind its place a refusal goes by: a bad IPv6 pair by its offset octet
abbrev pub behind : Reading → ℕ → ℕ
behind Plain number = 0
behind Ipv4 number = 0
behind Ipv6 number = pick (eqb number 4) 1 0

-- the octets before an address say the same
module _ (at : ℕ) {s u : List ℕ} where
  pub offset_there : (r : Reading) → Alike (at + 1 + behind r 4) s u → offset_in r u at ≡ offset_in r s at
  offset_there Plain a = refl
  offset_there Ipv4 a = refl
  offset_there Ipv6 a = a.same (at + 1) (omega arith)

  pub named_there : (r : Reading) → Alike (at + 1 + behind r 4) s u → named_at r u at ≡ named_at r s at
  named_there r a = ap₂ (λ (x y : ℕ). extent_of x y (from_in r at)) (a.same at (omega arith)) (offset_there r a)

  pub range_there : (r : Reading) → Alike (at + 1 + behind r 4) s u → range_in r (get_or u at 0) (offset_in r u at) ≡ range_in r (get_or s at 0) (offset_in r s at)
  range_there r a = ap₂ (range_in r) (a.same at (omega arith)) (offset_there r a)

-- they end where the address octets start
pub before_address : (r : Reading) (at : ℕ) → at + 1 + behind r 4 ≡ from_in r at
before_address Plain at = omega arith
before_address Ipv4 at = omega arith
before_address Ipv6 at = omega arith

module _ (r : Reading) (s : List ℕ) (at : ℕ) where
  module _ (h : at ≤ length s) where
    abbrev Broken : Refused → Type 0
    Broken = Breaks (behind r) (λ (u : List ℕ). extent_at r u at) s at (length s)

    missing : ((u : List ℕ) → Alike (length s + 1 + behind r 1) s u → extent_at r u at ≡ refuses_at 1 [] (length u)) → Broken (refused 1 [] (at_octet (length s)))
    missing = breaks_at_end (behind r) _ s at h

    bad : from_in r at ≤ length s → range_in r (get_or s at 0) (offset_in r s at) ≡ false → Broken (refused 4 [] (at_octet at))
    bad k e = breaks_here (behind r) _ s at h 4 [] (λ z. omega arith) (λ u a. extent_bad r u at (omega (arith, a.long)) (range_there at r a ∙ e))

    pub extent_breaks : {f : Refused} → extent_at r s at ≡ declines f → Broken f
    extent_breaks e =
        ⊎_elim
        (λ k. subst Broken (same_refusal (sym (extent_missing r s at k) ∙ e)) (missing (λ u a. extent_missing r u at (omega (arith, a.long)))))
        (λ k. by_test (range_in r (get_or s at 0) (offset_in r s at))
        (λ t. ⊎_elim
        (λ l. subst Broken (same_refusal (sym (extent_short r s at k t l) ∙ e)) (missing (λ u a.
        let b = alike_less (omega (arith, before_address r at)) a in
        extent_short r u at (omega (arith, a.long)) (range_there at r b ∙ t) (omega (arith, a.long, ap (λ (x : Extent). x.next.at) (named_there at r b))))))
        (λ l. never (sym e ∙ extent_whole r s at k t l))
        (lt_or_le (length s) (named_at r s at).next.at))
        (λ g. subst Broken (same_refusal (sym (extent_bad r s at k g) ∙ e)) (bad k g)))
        (lt_or_le (length s) (from_in r at))

  pub extent_alike : {x : Extent} → extent_at r s at ≡ accepts x → (u : List ℕ) → Alike x.next.at s u → extent_at r u at ≡ accepts x
  extent_alike {x} e u a =
      let t = extent_taken r s at (ap is_extent e) in
      let i = extent_is r s at e in
      let n = ap (λ (y : Extent). y.next.at) i in
      let b : Alike (at + 1 + behind r 4) s u = alike_less (omega (arith, before_address r at)) a in
      let j = named_there at r b in
      let m = ap (λ (y : Extent). y.next.at) j in
      extent_whole r u at (omega (arith, a.long, t.head)) (range_there at r b ∙ t.range) (omega (arith, a.long, t.within)) ∙ ap accepts (j ∙ sym i)
