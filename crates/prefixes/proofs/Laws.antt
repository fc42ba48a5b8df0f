-- The laws of `extent_at` and `prefix_at`, over plain lists: every way that they go, and what was accepted. Whoever cites them unfolds neither.
use mathlib.Core.Path.{◌≡◌, refl, sym, ap, ap₂, ◌∙◌, subst}
use mathlib.Core.List.{List, []}
use mathlib.Core.Bool.{Bool, true, false, ◌&&◌, ◌||◌, false≢true}
use mathlib.Core.Logic.{◌⊎◌, inl, inr, ⊎_elim}
use Prim.Native.Nat.{ℕ, ◌+◌, ◌-◌, ◌≤◌, ◌<◌}
use native.Mathlib.Omega.{arith}
use borrow.Author.Tests.{lt-ltb, le-ltb, leb-true, eqb-true, ltb-true}
use lib.Dec.{ltb, eqb}
use lib.ListN.{length, get_or, take, drop}
use Rattle.ground.proofs.Answers.{never, same_accepted}
use Rattle.ground.proofs.Cases.{both, by_test, lt_or_le}
use Rattle.ground.specs.Answers.{Answer, accepts, refuses_at}
use Rattle.choices.specs.declared.Reading.{Reading}
use Rattle.choices.specs.declared.Reading.TheVariants.{Plain, Ipv4, Ipv6}
use Rattle.octets.specs.Spell.{value_of}
use Rattle.prefixes.specs.declared.Extent.{Extent}
use Rattle.prefixes.specs.declared.PrefixAt.{PrefixAt}
use Rattle.prefixes.specs.Prefixes.{octets_of, offset_fits, from_in, offset_in, range_in, extent_of, octets_at, named_at, extent_at, made_in, whole_prefix, prefix_from, prefix_on, prefix_at, is_extent, Stands}

-- the octets of an extent are there, or one is missing
module _ (s : List ℕ) (e : Extent) where
  pub octets_missing : length s < e.next.at → octets_at s e ≡ refuses_at 1 [] (length s)
  octets_missing h = simp (lt-ltb (length s) e.next.at h)

  pub octets_there : e.next.at ≤ length s → octets_at s e ≡ accepts e
  octets_there h = simp (le-ltb (length s) e.next.at h)

-- the address octets start past the length octet
pub from_past : (r : Reading) (at : ℕ) → at < from_in r at
from_past Plain at = omega arith
from_past Ipv4 at = omega arith
from_past Ipv6 at = omega arith

-- an octet before the address is missing, the length is bad, an octet of the address is missing, or nothing is
module _ (r : Reading) (s : List ℕ) (at : ℕ) where
  pub extent_missing : length s < from_in r at → extent_at r s at ≡ refuses_at 1 [] (length s)
  unfolding extent_at
  extent_missing h = simp (lt-ltb (length s) (from_in r at) h)

  module _ (h : from_in r at ≤ length s) where
    pub extent_bad : range_in r (get_or s at 0) (offset_in r s at) ≡ false → extent_at r s at ≡ refuses_at 4 [] at
    unfolding extent_at
    extent_bad e = simp (le-ltb (length s) (from_in r at) h, e)

    module _ (e : range_in r (get_or s at 0) (offset_in r s at) ≡ true) where
      pub extent_octets : extent_at r s at ≡ octets_at s (named_at r s at)
      unfolding extent_at
      extent_octets = simp (le-ltb (length s) (from_in r at) h, e)

      pub extent_short : length s < (named_at r s at).next.at → extent_at r s at ≡ refuses_at 1 [] (length s)
      extent_short k = extent_octets ∙ octets_missing s (named_at r s at) k

      pub extent_whole : (named_at r s at).next.at ≤ length s → extent_at r s at ≡ accepts (named_at r s at)
      extent_whole k = extent_octets ∙ octets_there s (named_at r s at) k

-- what was accepted passed every test
pub record Taken (r : Reading) (s : List ℕ) (at : ℕ) : Type 0 where
  pub head : from_in r at ≤ length s
  pub range : range_in r (get_or s at 0) (offset_in r s at) ≡ true
  pub within : (named_at r s at).next.at ≤ length s

module _ (r : Reading) (s : List ℕ) (at : ℕ) where
  -- so what holds of the two refusals, and of what the octets name where it is taken, holds of every answer
  pub extent_ways : (P : Answer Extent → Type 0) → P (refuses_at 1 [] (length s)) → P (refuses_at 4 [] at) → (Taken r s at → P (accepts (named_at r s at))) → P (extent_at r s at)
  extent_ways P one four whole =
      ⊎_elim
      (λ h. subst P (sym (extent_missing r s at h)) one)
      (λ h. by_test (range_in r (get_or s at 0) (offset_in r s at))
      (λ t. ⊎_elim
      (λ k. subst P (sym (extent_short r s at h t k)) one)
      (λ k. subst P (sym (extent_whole r s at h t k)) (whole (record { head = h; range = t; within = k })))
      (lt_or_le (length s) (named_at r s at).next.at))
      (λ f. subst P (sym (extent_bad r s at h f)) four))
      (lt_or_le (length s) (from_in r at))

  pub taken_extent : Taken r s at → extent_at r s at ≡ accepts (named_at r s at)
  taken_extent t = extent_whole r s at t.head t.range t.within

  pub extent_taken : is_extent (extent_at r s at) ≡ true → Taken r s at
  extent_taken = extent_ways (λ (a : Answer Extent). is_extent a ≡ true → Taken r s at) (λ e. absurd (false≢true e)) (λ e. absurd (false≢true e)) (λ t e. t)

  -- it is what the octets name, and ends past its place and within the octets
  module _ {e : Extent} (i : extent_at r s at ≡ accepts e) where
    pub extent_is : e ≡ named_at r s at
    extent_is = same_accepted (sym i ∙ taken_extent (extent_taken (ap is_extent i)))

    pub extent_next : (at < e.next.at) × (e.next.at ≤ length s)
    extent_next =
        let t = extent_taken (ap is_extent i) in
        let n : e.next.at ≡ (named_at r s at).next.at = ap (λ (x : Extent). x.next.at) extent_is in
        (omega (arith, from_past r at), omega (arith, t.within))

  -- a prefix is refused as its extent is, and ends where it does
  pub prefix_by : {a : Answer Extent} → extent_at r s at ≡ a → prefix_at r s at ≡ prefix_on r s a
  unfolding prefix_at
  prefix_by e = ap (prefix_on r s) e

  pub prefix_ways : (P : Answer PrefixAt → Type 0) → P (refuses_at 1 [] (length s)) → P (refuses_at 4 [] at) → (Taken r s at → P (accepts (prefix_from r s (named_at r s at))))
      → P (prefix_at r s at)
  unfolding prefix_at
  prefix_ways P one four whole = extent_ways (λ (a : Answer Extent). P (prefix_on r s a)) one four whole

  pub taken_prefix : Taken r s at → prefix_at r s at ≡ accepts (prefix_from r s (named_at r s at))
  taken_prefix t = prefix_by (taken_extent t)

  module _ {p : PrefixAt} (i : prefix_at r s at ≡ accepts p) where
    pub prefix_taken_lem : Taken r s at
    prefix_taken_lem = prefix_ways (λ (a : Answer PrefixAt). a ≡ accepts p → Taken r s at) never never (λ t e. t) i

    pub prefix_is : p ≡ prefix_from r s (named_at r s at)
    prefix_is = same_accepted (sym i ∙ taken_prefix prefix_taken_lem)

    pub prefix_next : (at < p.next.at) × (p.next.at ≤ length s)
    prefix_next =
        let e = extent_next (taken_extent prefix_taken_lem) in
        let n : p.next.at ≡ (named_at r s at).next.at = ap (λ (x : PrefixAt). x.next.at) prefix_is in
        (omega arith, omega arith)

  -- octets that name a length and an offset in range, and spell a number, are read as the prefix of these
  pub prefix_named : (len off v : ℕ) → get_or s at 0 ≡ len → offset_in r s at ≡ off → range_in r len off ≡ true → from_in r at + octets_of (len - off) ≤ length s
      → value_of (take (octets_of (len - off)) (drop (from_in r at) s)) ≡ v
      → prefix_at r s at ≡ accepts (whole_prefix (made_in r len off v) (from_in r at + octets_of (len - off)))
  prefix_named len off v e f g h i =
      taken_prefix (record { head = omega arith; range = rw (e, f) g; within = rw (e, f) h })
      ∙ ap₂ (λ (x y : ℕ). accepts (prefix_from r s (extent_of x y (from_in r at)))) e f
      ∙ ap (λ (x : ℕ). accepts (whole_prefix (made_in r len off x) (from_in r at + octets_of (len - off)))) i

-- a length and an offset that fit, as numbers
either : (a b : Bool) → (a || b) ≡ true → (a ≡ true) ⊎ (b ≡ true)
either true b e = inl refl
either false b e = inr e

pub fits_le : (len off : ℕ) → offset_fits len off ≡ true → (off ≤ len) × (len ≤ 128)
fits_le len off e =
    ⊎_elim
    (λ a. let x = both (eqb len 0) (eqb off 0) a in let y = eqb-true len 0 x.0 in let z = eqb-true off 0 x.1 in (omega arith, omega arith))
    (λ b. let x = both (ltb off len) (ltb len 129) b in let y = ltb-true off len x.0 in let z = ltb-true len 129 x.1 in (omega arith, omega arith))
    (either (eqb len 0 && eqb off 0) (ltb off len && ltb len 129) e)

-- and those in the range of a reading
abbrev pub Ranged : Reading → ℕ → ℕ → Type 0
Ranged Plain len off = (len ≤ 128) × (off ≡ 0)
Ranged Ipv4 len off = (len ≤ 32) × (off ≡ 0)
Ranged Ipv6 len off = (len ≤ 128) × (off ≤ len)

pub taken_ranged : (r : Reading) (s : List ℕ) (at : ℕ) → Taken r s at → Ranged r (get_or s at 0) (offset_in r s at)
taken_ranged Plain s at t = (leb-true (get_or s at 0) 128 t.range, refl)
taken_ranged Ipv4 s at t = (leb-true (get_or s at 0) 32 t.range, refl)
taken_ranged Ipv6 s at t = let f = fits_le (get_or s at 0) (get_or s (at + 1) 0) t.range in (f.1, f.0)

ranged_bounds : (r : Reading) (len off : ℕ) → Ranged r len off → (off ≤ len) × (len ≤ 128)
ranged_bounds Plain len off h = (omega arith, omega arith)
ranged_bounds Ipv4 len off h = (omega arith, omega arith)
ranged_bounds Ipv6 len off h = (omega arith, omega arith)

-- an extent that stands somewhere
pub record Extends (r : Reading) (s : List ℕ) (e : Extent) : Type 0 where
  pub ranged : Ranged r e.length e.offset
  pub offset : e.offset ≤ e.length
  pub most : e.length ≤ 128
  pub next : e.next.at ≡ e.from + octets_of (e.length - e.offset)
  pub within : e.next.at ≤ length s

pub extends : (r : Reading) (s : List ℕ) {e : Extent} → Stands r s e → Extends r s e
extends r s {e} h =
    let t = extent_taken r s h.at (ap is_extent h.is) in
    let g = taken_ranged r s h.at t in
    let b = ranged_bounds r (get_or s h.at 0) (offset_in r s h.at) g in
    subst (Extends r s) (sym (extent_is r s h.at h.is)) (record { ranged = g; offset = b.0; most = b.1; next = refl; within = t.within })

-- the same where the reading is known by now
pub extends_in : {r : Reading} (q : Reading) {s : List ℕ} {e : Extent} → r ≡ q → Stands r s e → Extends q s e
extends_in q {s} {e} i h = subst (λ (x : Reading). Extends x s e) i (extends _ s h)
