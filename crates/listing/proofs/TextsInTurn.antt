-- Texts put one after the other: put in turn they are the whole put. Of a text put by a loop, `Left` tells what is left to put.
use Prim.Native.Nat.{ℕ, ◌+◌}
use mathlib.Core.Path.{◌≡◌, sym, ap₂, ◌∙◌, subst}
use mathlib.Core.List.{List, [], ◌∷◌, ◌++◌}
use native.Mathlib.Omega.{arith}
use lib.ListN.{length, length-append}
use lib.Seq.{sets}
use Rattle.ground.proofs.Overlays.{sets_append}
use Rattle.listing.specs.declared.Page.{Page}
use Rattle.listing.specs.Puts.{Placeable, Put}

-- a text under another name
pub put_same : {old new : Page} {xs ys : List ℕ} → xs ≡ ys → Put old xs new → Put old ys new
put_same {old} {new} e p = subst (λ (zs : List ℕ). Put old zs new) e p

pub joins : {old mid new : Page} (xs ys : List ℕ) → Put old xs mid → Put mid ys new → Put old (xs ++ ys) new
joins {old} xs ys first second =
    record {
      place = omega (arith, length-append xs ys, first.place, second.place);
      stored =
          second.stored
          ∙ ap₂ (λ (l : List ℕ) (n : ℕ). sets l n ys) first.stored first.place
          ∙ sym (sets_append old.out.now old.at xs ys);
      same = second.same ∙ first.same;
    }

pub placeable_first : {page : Page} (xs ys : List ℕ) → Placeable page (xs ++ ys) → Placeable page xs
placeable_first xs ys r = record { fits = omega (arith, length-append xs ys, r.fits) }

-- with `rest` put on what the page has become, it is as if the whole were put
pub record Left (old : Page) (whole : List ℕ) (mid : Page) (rest : List ℕ) : Type 0 where
  pub place : mid.at + length rest ≡ old.at + length whole
  pub stored : sets mid.out.now mid.at rest ≡ sets old.out.now old.at whole
  pub same : mid.out.ghost_name ≡ old.out.ghost_name

pub left_same : {old mid : Page} {whole xs ys : List ℕ} → xs ≡ ys → Left old whole mid xs → Left old whole mid ys
left_same {old} {mid} {whole} e h = subst (Left old whole mid) e h

module _ {old mid : Page} {whole : List ℕ} (xs ys : List ℕ) where
  pub left_placeable : Left old whole mid (xs ++ ys) → Placeable old whole → Placeable mid xs
  left_placeable h r = record { fits = omega (arith, length-append xs ys, h.place) }

  pub left_more : {new : Page} → Left old whole mid (xs ++ ys) → Put mid xs new → Left old whole new ys
  left_more h f =
      record {
        place = omega (arith, length-append xs ys, h.place, f.place);
        stored = ap₂ (λ (l : List ℕ) (n : ℕ). sets l n ys) f.stored f.place ∙ sym (sets_append mid.out.now mid.at xs ys) ∙ h.stored;
        same = f.same ∙ h.same;
      }

module _ {old mid : Page} {whole : List ℕ} where
  pub left_end : (rest : List ℕ) → rest ≡ [] → Left old whole mid rest → Put old whole mid
  left_end [] e h = record { place = omega (arith, h.place); stored = h.stored; same = h.same }
  left_end (x ∷ rest) e h = let z : ◌≡◌ {A = ℕ} 0 1 = cc in absurd (omega arith)

  -- what is left, put at once
  pub left_last : {rest : List ℕ} {new : Page} → Left old whole mid rest → Put mid rest new → Put old whole new
  left_last h f = record { place = omega (arith, h.place, f.place); stored = f.stored ∙ h.stored; same = f.same ∙ h.same }
