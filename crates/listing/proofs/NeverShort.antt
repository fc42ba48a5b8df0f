-- The reading of an input as flowlist lists it: with room for 2,047 operators it is never short of room.
use Prim.Native.Nat.{ℕ, ◌≤◌, ◌<◌}
use mathlib.Core.Path.{◌≡◌, refl, sym, ◌∙◌}
use mathlib.Core.Bool.{false}
use mathlib.Core.List.{List, [], ◌∷◌}
use native.Mathlib.Omega.{arith}
use borrow.Author.Tests.{lt-ltb, le-ltb}
use lib.Dec.{leb}
use lib.ListN.{length}
use Rattle.ground.specs.Answers.{Answer, accepts, refuses, declines}
use Rattle.ground.proofs.Cases.{by_test}
use Rattle.choices.specs.declared.Reading.TheVariants.{Ipv4}
use Rattle.reading.specs.Readings.{ReadRule, read_at, shorter, roomed, read_into}
use Rattle.listing.specs.Listings.{listed_at}
use Rattle.listing.proofs.RulesBacked.{rule_backed}

pub over_long : (s : List ℕ) → 4097 < length s → listed_at s ≡ refuses 8 (4098 ∷ [])
unfolding listed_at
over_long s h = rw (lt-ltb 4097 (length s) h)

pub read_whole : (s : List ℕ) → length s ≤ 4097 → listed_at s ≡ read_at Ipv4 false s
unfolding listed_at
read_whole s h = rw (le-ltb 4097 (length s) h)

shorter_least : (n v o : ℕ) → n ≤ v → n ≤ o → n ≤ shorter v o
shorter_least n v o h k = by_test (leb v o) (λ t. rw t h) (λ f. rw f k)

roomy : (s : List ℕ) (w v o : ℕ) → length s ≤ 4097 → 64 ≤ w → 2047 ≤ v → 2047 ≤ o → (a : Answer ReadRule) → read_at Ipv4 false s ≡ a → roomed a w v o ≡ a
roomy s w v o l h i j (accepts r) e =
    let f = (rule_backed s r l e).few in
    let k = shorter_least (length r.operators) v o (omega arith) (omega arith) in
    rw (le-ltb w 64 h, le-ltb (shorter v o) (length r.operators) k)
roomy s w v o l h i j (declines f) e = refl

pub as_read : (s : List ℕ) (w v o : ℕ) → length s ≤ 4097 → 64 ≤ w → 2047 ≤ v → 2047 ≤ o → read_into Ipv4 false s w v o ≡ listed_at s
unfolding read_into
as_read s w v o l h i j = roomy s w v o l h i j (read_at Ipv4 false s) refl ∙ sym (read_whole s l)
