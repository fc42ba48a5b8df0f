-- What the standard reading gives of a written rule, with anything after it, is the rule's canonical form; where two are the same, so are the octets.
use Prim.Native.Nat.{ℕ, ◌<◌, ◌/◌}
use mathlib.Core.Path.{◌≡◌, sym, ◌∙◌, ap, ap₂}
use mathlib.Core.List.{List, [], ◌++◌}
use native.Mathlib.Omega.{arith}
use lib.ListN.{length}
use Rattle.std.specs.Prelude.{Option}
use Rattle.ground.specs.Answers.{accepts}
use Rattle.ground.proofs.Answers.{same_accepted}
use Rattle.choices.specs.declared.Reading.{Reading}
use Rattle.choices.specs.Choices.{family_of}
use Rattle.stored.specs.Stored.{family_at, stored_at}
use Rattle.stored.proofs.Words.{at_good}
use Rattle.measuring.proofs.Laws.{standard_shows}
use Rattle.writing.proofs.Laws.{written_in_lem}
use Rattle.walk.specs.Walks.{Body}
use Rattle.reading.specs.Readings.{ReadRule, read_rule, read_at, standard_into}
use Rattle.reading.proofs.Walked.{into_read}
use Rattle.roundtrips.specs.Trips.{canonical, expected, Words}
use Rattle.roundtrips.proofs.FamiliesAndRooms.{not_plain, standard_into_lem}
use Rattle.roundtrips.proofs.RoundTrips.{written_read}
use Rattle.equalrank.specs.Pairs.{Lending, distinguisher_of, written_as, IsFormed, Comparable}
use Rattle.equalrank.proofs.LentRules.{formed, one_reading}

abbrev pub canonical_of : Lending → Body
canonical_of a = canonical (stored_at a.words 0) a.values a.octets

module _ (a : Lending) (f : IsFormed a) (ws : Words a.words) (room : ℕ) (xs : List ℕ) (e : written_as a room ≡ accepts xs) where
  abbrev family : ℕ
  family = family_at a.words 0

  abbrev back : ReadRule
  back = read_rule (canonical_of a) (family_of (formed a f).reading) (distinguisher_of a) (length xs)

  pub read_back : (zs : List ℕ) → read_at (formed a f).reading (expected (distinguisher_of a)) (xs ++ zs) ≡ accepts back
  read_back zs =
      let g = formed a f in
      let w = g.reading in
      let there : 0 < length a.words / 64 = omega (arith, g.shows.whole) in
      written_read w (not_plain w (standard_shows family w g.is).0) a.words a.values a.octets room xs (stored_at a.words 0) ws (at_good a.words 0 there g.shows.rule)
      (sym (written_in_lem family a.words a.values a.octets w g.is room) ∙ e) zs

  -- in whatever room it was read
  pub read_is : (zs : List ℕ) (words values octets : ℕ) (r : ReadRule) → standard_into family (expected (distinguisher_of a)) (xs ++ zs) words values octets ≡ accepts r → r ≡ back
  read_is zs words values octets r h =
      let g = formed a f in
      let rd = expected (distinguisher_of a) in
      same_accepted (sym (into_read g.reading rd (xs ++ zs) words values octets r (sym (standard_into_lem family rd (xs ++ zs) words values octets g.reading g.is) ∙ h)) ∙ read_back zs)

-- the same octets give the same rule, whatever follows
pub same_back : (a b : Lending) (c : Comparable a b) (ws : Words a.words) (ws2 : Words b.words) (room room2 : ℕ) (xs ys : List ℕ)
    (e : written_as a room ≡ accepts xs) (f : written_as b room2 ≡ accepts ys) → xs ≡ ys → back a c.formed ws room xs e ≡ back b c.formed2 ws2 room2 ys f
same_back a b c ws ws2 room room2 xs ys e f q =
    same_accepted
    (sym (read_back a c.formed ws room xs e [])
    ∙ ap₂ (λ (w : Reading) (d : Option ℕ). read_at w (expected d) (xs ++ [])) (sym (one_reading a b c)) c.of_one
    ∙ ap (λ (l : List ℕ). read_at (formed b c.formed2).reading (expected (distinguisher_of b)) (l ++ [])) q
    ∙ read_back b c.formed2 ws2 room2 ys f [])
