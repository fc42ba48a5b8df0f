-- A well-formed rule has a body, and the standard writing gives it after its length, wherever there is room; of two of one family and one distinguisher,
-- and of no others, ranking answers the order.
use Prim.Native.Nat.{ℕ, ◌+◌, ◌≤◌, ◌<◌}
use mathlib.Core.Path.{◌≡◌, refl, sym, ◌∙◌, ap, ap₂, subst}
use mathlib.Core.Bool.{true, false≢true}
use mathlib.Core.Logic.{◌⊎◌, inl, inr, ⊎_elim}
use mathlib.Core.List.{List}
use native.Mathlib.Omega.{arith}
use borrow.Author.Tests.{eq-eqb, eqb-true, le-ltb}
use lib.Dec.{eqb, ltb}
use lib.ListN.{length, drop}
use lib.Seq.{drop_at}
use Rattle.std.specs.Prelude.{Option}
use Rattle.ground.specs.Answers.{Answer, accepts, declines}
use Rattle.ground.proofs.Answers.{never, same_accepted}
use Rattle.ground.proofs.Cases.{by_test, lt_or_le}
use Rattle.octets.specs.Lengths.{length_octets}
use Rattle.choices.specs.declared.Reading.{Reading}
use Rattle.choices.specs.Choices.{standard_of}
use Rattle.stored.specs.Distinguishers.{same_distinguisher}
use Rattle.stored.specs.Stored.{family_at}
use Rattle.stored.proofs.Distinguishers.{same_is, same_self}
use Rattle.writing.specs.Writings.{nlri_octets, in_room, on_accepted, written_in}
use Rattle.writing.proofs.Laws.{short_nlri, long_nlri, Shown, shown, body_named, body_in_lem}
use Rattle.verdicts.specs.Verdicts.{accepted, well_formed, rank_verdict}
use Rattle.equalrank.specs.Pairs.{Lending, distinguisher_of, ranked_as, rank_by, written_as, body_as, IsFormed, Comparable, Gives}
use Rattle.ranking.specs.Ranks.{Ordering}

-- ---- one rule

pub record Formed (a : Lending) : Type 0 where
  pub reading : Reading
  pub is : standard_of (family_at a.words 0) ≡ accepts reading
  pub body : List ℕ
  pub has : body_as a ≡ accepts body
  pub shows : Shown reading a.words a.values a.octets body

formed_by : (a : Lending) (x : Answer (List ℕ)) → body_as a ≡ x → accepted x ≡ true → Formed a
formed_by a (declines f) q e = absurd (false≢true e)
formed_by a (accepts xs) q e =
    let family = family_at a.words 0 in
    let n = body_named family a.words a.values a.octets xs q in
    let w = n.reading in
    record {
      reading = w;
      is = n.is;
      body = xs;
      has = q;
      shows = shown w a.words a.values a.octets xs (sym (body_in_lem family a.words a.values a.octets w n.is) ∙ q);
    }

pub formed : (a : Lending) → IsFormed a → Formed a
unfolding well_formed
formed a e = formed_by a (body_as a) refl e

-- what is written is the body after its length, wherever there is room
module _ (a : Lending) (xs : List ℕ) (e : body_as a ≡ accepts xs) (room : ℕ) where
  by_room : written_as a room ≡ in_room room xs
  unfolding written_in
  by_room = ap (λ (x : Answer (List ℕ)). on_accepted x (in_room room)) e

  pub written_whole : length (nlri_octets xs) ≤ room → written_as a room ≡ accepts (nlri_octets xs)
  written_whole h = by_room ∙ rw (le-ltb room (length (nlri_octets xs)) h)

  pub written_is : (ys : List ℕ) → written_as a room ≡ accepts ys → ys ≡ nlri_octets xs
  written_is ys f =
      by_test (ltb room (length (nlri_octets xs)))
      (λ t. never (rw t at (sym by_room ∙ f)))
      (λ t. sym (same_accepted (rw t at (sym by_room ∙ f))))

nlri_most : (xs : List ℕ) → length xs ≤ 4095 → length (nlri_octets xs) ≤ 4097
nlri_most xs h =
    ⊎_elim (λ (k : length xs < 240). omega (arith, short_nlri xs k)) (λ (k : 240 ≤ length xs). omega (arith, long_nlri xs k)) (lt_or_le (length xs) 240)

pub writes : (a : Lending) → IsFormed a → Gives a
writes a e =
    let f = formed a e in
    let n : length f.body ≤ 4095 = subst (λ (xs : List ℕ). length xs ≤ 4095) (sym f.shows.is) f.shows.taken.most in
    record { out = nlri_octets f.body; most = nlri_most f.body n; in_room = written_whole a f.body f.has }

-- the octets tell the body: their number tells its length
body_long : (xs : List ℕ) (n : ℕ) → length (nlri_octets xs) ≡ n → ((length xs < 240) × (1 + length xs ≡ n)) ⊎ ((240 ≤ length xs) × (2 + length xs ≡ n))
body_long xs n e = ⊎_elim (λ (k : length xs < 240). inl (k, sym (short_nlri xs k) ∙ e)) (λ (k : 240 ≤ length xs). inr (k, sym (long_nlri xs k) ∙ e)) (lt_or_le (length xs) 240)

as_long : (xs ys : List ℕ) → length (nlri_octets xs) ≡ length (nlri_octets ys) → length xs ≡ length ys
as_long xs ys e =
    ⊎_elim
    (λ p. ⊎_elim (λ q. omega (arith, p.1, q.1)) (λ q. absurd (omega (arith, p.0, p.1, q.0, q.1))) (body_long ys _ refl))
    (λ p. ⊎_elim (λ q. absurd (omega (arith, p.0, p.1, q.0, q.1))) (λ q. omega (arith, p.1, q.1)) (body_long ys _ refl))
    (body_long xs _ e)

pub nlri_same : (xs ys : List ℕ) → nlri_octets xs ≡ nlri_octets ys → xs ≡ ys
nlri_same xs ys e =
    let n : length xs ≡ length ys = as_long xs ys (ap length e) in
    let h : length (length_octets (length xs)) ≡ length (length_octets (length ys)) = ap (λ (k : ℕ). length (length_octets k)) n in
    sym (drop_at (length_octets (length xs)) xs (length (length_octets (length xs))) refl)
    ∙ ap₂ (λ (k : ℕ) (l : List ℕ). drop k l) h e
    ∙ drop_at (length_octets (length ys)) ys (length (length_octets (length ys))) refl

-- ---- two rules

module _ (a b : Lending) where
  pub ranks_by : Comparable a b → ranked_as a b ≡ accepts (rank_by a b)
  unfolding rank_verdict
  ranks_by c =
      let d : same_distinguisher (distinguisher_of b) (distinguisher_of a) ≡ true =
      ap (λ (x : Option ℕ). same_distinguisher (distinguisher_of b) x) c.of_one ∙ same_self (distinguisher_of b) in
      rw (c.formed, c.formed2, eq-eqb (family_at a.words 0) (family_at b.words 0) c.of_family, d)

  pub ranked_comparable : (o : Ordering) → ranked_as a b ≡ accepts o → Comparable a b
  unfolding rank_verdict
  ranked_comparable o e =
      by_test (well_formed a.words a.values a.octets 0)
      (λ x. by_test (well_formed b.words b.values b.octets 0)
      (λ y. by_test (eqb (family_at a.words 0) (family_at b.words 0))
      (λ z. by_test (same_distinguisher (distinguisher_of b) (distinguisher_of a))
      (λ u. record { formed = x; formed2 = y; of_family = eqb-true _ _ z; of_one = sym (same_is (distinguisher_of b) (distinguisher_of a) u) })
      (λ u. never (rw (x, y, z, u) at e)))
      (λ z. never (rw (x, y, z) at e)))
      (λ y. never (rw (x, y) at e)))
      (λ x. never (rw x at e))

-- the reading that their family names
pub one_reading : (a b : Lending) (c : Comparable a b) → (formed b c.formed2).reading ≡ (formed a c.formed).reading
one_reading a b c = same_accepted (sym (formed b c.formed2).is ∙ ap standard_of (sym c.of_family) ∙ (formed a c.formed).is)
