-- The bodies of two well-formed rules of one family and one distinguisher, in the reading that both have: the same octets of a distinguisher, then the
-- components. What ranking answers of the rules is so told by the bodies.
use Prim.Native.Nat.{ℕ}
use mathlib.Core.Path.{◌≡◌, refl, sym, ◌∙◌, ap, ap₂, subst}
use mathlib.Core.List.{List, [], ◌∷◌, ◌++◌}
use Rattle.std.specs.Prelude.{Option}
use Rattle.ground.specs.Answers.{accepts}
use Rattle.ground.proofs.Answers.{same_accepted}
use Rattle.choices.specs.declared.Reading.{Reading}
use Rattle.choices.specs.Choices.{standard_of}
use Rattle.stored.specs.Stored.{family_at}
use Rattle.measuring.specs.Bodies.{distinguisher_octets, body_octets, whole_octets}
use Rattle.measuring.proofs.Laws.{Standard, standard_shows, Taken}
use Rattle.writing.proofs.Laws.{Shown}
use Rattle.ranking.specs.Ranks.{Ordering, Equal, then_by, in_turn, rank_octets, rank_of}
use Rattle.ranking.proofs.Orders.{low_equal}
use Rattle.ranking.proofs.Laws.{same_octets, octets_same}
use Rattle.equalrank.specs.Pairs.{Lending, pieces_of, lent_of, distinguisher_of, ranked_as, rank_by, body_as, Comparable, ByOctets}
use Rattle.equalrank.proofs.BodyOrders.{Two, all_typed, equal_same_octets, same_octets_equal, by_octets}
use Rattle.equalrank.proofs.LentRules.{formed, ranks_by, one_reading}

-- octets that both have first play no part
pub past_common : (ds xs ys : List ℕ) → rank_octets (ds ++ xs) (ds ++ ys) ≡ rank_octets xs ys
unfolding in_turn
past_common [] xs ys = refl
past_common (d ∷ ds) xs ys = ap (λ (o : Ordering). then_by o (rank_octets (ds ++ xs) (ds ++ ys))) (low_equal d d refl) ∙ past_common ds xs ys

-- both in one reading, which is standard
pub record Pair (a b : Lending) : Type 0 where
  pub reading : Reading
  pub named : standard_of (family_at a.words 0) ≡ accepts reading
  pub standard : Standard reading
  pub body : List ℕ
  pub body2 : List ℕ
  pub has : body_as a ≡ accepts body
  pub has2 : body_as b ≡ accepts body2
  pub is : body ≡ distinguisher_octets reading (distinguisher_of a) ++ body_octets reading (lent_of a) (pieces_of a)
  pub is2 : body2 ≡ distinguisher_octets reading (distinguisher_of a) ++ body_octets reading (lent_of b) (pieces_of b)
  pub taken : Taken reading (lent_of a) (distinguisher_of a) (pieces_of a)
  pub taken2 : Taken reading (lent_of b) (distinguisher_of b) (pieces_of b)

pub pair : (a b : Lending) → Comparable a b → Pair a b
pair a b c =
    let f = formed a c.formed in
    let g = formed b c.formed2 in
    let w = f.reading in
    let s : Shown w b.words b.values b.octets g.body = subst (λ (r : Reading). Shown r b.words b.values b.octets g.body) (one_reading a b c) g.shows in
    record {
      reading = w;
      named = f.is;
      standard = (standard_shows (family_at a.words 0) w f.is).0;
      body = f.body;
      body2 = g.body;
      has = f.has;
      has2 = g.has;
      is = f.shows.is;
      is2 = s.is ∙ ap (λ (d : Option ℕ). whole_octets w (lent_of b) d (pieces_of b)) (sym c.of_one);
      taken = f.shows.taken;
      taken2 = s.taken;
    }

module _ (a b : Lending) (c : Comparable a b) where
  abbrev pub both : Pair a b
  both = pair a b c

  -- the octets of the distinguisher, and of the components of each
  abbrev front : List ℕ
  front = distinguisher_octets both.reading (distinguisher_of a)

  abbrev pub behind : List ℕ
  behind = body_octets both.reading (lent_of a) (pieces_of a)

  abbrev pub behind2 : List ℕ
  behind2 = body_octets both.reading (lent_of b) (pieces_of b)

  each : Two both.reading both.standard (lent_of a) (lent_of b) (pieces_of a) (pieces_of b)
  each = (all_typed _ a.words 0, all_typed _ b.words 0, both.taken.each, both.taken2.each)

  pub equal_bodies : ranked_as a b ≡ accepts Equal → both.body ≡ both.body2
  unfolding rank_of
  equal_bodies e =
      let p = both in
      let z = equal_same_octets p.reading p.standard (lent_of a) (lent_of b) (pieces_of a) (pieces_of b) each (same_accepted (sym (ranks_by a b c) ∙ e)) in
      p.is ∙ ap (λ (xs : List ℕ). front ++ xs) (same_octets behind behind2 z) ∙ sym p.is2

  pub components_equal : behind ≡ behind2 → ranked_as a b ≡ accepts Equal
  unfolding rank_of
  components_equal e = let p = both in ranks_by a b c ∙ ap accepts (same_octets_equal p.reading p.standard (lent_of a) (lent_of b) (pieces_of a) (pieces_of b) each e)

  pub bodies_equal : both.body ≡ both.body2 → ranked_as a b ≡ accepts Equal
  bodies_equal e =
      let z : front ++ behind ≡ front ++ behind2 = sym both.is ∙ e ∙ both.is2 in
      components_equal (same_octets behind behind2 (sym (past_common front behind behind2) ∙ ap (λ (l : List ℕ). rank_octets (front ++ behind) l) (sym z) ∙ octets_same (front ++ behind)))

  pub ordered_bodies : (w : Reading) → standard_of (family_at a.words 0) ≡ accepts w → ByOctets w a b → ranked_as a b ≡ accepts (rank_octets both.body both.body2)
  unfolding rank_of
  ordered_bodies w i d =
      let p = both in
      let o : rank_by a b ≡ rank_octets behind behind2 =
      by_octets p.reading p.standard (lent_of a) (lent_of b) (pieces_of a) (pieces_of b) each (subst (λ (v : Reading). ByOctets v a b) (same_accepted (sym i ∙ p.named)) d) in
      ranks_by a b c ∙ ap accepts (o ∙ sym (ap₂ rank_octets p.is p.is2 ∙ past_common front behind behind2))
