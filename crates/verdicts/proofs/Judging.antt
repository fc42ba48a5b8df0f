-- The walk over a rule's words: what is left of them to count and to match after i components.
use Prim.Native.Nat.{ℕ, ◌+◌, ◌-◌, ◌*◌, ◌≤◌, ◌<◌}
use mathlib.Core.Path.{◌≡◌, refl, sym, ap, ap₂, ◌∙◌}
use mathlib.Core.Bool.{Bool, true, false, ◌&&◌, and-true, and_assoc}
use mathlib.Core.List.{List}
use native.Mathlib.Omega.{arith}
use lib.ListN.{length, drop, length-drop}
use Rattle.std.specs.Prelude.{Option}
use Rattle.std.specs.declared.option.Option.TheVariants.{Some, None}
use Rattle.ground.specs.Answers.{Answer, accepts, declines}
use Rattle.ground.proofs.Cases.{both}
use Rattle.choices.specs.declared.Reading.{Reading}
use Rattle.stored.specs.declared.Piece.{Piece}
use Rattle.stored.specs.Pieces.{piece_at, type_of}
use Rattle.stored.specs.Distinguishers.{distinguisher_at}
use Rattle.stored.specs.Stored.{count_at, first_at, pieces_from, is_framed, stored_at}
use Rattle.stored.proofs.Words.{framed}
use Rattle.packets.specs.Packets.{Packet, packet_ok}
use Rattle.matching.specs.Rules.{piece_matches, rule_matches}
use Rattle.matching.proofs.Walks.{rest, rest_starts, rest_more, rest_ends}
use Rattle.measuring.specs.Bodies.{Lent, lent, distinguisher_octets}
use Rattle.measuring.specs.Grounds.{operators_in, body_of, counted}
use Rattle.measuring.specs.Weights.{weight_of}
use Rattle.measuring.proofs.Walks.{rest_from, walk_first, walk_large, walk_done, walk_bad, walk_more}
use Rattle.measuring.proofs.Weights.{weight_few, weight_most}
use Rattle.writing.specs.Writings.{body_from}
use Rattle.writing.proofs.Laws.{no_frame, by_frame}
use Rattle.verdicts.specs.declared.Step.{Step}
use Rattle.verdicts.specs.Steps.{step_of}
use Rattle.verdicts.specs.Verdicts.{accepted, judged}
use Rattle.verdicts.proofs.Steps.{step_some, step_none}
use Rattle.verdicts.proofs.RestOfWords.{piece_rest, count_rest, first_rest, distinguisher_rest, framed_rest}

by_count : (a : Answer (List ℕ)) → accepted (counted a) ≡ accepted a
by_count (accepts xs) = refl
by_count (declines f) = refl

module _ (w : Reading) (ws : List ℕ) (base : ℕ) (values octets : List ℕ) (p : Packet) (ask : Bool) where
  -- the rule's body, and what is answered
  abbrev whole : Answer (List ℕ)
  whole = body_from w (drop base ws) values octets

  abbrev matched : Bool
  matched = rule_matches values octets p (stored_at ws base)

  -- there is none
  refused : {a : Answer ℕ} → counted whole ≡ a → accepted a ≡ false → None ≡ judged (accepted whole) (ask && matched)
  refused e f = ap (λ (b : Bool). judged b (ask && matched)) (sym f ∙ sym (ap accepted e) ∙ by_count whole)

  long : base + 64 ≤ length ws → 64 ≤ length (drop base ws)
  long h = omega (arith, length-drop base ws)

  pub judge_frame : base + 64 ≤ length ws → is_framed ws base ≡ false → None ≡ judged (accepted whole) (ask && matched)
  judge_frame h e = refused (ap counted (no_frame w (drop base ws) values octets (long h) (framed_rest base ws ∙ e))) refl

  -- the octets of the distinguisher count beside those of the components
  abbrev front : ℕ
  front = length (distinguisher_octets w (distinguisher_at ws base))

  module _ (count first : ℕ) where
    abbrev lists : Lent
    lists = lent values octets first

    pub record Judging (i left previous body : ℕ) (met : Bool) : Type 0 where
      pub most : count ≤ 13
      pub passed : i ≤ count
      pub room : left ≤ 2047
      pub small : body ≤ 19 * i + 9 * (2047 - left)
      pub fields_in_range : met ≡ true → packet_ok p ≡ true
      pub counts : counted whole ≡ rest_from w lists (drop base ws) count i left previous (front + body)
      pub meets : (ask && matched) ≡ (met && rest values octets p ws base count first i)

    pub judge_starts : base + 64 ≤ length ws → is_framed ws base ≡ true → count ≡ count_at ws base → first ≡ first_at ws base
        → (ask ≡ true → packet_ok p ≡ true) → Judging 0 2047 0 0 ask
    judge_starts h e n f ok =
        let z : front ≡ front + 0 = omega arith in
        record {
          most = omega (arith, n, (framed ws base e).few);
          passed = omega arith;
          room = omega arith;
          small = omega arith;
          fields_in_range = ok;
          counts =
              ap counted (by_frame w (drop base ws) values octets (long h) (framed_rest base ws ∙ e))
              ∙ ap₂ (λ (k m : ℕ). counted (body_of w (lent values octets m) (distinguisher_at (drop base ws) 0) (pieces_from k (drop base ws) 0))) (count_rest base ws ∙ sym n) (first_rest base ws ∙ sym f)
              ∙ ap (λ (x : Option ℕ). counted (body_of w lists x (pieces_from count (drop base ws) 0))) (distinguisher_rest base ws)
              ∙ walk_first w lists (drop base ws) count (distinguisher_at ws base) refl ∙ ap (λ (b : ℕ). rest_from w lists (drop base ws) count 0 2047 0 b) z;
          meets = ap (λ (b : Bool). ask && b) (rest_starts values octets p ws base count first n f);
        }

    module _ (i left previous body : ℕ) (met : Bool) (j : Judging i left previous body met) where
      pub judge_large : count ≤ i → 4095 < front + body → None ≡ judged (accepted whole) (ask && matched)
      judge_large h k = refused (j.counts ∙ walk_large w lists (drop base ws) count i left previous (front + body) h k) refl

      pub judge_ends : count ≤ i → front + body ≤ 4095 → Some met ≡ judged (accepted whole) (ask && matched)
      judge_ends h k =
          let a : true ≡ accepted whole = sym (ap accepted (j.counts ∙ walk_done w lists (drop base ws) count i left previous (front + body) h k)) ∙ by_count whole in
          let m : met ≡ (ask && matched) = sym (j.meets ∙ ap (λ (b : Bool). met && b) (rest_ends values octets p ws base count first i h) ∙ and-true met) in
          ap₂ judged a m

      -- a turn, by what the component tells
      module _ (h : i < count) where
        abbrev piece : Piece
        piece = piece_at ws (base + 4 * i)

        pub judge_stops : None ≡ step_of w lists left previous p met piece → None ≡ judged (accepted whole) (ask && matched)
        unfolding step_of
        judge_stops e =
            let z = step_none (weight_of w lists left previous piece) _ _ _ e in
            refused (j.counts ∙ walk_bad w lists (drop base ws) count i left previous (front + body) h (piece_rest base ws (4 * i)) z) refl

        module _ {s : Step} (told : Some s ≡ step_of w lists left previous p met piece) where
          tells : (weight_of w lists left previous piece ≡ 0 → ⊥)
              × (s ≡ record { octets = weight_of w lists left previous piece; tag = type_of piece; operators = operators_in piece; met = met && piece_matches values octets first p piece })
          unfolding step_of
          tells = step_some _ _ _ _ told

          weighs : s.octets ≡ weight_of w lists left previous piece
          weighs = ap (λ (x : Step). x.octets) tells.1

          names : s.operators ≡ operators_in piece
          names = ap (λ (x : Step). x.operators) tells.1

          weight : 0 < weight_of w lists left previous piece
          weight = omega (arith, tells.0)

          pub few : s.operators ≤ left
          few = omega (arith, names, weight_few w lists left previous piece weight)

          pub most_octets : s.octets ≤ 19 + 9 * s.operators
          most_octets = omega (arith, names, weighs, weight_most w lists left previous piece weight)

          met_now : s.met ≡ (met && piece_matches values octets first p piece)
          met_now = ap (λ (x : Step). x.met) tells.1

          sum : front + body + s.octets ≡ front + (body + s.octets)
          sum = omega arith

          next_counts : counted whole ≡ rest_from w lists (drop base ws) count (i + 1) (left - s.operators) s.tag (front + (body + s.octets))
          next_counts =
              j.counts
              ∙ walk_more w lists (drop base ws) count i left previous (front + body) h (piece_rest base ws (4 * i)) weight
              ∙ ap (λ (x : Step). rest_from w lists (drop base ws) count (i + 1) (left - x.operators) x.tag (front + body + x.octets)) (sym tells.1)
              ∙ ap (rest_from w lists (drop base ws) count (i + 1) (left - s.operators) s.tag) sum

          next_meets : (ask && matched) ≡ (s.met && rest values octets p ws base count first (i + 1))
          next_meets =
              j.meets
              ∙ ap (λ (b : Bool). met && b) (rest_more values octets p ws base count first i h)
              ∙ sym (and_assoc met (piece_matches values octets first p piece) (rest values octets p ws base count first (i + 1)))
              ∙ ap (λ (b : Bool). b && rest values octets p ws base count first (i + 1)) (sym met_now)

          pub judge_goes : Judging (i + 1) (left - s.operators) s.tag (body + s.octets) s.met
          judge_goes =
              record {
                most = j.most;
                passed = omega arith;
                room = let r = j.room in omega arith;
                small = let b = j.small in let r = j.room in omega (arith, few, most_octets);
                fields_in_range = λ e. j.fields_in_range (both met (piece_matches values octets first p piece) (sym met_now ∙ e)).0;
                counts = next_counts;
                meets = next_meets;
              }
