-- A whole rule that the standard writing wrote is read back in canonical form: the length says where the body ends, and the walk sees nothing
-- else.
use Prim.Native.Nat.{ℕ, ◌+◌, ◌-◌, ◌≤◌}
use mathlib.Core.Path.{◌≡◌, refl, sym, ap, ap₂, ◌∙◌, subst}
use mathlib.Core.Bool.{Bool, false}
use mathlib.Core.List.{List, ◌++◌, append_assoc}
use native.Mathlib.Omega.{arith}
use lib.ListN.{length, take, length-append}
use lib.Seq.{take-append_seam, drop-append_seam}
use Rattle.std.specs.Prelude.{Option}
use Rattle.ground.specs.Answers.{Answer, answer_by, accepts}
use Rattle.octets.specs.declared.Length.{Length}
use Rattle.octets.specs.Lengths.{length_at, length_octets}
use Rattle.choices.specs.declared.Reading.{Reading}
use Rattle.choices.specs.declared.Reading.TheVariants.{Plain, Ipv4, Ipv6}
use Rattle.choices.specs.Choices.{bound_of, front_of, family_of}
use Rattle.stored.specs.Stored.{StoredRule, rule_at}
use Rattle.walk.specs.Walks.{Body, walk_at}
use Rattle.reading.specs.Readings.{read_rule, ruled, part, front_at, too_long, read_at}
use Rattle.reading.proofs.Stated.{stated_components}
use Rattle.measuring.specs.Bodies.{lent, distinguisher_octets, body_octets, whole_octets}
use Rattle.measuring.proofs.Laws.{Standard, Taken, body_shows}
use Rattle.writing.specs.Writings.{nlri_octets, written_from}
use Rattle.writing.proofs.Laws.{wrote, body_as_lem}
use Rattle.roundtrips.specs.Trips.{canonical, expected, Words}
use Rattle.roundtrips.proofs.Distinguishers.{Word, front_long, front_back, stored_word}
use Rattle.roundtrips.proofs.Lengths.{length_back}
use Rattle.roundtrips.proofs.StoredPieces.{sound_stored}
use Rattle.roundtrips.proofs.WrittenBodies.{AllSound, walk_back}

-- an input of which the length is read, and the walk over what follows it and a distinguisher is accepted
module _ (w : Reading) (rd : Bool) (s : List ℕ) (l : Length) (b : Body) (e : length_at s 0 ≡ accepts l) (h : l.next.at + l.size ≤ length s) (fits : front_of w rd ≤ l.size) where
  abbrev ReadAs : Type 0
  ReadAs = read_at w rd s ≡ accepts (read_rule b (family_of w) (front_at (front_of w rd) s l.next.at) (l.next.at + l.size))

  read_by : too_long w (length s) ≡ false → {end : ℕ} → end ≡ bound_of w (length s) (l.next.at + l.size)
      → walk_at w (part s (l.next.at + front_of w rd) end) (l.size - front_of w rd) ≡ accepts b → ReadAs
  unfolding read_at
  read_by n i q =
      let front = front_of w rd in
      let at = l.next.at in
      rw (n, e)
      (stated_components w rd s at l.size h fits
      ∙ ap (λ (a : Answer Body). ruled (family_of w) (front_at front s at) (at + l.size) (answer_by (at + front) a))
      (ap (λ (x : ℕ). walk_at w (part s (at + front) x) (l.size - front)) (sym i) ∙ q))

-- in a standard reading the walk sees what stands before the stated end
read_stated : (w : Reading) → Standard w → (rd : Bool) (s : List ℕ) (l : Length) (b : Body) (e : length_at s 0 ≡ accepts l) (h : l.next.at + l.size ≤ length s) (fits : front_of w rd ≤ l.size)
    → walk_at w (part s (l.next.at + front_of w rd) (l.next.at + l.size)) (l.size - front_of w rd) ≡ accepts b → ReadAs w rd s l b e h fits
read_stated Plain u rd s l b e h f q = absurd u
read_stated Ipv4 u rd s l b e h f q = read_by Ipv4 rd s l b e h f refl refl q
read_stated Ipv6 u rd s l b e h f q = read_by Ipv6 rd s l b e h f refl refl q

-- the octets between two others
middle : (hs bs ys : List ℕ) → part (hs ++ (bs ++ ys)) (length hs) (length hs + length bs) ≡ bs
middle hs bs ys =
    let e : length hs + length bs - length hs ≡ length bs = omega arith in
    ap₂ (λ (n : ℕ) (l : List ℕ). take n l) e (drop-append_seam hs (bs ++ ys)) ∙ take-append_seam bs ys

module _ (w : Reading) (st : Standard w) where
  -- a body behind a distinguisher
  read_whole : (d : Option ℕ) → Word d → (bs : List ℕ) (b : Body) → length (distinguisher_octets w d ++ bs) ≤ 4095 → walk_at w bs (length bs) ≡ accepts b → (ys : List ℕ)
      → read_at w (expected d) (nlri_octets (distinguisher_octets w d ++ bs) ++ ys) ≡ accepts (read_rule b (family_of w) d (length (nlri_octets (distinguisher_octets w d ++ bs))))
  read_whole d word bs b h q ys =
      let ds = distinguisher_octets w d in
      let rd = expected d in
      let front = front_of w rd in
      let xs = ds ++ bs in
      let hs = length_octets (length xs) in
      let s = hs ++ (xs ++ ys) in
      let l : Length = record { size = length xs; next = record { at = length hs } } in
      let f : length ds ≡ front = front_long w st d in
      let m : length xs ≡ length ds + length bs = length-append ds bs in
      let n : length s ≡ length hs + (length xs + length ys) = length-append hs (xs ++ ys) ∙ ap (λ (k : ℕ). length hs + k) (length-append xs ys) in
      let k : length hs + length xs ≤ length s = omega arith in
      let z : length xs - front ≡ length bs = omega arith in
      let split : s ≡ (hs ++ ds) ++ (bs ++ ys) = ap (λ (t : List ℕ). hs ++ t) (append_assoc ds bs ys) ∙ sym (append_assoc hs ds (bs ++ ys)) in
      let u : length (hs ++ ds) ≡ length hs + front = length-append hs ds ∙ ap (λ (j : ℕ). length hs + j) f in
      let v : length (hs ++ ds) + length bs ≡ length hs + length xs = omega arith in
      let seen : part s (length hs + front) (length hs + length xs) ≡ bs =
      ap (λ (t : List ℕ). part t (length hs + front) (length hs + length xs)) split
      ∙ ap₂ (λ (i j : ℕ). part ((hs ++ ds) ++ (bs ++ ys)) i j) (sym u) (sym v) ∙ middle (hs ++ ds) bs ys in
      let is : front_at front s (length hs) ≡ d =
      ap (λ (t : List ℕ). front_at front (hs ++ t) (length hs)) (append_assoc ds bs ys) ∙ front_back w st d word hs (bs ++ ys) in
      ap (read_at w rd) (append_assoc hs xs ys)
      ∙ read_stated w st rd s l b (length_back (length xs) (xs ++ ys) h) k (omega arith) (ap₂ (λ (t : List ℕ) (j : ℕ). walk_at w t j) seen z ∙ q)
      ∙ ap₂ (λ (x : Option ℕ) (j : ℕ). accepts (read_rule b (family_of w) x j)) is (sym (length-append hs xs))

  -- what a writing takes
  pub taken_back : (s : StoredRule) (values octets : List ℕ) → AllSound s.pieces → Word s.head.distinguisher
      → Taken w (lent values octets s.head.first) s.head.distinguisher s.pieces → (ys : List ℕ)
      → read_at w (expected s.head.distinguisher) (nlri_octets (whole_octets w (lent values octets s.head.first) s.head.distinguisher s.pieces) ++ ys)
      ≡ accepts (read_rule (canonical s values octets) (family_of w) s.head.distinguisher (length (nlri_octets (whole_octets w (lent values octets s.head.first) s.head.distinguisher s.pieces))))
  taken_back s values octets a word t ys =
      let l = lent values octets s.head.first in
      read_whole s.head.distinguisher word (body_octets w l s.pieces) (canonical s values octets) t.most (walk_back w st l s.pieces a t.each t.order) ys

  pub written_back : (words values octets : List ℕ) (room : ℕ) (xs : List ℕ) (rule : StoredRule) → Words words → rule_at words 0 ≡ accepts rule
      → written_from w words values octets room ≡ accepts xs → (ys : List ℕ)
      → read_at w (expected rule.head.distinguisher) (xs ++ ys) ≡ accepts (read_rule (canonical rule values octets) (family_of w) rule.head.distinguisher (length xs))
  written_back words values octets room xs rule ws i e ys =
      let l = lent values octets rule.head.first in
      let d = rule.head.distinguisher in
      let t = wrote w words values octets room xs e in
      let m = body_shows w l rule.pieces d t.body (sym (body_as_lem w words values octets rule i) ∙ t.measured) in
      subst (λ (zs : List ℕ). read_at w (expected d) (zs ++ ys) ≡ accepts (read_rule (canonical rule values octets) (family_of w) d (length zs))) (sym (t.is ∙ ap nlri_octets m.1))
      (taken_back rule values octets (sound_stored words rule ws i) (stored_word words rule ws i) m.0 ys)
