-- Where the components of a rule that was read find their operators: each names places below their number, and there are 2,047 at most. By induction
-- over the chain of components: a list takes the next places, and an operator two octets or more.
use Prim.Native.Nat.{ℕ, zero, suc, ◌+◌, ◌-◌, ◌*◌, ◌≤◌}
use mathlib.Core.Path.{◌≡◌, refl, sym, ◌∙◌, subst}
use mathlib.Core.Bool.{false}
use mathlib.Core.List.{List, [], ◌∷◌}
use mathlib.Core.Logic.{⊎_elim}
use native.Mathlib.Omega.{arith}
use lib.Dec.{ltb}
use lib.ListN.{length, get_or, length-append, length-take, length-drop}
use Rattle.ground.proofs.Answers.{never, same_accepted}
use Rattle.ground.specs.Answers.{Answer, accepts, declines}
use Rattle.ground.proofs.Cases.{by_test, lt_or_le}
use Rattle.choices.specs.declared.Reading.{Reading}
use Rattle.choices.specs.declared.Reading.TheVariants.{Ipv4}
use Rattle.prefixes.specs.declared.PrefixAt.{PrefixAt}
use Rattle.prefixes.specs.Prefixes.{prefix_at}
use Rattle.prefixes.proofs.Laws.{prefix_next}
use Rattle.lists.specs.declared.Tally.{Tally}
use Rattle.lists.specs.Runs.{Places}
use Rattle.lists.specs.Lists.{list_at, ops_at, recorded_ops}
use Rattle.lists.proofs.Laws.{list_ends, recorded_counts}
use Rattle.stored.specs.declared.Piece.{Piece}
use Rattle.stored.specs.declared.Piece.TheVariants.{NoRecord}
use Rattle.walk.specs.Walks.{FoundAt, prefix_found, list_found, typed_at, Body}
use Rattle.walk.proofs.Ways.{typed_prefix, typed_list}
use Rattle.walk.proofs.Components.{here}
use Rattle.walk.proofs.Chains.{Chain, none, more, walk_chained}
use Rattle.reading.specs.Readings.{ReadRule, read_at, part}
use Rattle.reading.specs.Parts.{body_start}
use Rattle.reading.proofs.Walked.{read_walked, starts}
use Rattle.listing.specs.Puts.{count_in, Backed, AllBacked}

-- in lists of so many, and so in longer ones
backed_more : {m v o : ℕ} → m ≤ v → m ≤ o → (p : Piece) → Backed m m p → Backed v o p
backed_more h k p w = record { in_values = omega (arith, w.in_values); in_octets = omega (arith, w.in_octets) }

pub all_more : {m v o : ℕ} → m ≤ v → m ≤ o → (ps : List Piece) → AllBacked m m ps → AllBacked v o ps
all_more h k ps w i = backed_more h k (get_or ps i NoRecord) (w i)

all_cons : (v o : ℕ) (p : Piece) (ps : List Piece) → Backed v o p → AllBacked v o ps → AllBacked v o (p ∷ ps)
all_cons v o p ps h w zero = h
all_cons v o p ps h w (suc i) = w i

pub no_operators : (v o : ℕ) → Places 0 0 v o
no_operators v o = record { in_values = omega arith; in_octets = omega arith }

-- how many operators some components have
abbrev pub all_counts : List Piece → ℕ
all_counts [] = 0
all_counts (p ∷ ps) = count_in p + all_counts ps

-- a component that was found: where its operators are, how many, and how long it is
pub record Found (at start : ℕ) (p : FoundAt) : Type 0 where
  pub backed : Backed (start + length p.operators) (start + length p.operators) p.piece
  pub count : count_in p.piece ≡ length p.operators
  pub long : at + 2 * length p.operators ≤ p.next

by_prefix : (r : Reading) (t : ℕ) (s : List ℕ) (at start : ℕ) {q : FoundAt} (a : Answer PrefixAt) → prefix_at r s at ≡ a → prefix_found t a ≡ accepts q → Found at start q
by_prefix r t s at start (accepts p) i e = let h = prefix_next r s at i in subst (Found at start) (same_accepted e) (record { backed = no_operators _ _; count = refl; long = omega arith })
by_prefix r t s at start (declines f) i e = never e

by_list : (r : Reading) (t : ℕ) (s : List ℕ) (at start : ℕ) {q : FoundAt} (a : Answer Tally) → list_at r t s at ≡ a
    → list_found t start (recorded_ops r t (ops_at s at)) a ≡ accepts q → Found at start q
by_list r t s at start (accepts x) i e =
    let h = list_ends r t s at i in
    let n = recorded_counts r t s at i in
    subst (Found at start) (same_accepted e)
    (record { backed = record { in_values = omega arith; in_octets = omega arith }; count = sym n; long = omega arith })
by_list r t s at start (declines f) i e = never e

typed_found : (r : Reading) (t : ℕ) (s : List ℕ) (at start : ℕ) {p : FoundAt} → typed_at r t s at start ≡ accepts p → Found at start p
typed_found r t s at start e =
    ⊎_elim
    (λ h. by_list r t s at start (list_at r t s at) refl (sym (typed_list r t s at start h) ∙ e))
    (λ h. by_prefix r t s at start (prefix_at r s at) refl (sym (typed_prefix r t s at start h) ∙ e))
    (lt_or_le 2 t)

pub record Passed (at start : ℕ) (b : Body) (end : ℕ) : Type 0 where
  pub backed : AllBacked (start + length b.operators) (start + length b.operators) b.pieces
  pub long : at + length b.pieces + 2 * length b.operators ≤ end
  pub total : all_counts b.pieces ≡ length b.operators

chain_passed : {r : Reading} {s : List ℕ} {stop at previous start : ℕ} {b : Body} {end : ℕ} → Chain r s stop at previous start b end → Passed at start b end
chain_passed (none h) = record { backed = λ i. no_operators _ _; long = omega arith; total = refl }
chain_passed {r} {s} {stop} {at} {previous} {start} {b} {end} (more {p = p} {b = d} h q c) =
    let x = typed_found r (get_or s at 0) s (at + 1) start (here r s at previous start q).typed in
    let y = chain_passed c in
    let n = length-append p.operators d.operators in
    record {
      backed =
          all_cons _ _ p.piece d.pieces
          (backed_more (omega arith) (omega arith) p.piece x.backed)
          (all_more (omega arith) (omega arith) d.pieces y.backed);
      long = omega (arith, x.long, y.long);
      total = omega (arith, x.count, y.total);
    }

start_least : (octet : ℕ) → 1 ≤ body_start octet
start_least octet = by_test (ltb octet 240) (λ t. rw t (omega arith)) (λ f. rw f (omega arith))

-- what an input of 4,097 octets at most reads as
pub record BackedRule (rule : ReadRule) : Type 0 where
  pub few : length rule.operators ≤ 2047
  pub backed : AllBacked (length rule.operators) (length rule.operators) rule.pieces
  pub total : all_counts rule.pieces ≡ length rule.operators

none_of : (ps : List Piece) → length ps ≡ 0 → all_counts ps ≡ 0
none_of [] e = refl
none_of (p ∷ ps) e = absurd (omega arith)

pub rule_backed : (s : List ℕ) (rule : ReadRule) → length s ≤ 4097 → read_at Ipv4 false s ≡ accepts rule → BackedRule rule
rule_backed s rule h e =
    let w = read_walked Ipv4 false s rule e in
    let a = w.stated.next.at in
    let n = w.stated.size in
    let p = (starts s w.first).1 in
    let m = start_least (get_or s 0 0) in
    let c = walk_chained Ipv4 (part s (a + 0) (a + n)) (n - 0) w.given w.walked in
    let x = chain_passed c.chain in
    let l : length (part s (a + 0) (a + n)) ≤ n = simp (length-take, length-drop) (omega arith) in
    subst BackedRule w.is
    (record {
      few = ⊎_elim (λ k. omega (arith, x.long, c.within, w.within)) (λ k. let y = none_of w.given.pieces (omega arith) in omega (arith, x.total)) (lt_or_le 0 (length w.given.pieces));
      backed = all_more (omega arith) (omega arith) w.given.pieces x.backed;
      total = x.total;
    })
