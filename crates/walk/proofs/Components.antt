-- What a component that was found says of the octets, by cases over the ways that it goes: its type rises and is known, it ends past its
-- operators and within the octets.
use Prim.Native.Nat.{ℕ, ◌+◌, ◌≤◌, ◌<◌}
use mathlib.Core.Path.{◌≡◌, refl, sym, ◌∙◌, ap}
use mathlib.Core.List.{List}
use mathlib.Core.Logic.{⊎_elim}
use native.Mathlib.Omega.{arith}
use lib.ListN.{length, get_or}
use Rattle.ground.proofs.Answers.{never, same_accepted}
use Rattle.ground.specs.Answers.{Answer, Refused, accepts, declines}
use Rattle.ground.proofs.Cases.{lt_or_le}
use Rattle.choices.specs.declared.Reading.{Reading}
use Rattle.choices.specs.declared.Reading.TheVariants.{Plain, Ipv4, Ipv6}
use Rattle.choices.specs.Choices.{last_type}
use Rattle.prefixes.specs.declared.PrefixAt.{PrefixAt}
use Rattle.prefixes.specs.Prefixes.{prefix_at}
use Rattle.prefixes.proofs.Laws.{prefix_next}
use Rattle.lists.specs.declared.Tally.{Tally}
use Rattle.lists.specs.Lists.{tally, list_at, ops_at, recorded_ops}
use Rattle.lists.proofs.Laws.{list_ends, recorded_counts}
use Rattle.walk.specs.Walks.{prefix_found, list_found, typed_at, FoundAt, component_at, seen}
use Rattle.walk.proofs.Ways.{found_missing, found_order, found_type, found_typed, typed_prefix, typed_list}

pub last_most : (r : Reading) → last_type r ≤ 13
last_most Plain = omega arith
last_most Ipv4 = omega arith
last_most Ipv6 = omega arith

-- where a piece ends, and how many operators it has
abbrev Ends : List ℕ → ℕ → FoundAt → Type 0
Ends s at p = (at + length p.operators ≤ p.next) × (p.next ≤ length s)

ends_are : (s : List ℕ) (at n m : ℕ) {p q : FoundAt} → p ≡ q → length p.operators ≡ n → p.next ≡ m → at + n ≤ m → m ≤ length s → Ends s at q
ends_are s at n m {p} {q} e i j h l =
    let a : length q.operators ≡ length p.operators = sym (ap (λ (x : FoundAt). length x.operators) e) in
    let b : q.next ≡ p.next = sym (ap (λ (x : FoundAt). x.next) e) in
    (omega arith, omega arith)

by_prefix : (r : Reading) (t : ℕ) (s : List ℕ) (at : ℕ) {q : FoundAt} (a : Answer PrefixAt) → prefix_at r s at ≡ a → prefix_found t a ≡ accepts q → Ends s at q
by_prefix r t s at (accepts p) i e = let h = prefix_next r s at i in ends_are s at 0 p.next.at (same_accepted e) refl refl (omega arith) h.1
by_prefix r t s at (declines f) i e = never e

by_list : (r : Reading) (t : ℕ) (s : List ℕ) (at start : ℕ) {q : FoundAt} (a : Answer Tally) → list_at r t s at ≡ a
    → list_found t start (recorded_ops r t (ops_at s at)) a ≡ accepts q → Ends s at q
by_list r t s at start (accepts l) i e =
    let h = list_ends r t s at i in
    ends_are s at l.count l.next.at (same_accepted e) (recorded_counts r t s at i) refl (omega arith) h.1.1
by_list r t s at start (declines f) i e = never e

typed_ends : (r : Reading) (t : ℕ) (s : List ℕ) (at start : ℕ) {p : FoundAt} → typed_at r t s at start ≡ accepts p → Ends s at p
typed_ends r t s at start e =
    ⊎_elim
    (λ h. by_list r t s at start (list_at r t s at) refl (sym (typed_list r t s at start h) ∙ e))
    (λ h. by_prefix r t s at (prefix_at r s at) refl (sym (typed_prefix r t s at start h) ∙ e))
    (lt_or_le 2 t)

pub record Here (r : Reading) (s : List ℕ) (at previous start : ℕ) (p : FoundAt) : Type 0 where
  pub within : at < length s
  pub rises : previous < get_or s at 0
  pub known : get_or s at 0 ≤ last_type r
  pub most : get_or s at 0 ≤ 13
  pub typed : typed_at r (get_or s at 0) s (at + 1) start ≡ accepts p
  pub past : at + length p.operators < p.next
  pub inside : p.next ≤ length s

pub here : (r : Reading) (s : List ℕ) (at previous start : ℕ) {p : FoundAt} → component_at r s at previous start ≡ accepts p → Here r s at previous start p
here r s at previous start {p} e =
    ⊎_elim
    (λ h. ⊎_elim
    (λ k. ⊎_elim
    (λ l. never (sym (found_type r s at previous start h k l) ∙ e))
    (λ l.
    let t = sym (found_typed r s at previous start h k l) ∙ e in
    let d = typed_ends r (get_or s at 0) s (at + 1) start t in
    let m = last_most r in
    record { within = h; rises = k; known = l; most = omega arith; typed = t; past = omega arith; inside = d.1 })
    (lt_or_le (last_type r) (get_or s at 0)))
    (λ k. never (sym (found_order r s at previous start h k) ∙ e))
    (lt_or_le previous (get_or s at 0)))
    (λ h. never (sym (found_missing r s at previous start h) ∙ e))
    (lt_or_le at (length s))

-- the piece behind what was seen of it
pub record Sighted (a : Answer FoundAt) (n m : ℕ) : Type 0 where
  pub what : FoundAt
  pub is : a ≡ accepts what
  pub count : length what.operators ≡ n
  pub next : what.next ≡ m

pub sighted : (a : Answer FoundAt) {n m : ℕ} → accepts (tally n m) ≡ seen a → Sighted a n m
sighted (accepts p) {n} {m} e =
    let z : tally n m ≡ tally (length p.operators) p.next = cc in
    record { what = p; is = refl; count = sym (ap (λ (x : Tally). x.count) z); next = sym (ap (λ (x : Tally). x.next.at) z) }
sighted (declines f) e = never (sym e)

pub unseen : (a : Answer FoundAt) {f : Refused} → declines f ≡ seen a → a ≡ declines f
unseen (accepts p) e = never e
unseen (declines f) e = cc
