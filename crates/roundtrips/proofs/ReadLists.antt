-- What a standard reading records of a list that it accepted, the standard writing takes, and writes in as many octets as were read.
use Prim.Native.Nat.{ℕ, ◌+◌, ◌/◌, ◌%◌, ◌<◌}
use mathlib.Core.Path.{◌≡◌, sym, ◌∙◌, ap, ap₂, subst}
use mathlib.Core.Bool.{Bool, true, not, ◌&&◌, false≢true}
use mathlib.Core.List.{List, [], ◌∷◌, map}
use native.Mathlib.Omega.{arith}
use borrow.Author.Tests.{lt-ltb, le-leb, lt-leb, leb-false}
use lib.Dec.{ltb}
use lib.ListN.{length, get_or}
use Rattle.ground.specs.Answers.{accepts}
use Rattle.octets.specs.Widths.{code_in, width_of}
use Rattle.choices.specs.declared.Reading.{Reading}
use Rattle.choices.specs.declared.Reading.TheVariants.{Plain, Ipv4, Ipv6}
use Rattle.choices.specs.Choices.{codes_by, codes_in, first_in}
use Rattle.operators.specs.declared.Kind.{Kind}
use Rattle.operators.specs.Ops.{kind_of, cleared_in, Op, list_octets}
use Rattle.lists.specs.declared.Tally.{Tally}
use Rattle.lists.specs.Lists.{operator_at, list_at, ops_at, cleared_op, first_op, recorded_ops}
use Rattle.lists.proofs.Laws.{taken, Chain, last, more, list_chain, recorded_first}
use Rattle.listwriting.specs.Lists.{fits_in, ends, takes, narrow}
use Rattle.listwriting.proofs.Laws.{ends_none, ends_last, ends_more, takes_by, narrow_none, narrow_first}
use Rattle.prefixes.proofs.Accepted.{Octets, value_lt}
use Rattle.measuring.proofs.Laws.{Standard, standard_codes}
use Rattle.roundtrips.proofs.Operators.{octets_none, octets_more}
use Rattle.roundtrips.proofs.Clearing.{recorded_ends, recorded_octets, recorded_narrow}

-- the value of an operator that is taken has as many octets as its octet says
op_fits : (r : Reading) (t : ℕ) (s : List ℕ) (at : ℕ) {o : Op} → Octets s → operator_at r t s at ≡ accepts o → fits_in o.octet o.value ≡ true
op_fits r t s at h e =
    let w = taken r t s at e in
    subst (λ (o : Op). fits_in o.octet o.value ≡ true) (sym w.is)
    (lt-ltb _ _ (value_lt s (at + 1) (width_of (get_or s at 0)) h (omega (arith, w.within))))

-- one operator more before a list that ends: it has no end mark
more_ends : (o : Op) (os : List Op) → fits_in o.octet o.value ≡ true → o.octet < 128 → ends os ≡ true → ends (o ∷ os) ≡ true
more_ends o [] f b d = absurd (false≢true (sym ends_none ∙ d))
more_ends o (p ∷ os) f b d = ends_more o p os ∙ ap₂ (λ (x y : Bool). x && y) f (ap₂ (λ (x y : Bool). not x && y) (lt-leb _ _ b) d)

-- each value fits, and the last alone has the end mark
chain_ends : {r : Reading} {t : ℕ} {s : List ℕ} {at to : ℕ} {os : List Op} → Octets s → Chain r t s at os to → ends os ≡ true
chain_ends {r} {t} {s} h (last {at = at} {o = o} e b) = ends_last o ∙ ap₂ (λ (x y : Bool). x && y) (op_fits r t s at h e) (le-leb _ _ b)
chain_ends {r} {t} {s} h (more {at = at} {o = o} {os = os} e b c) = more_ends o os (op_fits r t s at h e) b (chain_ends h c)

-- and each width is one that the type takes
op_narrow : (r : Reading) (t : ℕ) (s : List ℕ) (at : ℕ) {o : Op} → operator_at r t s at ≡ accepts o → ltb (code_in o.octet) (codes_in r t) ≡ true
op_narrow r t s at e =
    let w = taken r t s at e in
    subst (λ (o : Op). ltb (code_in o.octet) (codes_in r t) ≡ true) (sym w.is)
    (lt-ltb _ _ (leb-false (codes_in r t) (code_in (get_or s at 0)) w.narrow))

chain_narrow : {r : Reading} {t : ℕ} {s : List ℕ} {at to : ℕ} {os : List Op} → Chain r t s at os to → narrow (codes_in r t) os ≡ true
chain_narrow {r} {t} {s} (last {at = at} {o = o} e b) =
    narrow_first (codes_in r t) o [] ∙ ap₂ (λ (x y : Bool). x && y) (op_narrow r t s at e) (narrow_none (codes_in r t))
chain_narrow {r} {t} {s} (more {at = at} {o = o} {os = os} e b c) =
    narrow_first (codes_in r t) o os ∙ ap₂ (λ (x y : Bool). x && y) (op_narrow r t s at e) (chain_narrow c)

-- it is written in as many octets as it has
chain_long : {r : Reading} {t : ℕ} {s : List ℕ} {at to : ℕ} {os : List Op} (k : Kind) → Chain r t s at os to → at + length (list_octets k os) ≡ to
chain_long k (last {o = o} e b) = let z : length (list_octets k []) ≡ 0 = ap length (octets_none k) in omega (arith, octets_more k o [])
chain_long k (more {o = o} {os = os} e b c) = omega (arith, octets_more k o os, chain_long k c)

-- a first octet has no AND in the standard readings
first_none : (r : Reading) → Standard r → (x : ℕ) → first_in r x % 128 / 64 ≡ 0
first_none Plain h x = absurd h
first_none Ipv4 h x = omega arith
first_none Ipv6 h x = omega arith

recorded_takes : (r : Reading) → Standard r → (t : ℕ) (os : List Op) → ends os ≡ true → takes (recorded_ops r t os) ≡ true
recorded_takes r h t [] d = absurd (false≢true (sym ends_none ∙ d))
recorded_takes r h t (o ∷ os) d =
    let k = kind_of t in
    let n = first_none r h (cleared_in k o.octet) in
    ap takes (recorded_first r t o os) ∙ takes_by (first_op r (cleared_op k o)) (map (cleared_op k) os) (λ z. omega (arith, n, z)) ∙ recorded_ends r k o os ∙ d

module _ (r : Reading) (t : ℕ) (s : List ℕ) (at : ℕ) {l : Tally} (e : list_at r t s at ≡ accepts l) where
  pub recorded_taken : Standard r → Octets s → takes (recorded_ops r t (ops_at s at)) ≡ true
  recorded_taken st o = recorded_takes r st t (ops_at s at) (chain_ends o (list_chain r t s at e))

  pub recorded_narrows : Standard r → narrow (codes_by t) (recorded_ops r t (ops_at s at)) ≡ true
  recorded_narrows st =
      ap (λ (c : ℕ). narrow c (recorded_ops r t (ops_at s at))) (sym (standard_codes r st t))
      ∙ recorded_narrow (codes_in r t) r t (ops_at s at) ∙ chain_narrow (list_chain r t s at e)

  pub recorded_long : at + length (list_octets (kind_of t) (recorded_ops r t (ops_at s at))) ≡ l.next.at
  recorded_long = ap (λ (n : ℕ). at + n) (recorded_octets r t (ops_at s at)) ∙ chain_long (kind_of t) (list_chain r t s at e)
