-- `reading::store` meets its contract: the part and its length are those that the first pass walked (`Walked.antt`).
use Prim.Native.Nat.{ℕ}
use mathlib.Core.Path.{refl, sym, ap, ◌∙◌}
use native.Mathlib.Omega.{arith}
use lib.ListN.{length}
use Rattle.choices.specs.Choices.{expects}
use Rattle.reading.specs.Readings.{ReadRule, front_at}
use Rattle.reading.proofs.Stated.{told_not, front_none}
use Rattle.reading.proofs.Walked.{tested_read, words_tested}
use Rattle.reading.proofs.store.Goals as goal

pub bounds-input-0 : goal.bounds-input-0
bounds-input-0 c = let a = c.args in (tested_read a.reading (expects a.mode) a.input.now refl refl refl c.requires.accepted.0 c.requires.accepted.1).some

pub slice_bounds-put_all-count : goal.slice_bounds-put_all-count
slice_bounds-put_all-count c = let a = c.args in (tested_read a.reading (expects a.mode) a.input.now c.length_width-at.ensures c.front.ensures c.bound-end.ensures c.requires.accepted.0 c.requires.accepted.1).within.0

pub slice_bounds-put_all-start : goal.slice_bounds-put_all-start
slice_bounds-put_all-start c = let a = c.args in (tested_read a.reading (expects a.mode) a.input.now c.length_width-at.ensures c.front.ensures c.bound-end.ensures c.requires.accepted.0 c.requires.accepted.1).within.0

pub slice_bounds-put_all-end : goal.slice_bounds-put_all-end
slice_bounds-put_all-end c = let a = c.args in (tested_read a.reading (expects a.mode) a.input.now c.length_width-at.ensures c.front.ensures c.bound-end.ensures c.requires.accepted.0 c.requires.accepted.1).within.1

pub overflow_sub-used : goal.overflow_sub-used
overflow_sub-used c = let a = c.args in (tested_read a.reading (expects a.mode) a.input.now c.length_width-at.ensures c.front.ensures c.bound-end.ensures c.requires.accepted.0 c.requires.accepted.1).start

pub put_all-requires : goal.put_all-requires
put_all-requires c =
    let a = c.args in
    let t = tested_read a.reading (expects a.mode) a.input.now c.length_width-at.ensures c.front.ensures c.bound-end.ensures c.requires.accepted.0 c.requires.accepted.1 in
    let n = ap (λ (x : ReadRule). length x.operators) t.is in
    record {
      stop_value = t.walked;
      in_bounds = c.requires.room.0;
      places = record { in_values = omega (arith, n, c.requires.room.1.in_values); in_octets = omega (arith, n, c.requires.room.1.in_octets) };
    }

pub distinguisher_in-requires : goal.distinguisher_in-requires
distinguisher_in-requires c = let a = c.args in rw (← c.front.ensures) (tested_read a.reading (expects a.mode) a.input.now c.length_width-at.ensures c.front.ensures c.bound-end.ensures c.requires.accepted.0 c.requires.accepted.1).fits

pub returns-then-mode-eq2 : goal.returns-then-mode-eq2
returns-then-mode-eq2 c =
    let a = c.args in
    let p = c.put_all.ensures in
    let t = tested_read a.reading (expects a.mode) a.input.now c.length_width-at.ensures c.front.ensures c.bound-end.ensures c.requires.accepted.0 c.requires.accepted.1 in
    let d = c.distinguisher_in.ensures ∙ ap (λ (n : ℕ). front_at n a.input.now c.length_width-at.result) (sym c.front.ensures) in
    record {
      words = c.put_distinguisher.ensures ∙ words_tested _ _ _ _ _ _ _ t a.words.now a.first p.words p.few d;
      values = rw t.is p.values;
      octets = rw t.is p.octets;
    }

pub returns-else-mode-eq2 : goal.returns-else-mode-eq2
returns-else-mode-eq2 c =
    let a = c.args in
    let p = c.put_all.ensures in
    let t = tested_read a.reading (expects a.mode) a.input.now c.length_width-at.ensures c.front.ensures c.bound-end.ensures c.requires.accepted.0 c.requires.accepted.1 in
    record {
      words = words_tested _ _ _ _ _ _ _ t a.words.now a.first p.words p.few (front_none _ _ _ (c.front.ensures ∙ told_not a.reading c.if-mode-eq2.false));
      values = rw t.is p.values;
      octets = rw t.is p.octets;
    }
