-- The pieces of stored words: each has the type of a prefix or of a list, and no word of an address is more than a word.
use Prim.Native.Nat.{ℕ, zero, suc, ◌+◌, ◌/◌, ◌%◌, ◌^◌, ◌<◌}
use mathlib.Core.Path.{◌≡◌, sym, subst}
use mathlib.Core.Bool.{Bool, true, false}
use mathlib.Core.List.{List}
use native.Mathlib.Omega.{arith}
use borrow.Author.Tests.{ltb-true, ltb-false}
use lib.Dec.{eqb, ltb}
use Rattle.ground.proofs.Cases.{by_test}
use Rattle.ground.specs.Answers.{accepts}
use Rattle.ground.specs.Picks.{pick}
use Rattle.stored.specs.declared.Quad.{Quad}
use Rattle.stored.specs.Pieces.{network_of, named, is_piece, piece_of, quad_at, piece_at}
use Rattle.stored.specs.Stored.{StoredRule, pieces_from, rule_at, count_at}
use Rattle.stored.proofs.Inverse.{accepted}
use Rattle.prefixwriting.proofs.Inverse.{LowWord}
use Rattle.roundtrips.specs.Trips.{Words}
use Rattle.roundtrips.proofs.WrittenComponents.{Sound}
use Rattle.roundtrips.proofs.WrittenBodies.{AllSound}

-- whichever is picked
pub either : {A : Type 0} (P : A → Type 0) (t : Bool) {x y : A} → P x → P y → P (pick t x y)
either P true p q = p
either P false p q = q

low_network : (form a b c : ℕ) → c < 2 ^ 64 → LowWord (network_of form a b c)
low_network form a b c h = either LowWord (eqb form 0) tt (either LowWord (eqb form 1) h (either LowWord (eqb form 2) tt h))

sound_named : (q : Quad) → q.c < 2 ^ 64 → Sound (named q)
unfolding named
sound_named q h =
    by_test (ltb (q.mark % 16) 3)
    (λ t. let l = ltb-true (q.mark % 16) 3 t in rw t (omega arith, low_network (q.mark / 16) q.a q.b q.c h))
    (λ t. let l = ltb-false (q.mark % 16) 3 t in rw t (omega arith))

sound_piece : (q : Quad) → q.c < 2 ^ 64 → Sound (piece_of q)
unfolding piece_of
sound_piece q h = either Sound (is_piece q) (sound_named q h) tt

sound_pieces : (n : ℕ) (ws : List ℕ) (at : ℕ) → Words ws → AllSound (pieces_from n ws at)
unfolding pieces_from piece_at
sound_pieces zero ws at h = tt
sound_pieces (suc n) ws at h = (sound_piece (quad_at ws at) (h (at + 3)), sound_pieces n ws (at + 4) h)

pub sound_stored : (words : List ℕ) (s : StoredRule) → Words words → rule_at words 0 ≡ accepts s → AllSound s.pieces
sound_stored words s h e =
    let a = accepted words 0 s e in
    subst (λ (x : StoredRule). AllSound x.pieces) (sym a.2) (sound_pieces (count_at words 0) words 0 h)
