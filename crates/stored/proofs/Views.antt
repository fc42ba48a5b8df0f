-- What the words of a component show at a glance.
use Prim.Native.Nat.{ℕ, ◌+◌, ◌-◌, ◌*◌, ◌/◌, ◌%◌, ◌≤◌, ◌<◌}
use mathlib.Core.Path.{◌≡◌, refl, sym, ap, subst}
use mathlib.Core.Bool.{Bool, true, false}
use mathlib.Core.Logic.{⊎_elim}
use native.Mathlib.Omega.{arith}
use borrow.Author.Tests.{eq-eqb, ne_eqb, lt-ltb}
use Rattle.ground.proofs.Cases.{lt_or_le}
use Rattle.ground.specs.Picks.{pick}
use Rattle.rules.specs.declared.NetworkPrefix.TheVariants.{Ipv6Offset}
use Rattle.stored.specs.declared.Quad.{Quad}
use Rattle.stored.specs.declared.Piece.{Piece}
use Rattle.stored.specs.declared.Piece.TheVariants.{Prefix, Operators, NoRecord}
use Rattle.stored.specs.Pieces.{named, is_piece, piece_of}
use Rattle.stored.specs.Views.{NoList}
use Rattle.stored.proofs.Words.{piece_prefix, piece_far, piece_list}

either : (b : Bool) (p : Piece) → NoList p → NoList (pick b p NoRecord)
either true p n = n
either false p n = tt

module _ (q : Quad) where
  near : q.mark % 16 < 3 → NoList (piece_of q)
  unfolding piece_of named
  near h = either (is_piece q) (named q) (rw (lt-ltb (q.mark % 16) 3 h) tt)

  pub near_no_list : q.mark < 3 → NoList (piece_of q)
  near_no_list h = near (omega arith)

  pub far_no_list : 14 ≤ q.mark → NoList (piece_of q)
  far_no_list h = ⊎_elim near (λ l. subst NoList (piece_far q (q.mark % 16) refl l h) tt) (lt_or_le (q.mark % 16) 3)

  -- a list's last word is 0
  module _ (l : 3 ≤ q.mark) (h : q.mark < 14) where
    pub list_words : q.c ≡ 0 → piece_of q ≡ Operators q.mark q.a q.b
    list_words z = sym (piece_list q q.mark (omega arith) l true h (eq-eqb 0 q.c (sym z)))

    pub no_list_words : (q.c ≡ 0 → ⊥) → NoList (piece_of q)
    no_list_words z = subst NoList (piece_list q q.mark (omega arith) l false h (ne_eqb 0 q.c (λ e. z (sym e)))) tt

  -- the words of an IPv6 prefix with an offset
  pub ipv6_words : 48 < q.mark → q.mark < 51 → q.a ≤ 65535 → piece_of q ≡ Prefix (q.mark - 48) (Ipv6Offset (q.a % 256) (q.a / 256) q.b q.c)
  ipv6_words l h m =
      let f : q.mark / 16 ≡ 3 = omega arith in
      let o : q.a / 256 ≡ q.a / 256 % 256 = omega arith in
      let t : q.mark - 48 + 48 ≡ q.mark = omega arith in
      let s : q.a % 256 + 256 * (q.a / 256) ≡ q.a = omega arith in
      sym (piece_prefix q true (q.mark - 48) (omega arith) (omega arith) (omega arith) (Ipv6Offset (q.a % 256) (q.a / 256) q.b q.c)
      (rw f (ap (λ (x : ℕ). Ipv6Offset (q.a % 256) x q.b q.c) o))
      (rw (eq-eqb (q.mark - 48 + 48) q.mark t, eq-eqb (q.a % 256 + 256 * (q.a / 256)) q.a s, eq-eqb q.b q.b refl, eq-eqb q.c q.c refl)))
