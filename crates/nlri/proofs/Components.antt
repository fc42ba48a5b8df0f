-- A component and the piece that it is: each is made of the other. Of a component that is taken apart that is so by its fourteen cases, of a piece that
-- words name by the range of its type.
use Prim.Native.Nat.{ℕ, zero, suc, ◌+◌, ◌%◌, ◌≤◌}
use mathlib.Core.Path.{◌≡◌, refl, sym, ap, ap₂, ◌∙◌}
use mathlib.Core.Bool.{true, false, false≢true}
use mathlib.Core.List.{List, [], ◌∷◌, map}
use mathlib.Core.Logic.{⊎_elim}
use native.Mathlib.Omega.{arith}
use borrow.Author.Tests.{lt-ltb, le-ltb, ltb-true, leb-true}
use lib.Dec.{eqb, leb, ltb}
use Rattle.ground.proofs.Cases.{by_test, both, lt_or_le}
use Rattle.rules.specs.declared.NetworkPrefix.{NetworkPrefix}
use Rattle.rules.specs.declared.Span.{Span}
use Rattle.rules.specs.declared.FlowSpecComponent.{FlowSpecComponent}
use Rattle.rules.specs.declared.FlowSpecComponent.TheVariants.{Nothing, DestinationPrefix, SourcePrefix, IpProtocol, Port, DestinationPort, SourcePort, IcmpType, IcmpCode, TcpFlags, PacketLength, Dscp, Fragment, FlowLabel}
use Rattle.rules.specs.Components.{prefix_of, list_of, counts_as}
use Rattle.rules.proofs.Types.{each_list}
use Rattle.stored.specs.declared.Quad.{Quad}
use Rattle.stored.specs.declared.Piece.{Piece}
use Rattle.stored.specs.declared.Piece.TheVariants.{Prefix, Operators, NoRecord}
use Rattle.stored.specs.Pieces.{is_record, named, is_piece, piece_of, piece_at}
use Rattle.stored.specs.Stored.{pieces_from}
use Rattle.nlri.specs.Nlri.{listed, apart, joined}

-- ---- a component, from the piece that it is

pub joined_apart : (c : FlowSpecComponent) → joined (apart c) ≡ c
unfolding list_of
joined_apart Nothing = refl
joined_apart (DestinationPrefix p) = refl
joined_apart (SourcePrefix p) = refl
joined_apart (IpProtocol s) = refl
joined_apart (Port s) = refl
joined_apart (DestinationPort s) = refl
joined_apart (SourcePort s) = refl
joined_apart (IcmpType s) = refl
joined_apart (IcmpCode s) = refl
joined_apart (TcpFlags s) = refl
joined_apart (PacketLength s) = refl
joined_apart (Dscp s) = refl
joined_apart (Fragment s) = refl
joined_apart (FlowLabel s) = refl

-- all but an unused place is a piece
no_piece : (p : Piece) → is_record p ≡ false → p ≡ NoRecord
no_piece (Prefix t p) e = absurd (false≢true (sym e))
no_piece (Operators t start count) e = absurd (false≢true (sym e))
no_piece NoRecord e = refl

pub is_piece_lem : (c : FlowSpecComponent) → eqb (counts_as c) 1 ≡ false → is_record (apart c) ≡ true
is_piece_lem c e =
    by_test (is_record (apart c)) (λ r. r)
    (λ r. let n : c ≡ Nothing = sym (joined_apart c) ∙ ap joined (no_piece (apart c) r) in
    absurd (false≢true (sym e ∙ ap (λ x. eqb (counts_as x) 1) n)))

-- ---- a piece that words name, from the component

apart_prefix : (t : ℕ) (p : NetworkPrefix) → 1 ≤ t → t ≤ 2 → apart (prefix_of t p) ≡ Prefix t p
apart_prefix zero p l h = absurd (omega arith)
apart_prefix (suc zero) p l h = refl
apart_prefix (suc (suc zero)) p l h = refl
apart_prefix (suc (suc (suc t))) p l h = absurd (omega arith)

apart_list : (s : Span) (t : ℕ) → 3 ≤ t → t ≤ 13 → apart (list_of t s) ≡ listed t s
unfolding list_of
apart_list s = each_list (λ (t : ℕ). apart (list_of t s) ≡ listed t s) refl refl refl refl refl refl refl refl refl refl refl

apart_named : (q : Quad) → 1 ≤ q.mark % 16 → q.mark % 16 ≤ 13 → apart (joined (named q)) ≡ named q
unfolding named
apart_named q l h =
    ⊎_elim
    (λ s. rw (lt-ltb (q.mark % 16) 3 s) (apart_prefix (q.mark % 16) _ l (omega arith)))
    (λ s. rw (le-ltb (q.mark % 16) 3 s) (apart_list _ (q.mark % 16) s h))
    (lt_or_le (q.mark % 16) 3)

pub apart_joined : (q : Quad) → apart (joined (piece_of q)) ≡ piece_of q
unfolding piece_of is_piece
apart_joined q =
    by_test (is_piece q)
    (λ e. let a = both (ltb 0 (q.mark % 16)) _ e in
    let b = both (leb (q.mark % 16) 13) _ a.1 in
    let l = ltb-true 0 (q.mark % 16) a.0 in
    rw e (apart_named q (omega arith) (leb-true (q.mark % 16) 13 b.0)))
    (λ e. rw e)

pub pieces_again : (k : ℕ) (ws : List ℕ) (at : ℕ) → map apart (map joined (pieces_from k ws at)) ≡ pieces_from k ws at
unfolding pieces_from piece_at
pieces_again zero ws at = refl
pieces_again (suc k) ws at = ap₂ (λ (p : Piece) (ps : List Piece). p ∷ ps) (apart_joined _) (pieces_again k ws (at + 4))

pub components_again : (cs : List FlowSpecComponent) → map joined (map apart cs) ≡ cs
components_again [] = refl
components_again (c ∷ cs) = ap₂ (λ (x : FlowSpecComponent) (l : List FlowSpecComponent). x ∷ l) (joined_apart c) (components_again cs)
