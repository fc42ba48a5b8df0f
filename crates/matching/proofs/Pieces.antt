-- A list of operators that both lent lists hold, as a component.
use Prim.Native.Nat.{ℕ, ◌+◌, ◌≤◌}
use mathlib.Core.Path.{◌≡◌, sym}
use mathlib.Core.List.{List}
use lib.ListN.{length}
use borrow.Author.Tests.{le-leb}
use Rattle.operators.specs.Ops.{Op, ops_in}
use Rattle.stored.specs.declared.Piece.TheVariants.{Operators}
use Rattle.packets.specs.Packets.{Packet}
use Rattle.packets.specs.Shown.{numbers_of}
use Rattle.matching.specs.Rules.{test_of, some_matches, piece_matches}

pub by_list : (values octets : List ℕ) (first type start count : ℕ) (p : Packet) → first + start + count ≤ length values → first + start + count ≤ length octets
    → (ops : List Op) → ops ≡ ops_in values octets (first + start) count
    → some_matches (test_of p.family type) ops (numbers_of p type) ≡ piece_matches values octets first p (Operators type start count)
unfolding piece_matches
by_list values octets first type start count p h k ops e =
    sym (rw (e, le-leb (first + start + count) (length values) h, le-leb (first + start + count) (length octets) k))
