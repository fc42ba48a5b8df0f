-- TCP flags in range, for crates that do not look into `packet_ok`: those of a packet that is, and those that a header's octets make.
use Prim.Native.Nat.{ℕ, ◌≤◌, ◌<◌}
use mathlib.Core.Path.{◌≡◌, sym, ◌∙◌}
use mathlib.Core.Bool.{true, false, and-false, false≢true}
use native.Mathlib.Omega.{arith}
use lib.Dec.{leb}
use borrow.Author.Tests.{leb-true}
use Rattle.ground.proofs.Cases.{by_test}
use Rattle.packets.specs.Packets.{Packet, present, most_flags, header_flags, packet_ok}

too_many : (p : Packet) (n : ℕ) → p.flags ≡ present n → leb n most_flags ≡ false → packet_ok p ≡ false
unfolding packet_ok
too_many p n e f = rw (e, f, and-false)

pub flags_fit : (p : Packet) (n : ℕ) → packet_ok p ≡ true → p.flags ≡ present n → n ≤ most_flags
flags_fit p n ok e = by_test (leb n most_flags) (leb-true n most_flags) (λ f. absurd (false≢true (sym (too_many p n e f) ∙ ok)))

pub header_fits : (a b : ℕ) → b < 256 → header_flags a b ≤ most_flags
header_fits a b h = omega arith
