-- `prefixwriting::put_bits` meets its contract: the bits are moved to the front of octets, and a cut at 128 does not show.
use Prim.Native.Nat.{ℕ, ◌-◌, ◌*◌, ◌/◌, ◌%◌, ◌^◌}
use mathlib.Core.Path.{ap, ◌∙◌}
use native.Mathlib.Omega.{arith}
use lib.Seq.{sets}
use Rattle.octets.specs.Spell.{spelled}
use Rattle.prefixes.specs.Prefixes.{octets_of}
use Rattle.prefixwriting.proofs.Puts.{spelled_128}
use Rattle.prefixwriting.proofs.put_bits.Goals as goal

pub returns : goal.returns
returns c =
    let a = c.args in
    let k = c.octets_of-k in
    let n = a.w / 2 ^ (128 - a.len) in
    c.write_pattern.ensures
    ∙ ap (sets a.out.now a.at)
    (ap (spelled k.result) c.moved-v.ensures
    ∙ ap (λ (j : ℕ). spelled j (n * 2 ^ (8 * j - (a.len - a.off)) % 2 ^ 128)) k.ensures
    ∙ spelled_128 (octets_of (a.len - a.off)) (n * 2 ^ (8 * octets_of (a.len - a.off) - (a.len - a.off))) (omega arith))
