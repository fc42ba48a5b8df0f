-- `measuring::weigh_ipv4` meets its contract: the prefix that is taken, by the writing.
use mathlib.Core.Path.{ap, ◌∙◌}
use native.Mathlib.Omega.{arith}
use borrow.Author.Tests.{eq-eqb, le-leb}
use lib.ListN.{length}
use Rattle.choices.specs.declared.Reading.{Reading}
use Rattle.rules.specs.declared.NetworkPrefix.TheVariants.{Ipv4 as V4}
use Rattle.prefixwriting.proofs.Puts.{length_plain, length_standard}
use Rattle.measuring.specs.Bodies.{prefix_octets}
use Rattle.measuring.specs.Grounds.{prefix_taken}
use Rattle.measuring.proofs.Tests.{told_true}
use Rattle.measuring.proofs.Weights.{prefix_fits, kept_ipv4}
use Rattle.measuring.proofs.weigh_ipv4.Goals as goal

pub returns-in-Plain : goal.returns-in-Plain
returns-in-Plain c =
    let a = c.args in
    let p = V4 a.len a.address in
    let n = ap (λ (w : Reading). length (prefix_octets w p)) c.in-Plain.is ∙ length_plain p in
    prefix_fits a.writing a.previous a.tag p
    (ap (λ (w : Reading). prefix_taken w p) c.in-Plain.is ∙ le-leb a.len 32 (omega arith))
    (told_true c.rises.ensures c.if-not-rises.false)
    (omega (arith, n, c.octets_of.ensures))

pub returns-in-Ipv4 : goal.returns-in-Ipv4
returns-in-Ipv4 c =
    let a = c.args in
    let p = V4 a.len a.address in
    let n = ap (λ (w : Reading). length (prefix_octets w p)) c.in-Ipv4.is ∙ length_standard p in
    prefix_fits a.writing a.previous a.tag p
    (ap (λ (w : Reading). prefix_taken w p) c.in-Ipv4.is
    ∙ kept_ipv4 a.len a.address c.keep_ipv4.result (omega arith) c.ranges.address.fits c.keep_ipv4.ensures
    ∙ eq-eqb c.keep_ipv4.result a.address c.if-keep_ipv4-address.true)
    (told_true c.rises.ensures c.if-not-rises.false)
    (omega (arith, n, c.octets_of-in-Ipv4.ensures))
