-- `measuring::weigh_ipv6` meets its contract: the prefix that is taken, by the writing.
use mathlib.Core.Path.{sym, ap, ◌∙◌}
use native.Mathlib.Omega.{arith}
use borrow.Author.Tests.{le-leb}
use lib.ListN.{length}
use Rattle.choices.specs.declared.Reading.{Reading}
use Rattle.rules.specs.declared.NetworkPrefix.TheVariants.{Ipv6Offset}
use Rattle.prefixes.specs.Forms.{valid_ipv6}
use Rattle.prefixwriting.proofs.Puts.{length_plain, length_standard}
use Rattle.measuring.specs.Bodies.{prefix_octets}
use Rattle.measuring.specs.Grounds.{prefix_taken}
use Rattle.measuring.proofs.Tests.{told_true}
use Rattle.measuring.proofs.Weights.{prefix_fits}
use Rattle.measuring.proofs.weigh_ipv6.Goals as goal

pub returns-in-Plain : goal.returns-in-Plain
returns-in-Plain c =
    let a = c.args in
    let p = Ipv6Offset a.len a.off a.high a.low in
    let n = ap (λ (w : Reading). length (prefix_octets w p)) c.in-Plain.is ∙ length_plain p in
    prefix_fits a.writing a.previous a.tag p
    (ap (λ (w : Reading). prefix_taken w p) c.in-Plain.is ∙ le-leb a.len 128 c.if-len-le128.true)
    (told_true c.rises.ensures c.if-not-rises.false)
    (omega (arith, n, c.octets_of.ensures))

pub returns-in-Ipv6 : goal.returns-in-Ipv6
returns-in-Ipv6 c =
    let a = c.args in
    let p = Ipv6Offset a.len a.off a.high a.low in
    let n = ap (λ (w : Reading). length (prefix_octets w p)) c.in-Ipv6.is ∙ length_standard p in
    prefix_fits a.writing a.previous a.tag p
    (ap (λ (w : Reading). prefix_taken w p) c.in-Ipv6.is ∙ ap (valid_ipv6 a.len a.off) (sym c.joined.ensures) ∙ sym c.valid_ipv6.ensures ∙ c.if-valid_ipv6.true)
    (told_true c.rises.ensures c.if-not-rises.false)
    (omega (arith, n, c.octets_of-in-Ipv6.ensures))
