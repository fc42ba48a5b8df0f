-- `listing::list` meets its contract: `Answers.antt` has what it holds once the input is read, and what it answers.
use mathlib.Core.Path.{◌≡◌, ap, ◌∙◌}
use native.Mathlib.Omega.{arith}
use lib.ListN.{length}
use lib.Seq.{sets}
use Rattle.refusals.specs.Refusals.{refusal}
use Rattle.listing.specs.Listings.{listing_of}
use Rattle.listing.proofs.Answers.{given, too_short, enough}
use Rattle.listing.proofs.list.Goals as goal
use borrow.Author.Rules.{rules}

pub invariant_of-rule : goal.invariant_of-rule
invariant_of-rule c =
    let e = c.read_listed-read.ensures in
    record { listable = (given c.args.input.now (λ i. omega (arith, c.type_inv.input i)) c.read_listed-read.result e.answer e.words e.values e.octets).listable }

pub answer-requires : goal.answer-requires
answer-requires c =
    let e = c.read_listed-read.ensures in
    let g = given c.args.input.now (λ i. omega (arith, c.type_inv.input i)) c.read_listed-read.result e.answer e.words e.values e.octets in
    record { fits = omega (arith, g.placeable) }

pub returns-then-out-needed : goal.returns-then-out-needed
returns-then-out-needed c =
    let e = c.read_listed-read.ensures in
    let g = given c.args.input.now (λ i. omega (arith, c.type_inv.input i)) c.read_listed-read.result e.answer e.words e.values e.octets in
    let n : c.answer.new.self.at ≡ length (listing_of c.args.input.now) = omega (arith, c.answer.ensures.place, ap length g.lines) in
    let x = too_short c.args.input.now c.args.out.now n c.if-out-needed.true in
    record { answer = ap refusal c.into.ensures ∙ x.0; out = x.1; most = g.most }

pub returns : goal.returns
returns c =
    let e = c.read_listed-read.ensures in
    let g = given c.args.input.now (λ i. omega (arith, c.type_inv.input i)) c.read_listed-read.result e.answer e.words e.values e.octets in
    let n : c.answer.new.self.at ≡ length (listing_of c.args.input.now) = omega (arith, c.answer.ensures.place, ap length g.lines) in
    let x = enough c.args.input.now c.args.out.now n c.if-out-needed.false (c.answer-2.ensures.stored ∙ ap (sets c.args.out.now 0) g.lines) in
    record { answer = x.0; out = search rules; most = g.most }
