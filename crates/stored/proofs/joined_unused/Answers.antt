-- `stored::joined_unused` meets its contract, at each count.
use native.Mathlib.Omega.{arith}
use mathlib.Core.Path.{refl}
use Rattle.stored.proofs.Scans.{unused_joined}
use Rattle.stored.proofs.joined_unused.Goals as goal

pub returns-in-1 : goal.returns-in-1
returns-in-1 c = unused_joined _ c.args.base c.args.count _ _ (omega (arith, c.in-1.is)) c.requires.0 c.requires.1 c.joined.ensures

pub returns-in-2 : goal.returns-in-2
returns-in-2 c = unused_joined _ c.args.base c.args.count _ _ (omega (arith, c.in-2.is)) c.requires.0 c.requires.1 c.joined-in-2.ensures

pub returns-in-3 : goal.returns-in-3
returns-in-3 c = unused_joined _ c.args.base c.args.count _ _ (omega (arith, c.in-3.is)) c.requires.0 c.requires.1 c.joined-in-3.ensures

pub returns-in-4 : goal.returns-in-4
returns-in-4 c = unused_joined _ c.args.base c.args.count _ _ (omega (arith, c.in-4.is)) c.requires.0 c.requires.1 c.joined-in-4.ensures

pub returns-in-5 : goal.returns-in-5
returns-in-5 c = unused_joined _ c.args.base c.args.count _ _ (omega (arith, c.in-5.is)) c.requires.0 c.requires.1 c.joined-in-5.ensures

pub returns-in_default : goal.returns-in_default
returns-in_default c = unused_joined _ c.args.base c.args.count _ _ refl c.requires.0 c.requires.1 c.joined-in_default.ensures
