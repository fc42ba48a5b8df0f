-- `Page::rule` meets its contract: its lines in turn.
use Prim.Native.Nat.{ℕ}
use mathlib.Core.Path.{◌≡◌, sym, ap, ◌∙◌}
use mathlib.Core.List.{List}
use native.Mathlib.Omega.{arith}
use lib.ListN.{length, length-append}
use Rattle.stored.specs.Stored.{count_at, stored_at}
use Rattle.stored.proofs.Words.{length_pieces}
use Rattle.listing.specs.Listings.{components_line, rule_lines}
use Rattle.listing.proofs.TextsInTurn.{put_same, joins}
use Rattle.listing.proofs.Page.rule.Goals as goal

count_line : (ws : List ℕ) {n : ℕ} → n ≡ count_at ws 0 → components_line n ≡ components_line (length (stored_at ws 0).pieces)
count_line ws e = ap components_line (e ∙ sym (length_pieces (count_at ws 0) ws 0))

pub number_line-requires-3 : goal.number_line-requires-3
unfolding rule_lines
number_line-requires-3 c = record { fits = omega (arith, simp length-append at c.requires.fits, ap length (count_line c.args.rule.words.now c.count_at.ensures)) }

pub components-requires : goal.components-requires
unfolding rule_lines
components-requires c = record { fits = omega (arith, simp length-append at c.requires.fits, ap length (count_line c.args.rule.words.now c.count_at.ensures)) }

pub returns : goal.returns
unfolding rule_lines
returns c =
    joins _ _ (joins _ _ (joins _ _ (joins _ _ c.text.ensures c.number_line.ensures) c.number_line-2.ensures) (put_same (count_line c.args.rule.words.now c.count_at.ensures) c.number_line-3.ensures)) c.components.ensures
