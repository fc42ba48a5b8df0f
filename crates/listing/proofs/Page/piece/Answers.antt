-- `Page::piece` meets its contract: its lines in turn.
use mathlib.Core.Path.{sym, ap}
use Rattle.listing.specs.Listings.{op_lines, piece_lines}
use Rattle.listing.proofs.TextsInTurn.{put_same, joins}
use Rattle.listing.proofs.Page.piece.Goals as goal

pub returns-in-Prefix : goal.returns-in-Prefix
returns-in-Prefix c =
    put_same (sym (ap (piece_lines c.args.rule.values.now c.args.rule.octets.now) c.in-Prefix.is)) (joins _ _ c.number_line.ensures c.prefix.ensures)

pub returns-in-Operators : goal.returns-in-Operators
returns-in-Operators c =
    put_same (sym (ap (piece_lines c.args.rule.values.now c.args.rule.octets.now) c.in-Operators.is))
    (joins _ _ (joins _ _ c.number_line-in-Operators.ensures c.number_line-in-Operators-2.ensures) (put_same (ap op_lines c.new.ensures) c.ops.ensures))
