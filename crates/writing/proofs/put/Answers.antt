-- `writing::put` meets its contract: what was measured is a framed rule whose components are taken.
use mathlib.Core.Path.{sym, ◌∙◌}
use native.Mathlib.Omega.{arith}
use lib.ListN.{length}
use Rattle.octets.specs.Lengths.{length_into}
use Rattle.stored.specs.Distinguishers.{distinguisher_at}
use Rattle.measuring.specs.Bodies.{distinguisher_octets}
use Rattle.writing.proofs.Stores.{kept}
use Rattle.writing.proofs.Ways.{put_room, put_done}
use Rattle.writing.proofs.put.Goals as goal

pub put_body-requires-clause-room : goal.put_body-requires-clause-room
put_body-requires-clause-room c =
    let a = c.args in
    let l = kept c.encode_length.new.out c.length_size.result (distinguisher_octets a.writing (distinguisher_at a.words.now 0)) c.put_front-at.ensures.octets
    ∙ kept a.out.now 0 (length_into a.body (length a.out.now)) c.encode_length.ensures.octets in
    put_room a.writing a.words.now a.values.now a.octets.now a.body (sym c.requires.measured) c.count_at-count.ensures c.first_at.ensures c.length_size.ensures c.put_front-at.ensures.next c.put_front-at.new.out (omega (arith, l, c.requires.room))

pub returns : goal.returns
returns c =
    let a = c.args in
    put_done a.writing a.words.now a.values.now a.octets.now a.body (sym c.requires.measured) c.count_at-count.ensures c.first_at.ensures c.length_size.ensures c.put_front-at.ensures.next a.out.now c.requires.room c.encode_length.ensures.octets c.put_front-at.ensures.octets c.put_body.ensures
