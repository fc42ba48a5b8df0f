-- `reading::put_part` meets its contract: what was accepted is a prefix or a list (`Components.antt`).
use Rattle.reading.proofs.Components.{extent_there, prefix_post, list_whole, list_room, list_post}
use Rattle.reading.proofs.put_part.Goals as goal

pub prefix_in-prefix-requires : goal.prefix_in-prefix-requires
prefix_in-prefix-requires c = extent_there c.args.reading c.args.s.now c.args.at c.args.first c.args.start c.requires.standing c.if-tag-le2.true

pub returns-then-tag-le2 : goal.returns-then-tag-le2
returns-then-tag-le2 c =
    let a = c.args in
    let p = prefix_post a.reading a.s.now a.at a.first a.start c.requires.standing c.if-tag-le2.true a.words.now a.values.now a.octets.now a.word c.prefix_in-prefix.ensures c.put_piece.ensures in
    record { words = p.0; values = p.1.0; octets = p.1.1.0; end = p.1.1.1.0; count = p.1.1.1.1 }

pub fill-t-requires : goal.fill-t-requires
fill-t-requires c =
    let a = c.args in
    record {
      accepted = list_whole a.reading a.s.now a.at a.first a.start c.requires.standing c.if-tag-le2.false;
      places = list_room a.reading a.s.now a.at a.first a.start c.requires.standing c.if-tag-le2.false c.requires.places;
    }

pub returns : goal.returns
returns c =
    let a = c.args in
    let p = list_post a.reading a.s.now a.at a.first a.start c.requires.standing c.if-tag-le2.false a.words.now a.values.now a.octets.now a.word c.fill-t.ensures.end c.put_piece-2.ensures c.fill-t.ensures.values c.fill-t.ensures.octets in
    record { words = p.0; values = p.1.0; octets = p.1.1.0; end = p.1.1.1.0; count = p.1.1.1.1 }
