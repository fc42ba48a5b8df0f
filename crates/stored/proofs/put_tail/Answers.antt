-- `stored::put_tail` meets its contract. The three stores are one overlay.
use Rattle.stored.proofs.Words.{tail_whole}
use Rattle.stored.proofs.put_tail.Goals as goal

pub returns : goal.returns
returns c =
    let a = c.args in
    tail_whole a.words.now _ _ _ a.base a.count a.family a.first c.requires.0 c.put_zeros.ensures c.put_words.ensures c.put_zeros-2.ensures
