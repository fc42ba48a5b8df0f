-- `stored::prefix_at` meets its contract. `Words.antt` has what the words of an IPv4 prefix are.
use Rattle.stored.proofs.Words.{ipv4_words}
use Rattle.stored.proofs.prefix_at.Goals as goal

pub returns-then-q-le4294967295 : goal.returns-then-q-le4294967295
returns-then-q-le4294967295 c = ipv4_words c.args.q c.args.tag c.requires.0 c.requires.1 c.requires.2 c.if-q-lt3.true c.if-q-eq0.true c.if-q-le255.true c.if-q-le4294967295.true
