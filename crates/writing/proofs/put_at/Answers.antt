-- `writing::put_at` meets its contract, by what the words show: the type, then what follows it.
use mathlib.Core.Path.{sym, ◌∙◌}
use native.Mathlib.Omega.{arith}
use lib.ListN.{length-set}
use Rattle.stored.specs.Pieces.{piece_at}
use Rattle.measuring.specs.Bodies.{lent_of}
use Rattle.writing.proofs.Stores.{prefix_put, ipv4_taken, ipv4_long, ipv4_put, list_inside, list_long, list_put}
use Rattle.writing.proofs.put_at.Goals as goal

pub bounds-out-at : goal.bounds-out-at
bounds-out-at c =
    let a = c.args in
    let l = lent_of a.lent in
    let x = piece_at a.words.now a.word in
    let o = c.in-List in
    omega (arith, c.requires.room, list_long a.writing l x o.tag o.start o.count o.ensures)

pub put_operators-requires-clause-taken : goal.put_operators-requires-clause-taken
put_operators-requires-clause-taken c =
    let a = c.args in
    let l = lent_of a.lent in
    let x = piece_at a.words.now a.word in
    let o = c.in-List in
    list_inside a.writing l x o.tag o.start o.count o.ensures c.requires.taken

pub put_operators-requires-clause-room : goal.put_operators-requires-clause-room
put_operators-requires-clause-room c =
    let a = c.args in
    let l = lent_of a.lent in
    let x = piece_at a.words.now a.word in
    let o = c.in-List in
    simp length-set (omega (arith, c.requires.room, list_long a.writing l x o.tag o.start o.count o.ensures))

pub returns-in-List-clause-next : goal.returns-in-List-clause-next
returns-in-List-clause-next c =
    let a = c.args in
    let l = lent_of a.lent in
    let x = piece_at a.words.now a.word in
    let o = c.in-List in
    omega (arith, c.put_operators.ensures.next, list_long a.writing l x o.tag o.start o.count o.ensures)

pub returns-in-List-clause-octets : goal.returns-in-List-clause-octets
returns-in-List-clause-octets c =
    let a = c.args in
    let l = lent_of a.lent in
    let x = piece_at a.words.now a.word in
    let o = c.in-List in
    list_put a.writing l x o.tag o.start o.count o.ensures a.out.now a.at c.put_operators.ensures.octets

pub put_ipv4-requires : goal.put_ipv4-requires
put_ipv4-requires c =
    let a = c.args in
    let l = lent_of a.lent in
    let x = piece_at a.words.now a.word in
    let o = c.in-Ipv4 in
    (ipv4_taken a.writing l x o.tag o.length o.address o.ensures c.requires.taken, simp length-set (omega (arith, c.requires.room, ipv4_long a.writing l x o.tag o.length o.address o.ensures)))

pub returns-in-Ipv4-clause-octets : goal.returns-in-Ipv4-clause-octets
returns-in-Ipv4-clause-octets c =
    let a = c.args in
    let l = lent_of a.lent in
    let x = piece_at a.words.now a.word in
    let o = c.in-Ipv4 in
    ipv4_put a.writing l x o.tag o.length o.address o.ensures a.out.now a.at c.put_ipv4.ensures

pub returns-in-Prefix-clause-octets : goal.returns-in-Prefix-clause-octets
returns-in-Prefix-clause-octets c =
    let a = c.args in
    let l = lent_of a.lent in
    let x = piece_at a.words.now a.word in
    let is = sym c.piece_at.ensures ∙ c.in-Prefix.is in
    prefix_put a.writing l x c.in-Prefix.tag c.in-Prefix.prefix is a.out.now a.at c.put_prefix.ensures.octets
