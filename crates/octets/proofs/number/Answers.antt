-- `octets::number` meets its contract. The invariant: the whole number is what the octets from a place on spell after v, and v is below 2 ^ (8 * place).
use mathlib.Core.Path.{◌≡◌, sym, ◌∙◌}
use native.Mathlib.Omega.{arith}
use lib.ListN.{length}
use Rattle.octets.proofs.Spells.{spell_step, spell_end, grows, below_word}
use Rattle.octets.proofs.number.Goals as goal

pub overflow_mul-v : goal.overflow_mul-v
overflow_mul-v c = let l = c.loop-octet in omega (arith, below_word _ _ (grows l.v 0 l.octet-index l.invariant.1 (omega arith)) (omega arith))

pub loop-octet-preserved : goal.loop-octet-preserved
loop-octet-preserved c =
    let l = c.loop-octet in
    (omega arith, grows l.v _ l.octet-index l.invariant.1 (((c.type_inv.s c.loop-octet.octet-index).fits)), l.invariant.2 ∙ spell_step _ l.v l.octet-index (omega arith))

pub returns-clause-is : goal.returns-clause-is
returns-clause-is c =
    let l = c.loop-octet in
    let e : l.octet-index ≡ length c.args.s.now = omega arith in
    sym (l.invariant.2 ∙ spell_end _ l.v l.octet-index (omega arith))
