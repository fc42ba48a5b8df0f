-- The ways that a rule by value is stored, and that one is read.
use Prim.Native.Nat.{ℕ, ◌+◌, ◌*◌, ◌/◌, ◌≤◌, ◌<◌}
use mathlib.Core.Path.{◌≡◌, ap, ◌∙◌}
use mathlib.Core.List.{List}
use native.Mathlib.Omega.{arith}
use lib.ListN.{length}
use lib.Seq.{sets}
use Rattle.std.specs.Prelude.{None}
use Rattle.ground.specs.Answers.{accepts}
use Rattle.rules.specs.declared.FlowSpecNlri.{FlowSpecNlri}
use Rattle.stored.specs.Distinguishers.{distinguished_with}
use Rattle.stored.specs.Stored.{head, all_words, tail_words, rule_words, rule_at}
use Rattle.stored.proofs.Words.{rule_whole, rule_distinguished}
use Rattle.stored.proofs.Inverse.{FitAll, put_read}
use Rattle.nlri.specs.Nlri.{stored_of}
use Rattle.nlri.proofs.Slots.{length_pieces_in}

-- the components, what follows them and the distinguisher are the words of the rule
pub stored_whole : (ws p t m : List ℕ) (at : ℕ) (r : FlowSpecNlri) → r.count ≤ 13 → 13 ≤ length r.slots → p ≡ sets ws at (all_words (stored_of r).pieces)
    → t ≡ sets p (at + 4 * r.count) (tail_words r.count (head r.family r.first None)) → m ≡ distinguished_with r.distinguisher t at → m ≡ sets ws at (rule_words (stored_of r).pieces (stored_of r).head)
stored_whole ws p t m at r h k out tail e =
    let ps = (stored_of r).pieces in
    let n : length ps ≡ r.count = length_pieces_in r.count r.slots (omega arith) in
    e
    ∙ ap (λ (l : List ℕ). distinguished_with r.distinguisher l at) (rule_whole ws p t at r.count (head r.family r.first None) ps n out tail)
    ∙ rule_distinguished ws at r.family r.first ps (omega (arith, n)) r.distinguisher

-- what was stored is what is read
pub read_back : (ws m : List ℕ) (place : ℕ) (r : FlowSpecNlri) → r.count ≤ 13 → length (stored_of r).pieces ≡ r.count → FitAll (stored_of r).pieces → r.family < 256 → place < length ws / 64
    → m ≡ sets ws (64 * place) (rule_words (stored_of r).pieces (stored_of r).head) → rule_at m place ≡ accepts (stored_of r)
read_back ws m place r h n fit octet l e =
    ap (λ (x : List ℕ). rule_at x place) e ∙ put_read (stored_of r).pieces (stored_of r).head (omega arith) fit octet ws place l

-- the same of the thirteen places that a rule has
pub stored_back : (ws m : List ℕ) (place : ℕ) (r : FlowSpecNlri) → r.count ≤ 13 → 13 ≤ length r.slots → FitAll (stored_of r).pieces → r.family < 256 → place < length ws / 64
    → m ≡ sets ws (64 * place) (rule_words (stored_of r).pieces (stored_of r).head) → rule_at m place ≡ accepts (stored_of r)
stored_back ws m place r h k fit octet l e = read_back ws m place r h (length_pieces_in r.count r.slots (omega arith)) fit octet l e
