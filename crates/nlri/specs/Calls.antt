-- The plain reading and writing of a rule by value: document 01, "The plain reading" and "Writing".
use Rattle.std.specs.Prelude.{ℕ, List, [], ◌||◌, length, ltb}
use Rattle.ground.specs.Answers.{Answer, accepts, refuses, declines}
use Rattle.ground.specs.Picks.{pick}
use Rattle.choices.specs.declared.Reading.TheVariants.{Plain}
use Rattle.rules.specs.declared.FlowSpecNlri.{FlowSpecNlri}
use Rattle.rules.specs.Components.{holds_one, components_of}
use Rattle.stored.specs.Stored.{head, stored_rule}
use Rattle.reading.specs.declared.Taken.{Taken}
use Rattle.reading.specs.Readings.{ReadRule, taken}
use Rattle.writing.specs.Writings.{written_rule}
use Rattle.nlri.specs.declared.Parsed.{Parsed}
use Rattle.nlri.specs.Nlri.{rule_of, stored_of}

-- what was read, by value
abbrev pub nlri_of : ReadRule → FlowSpecNlri
nlri_of r = rule_of (stored_rule r.pieces (head r.family 0 r.distinguisher))

abbrev pub parsed : Taken → FlowSpecNlri → Parsed
parsed t r = record { taken = t; rule = r }

-- and how many octets and operators it took
abbrev pub parsed_of : Answer ReadRule → Answer Parsed
parsed_of (accepts r) = accepts (parsed (taken r.used (length r.operators)) (nlri_of r))
parsed_of (declines f) = declines f

-- "at most 13 components", none of them an unused place
unfoldable pub written_nlri : FlowSpecNlri → List ℕ → List ℕ → ℕ → Answer (List ℕ)
written_nlri r values octets room =
    pick (ltb 13 r.count || holds_one 1 (components_of r)) (refuses 10 []) (written_rule Plain (stored_of r) values octets room)
