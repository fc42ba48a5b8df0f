-- What the exported functions answer: the definitions' answers in four numbers. A refusal's number is 1 or more, it carries at most two
-- numbers, and no place is as large as the number that stands for none, so nothing is lost.
use Rattle.std.specs.Prelude.{ℕ, ◌-◌, ◌^◌, Bool, List, get_or, eqb}
use Rattle.ground.specs.Answers.{Place, nowhere, at_octet, Refused, Answer, accepts, declines}
use Rattle.ground.specs.Picks.{pick}
use Rattle.choices.specs.declared.Reading.{Reading}
use Rattle.choices.specs.declared.Reading.TheVariants.{Plain}
use Rattle.reading.specs.declared.Taken.{Taken}
use Rattle.reading.specs.Readings.{ReadRule, read_at}
use Rattle.choices.specs.Choices.{standard_of}
use Rattle.writing.specs.Writings.{written_from}
use Rattle.krubbadin.specs.declared.KrubbadinAnswer.{KrubbadinAnswer}

-- "all ones where there is none"
abbrev pub place_number : Place → ℕ
place_number nowhere = 2 ^ 64 - 1
place_number (at_octet at) = at

abbrev pub given_with : ℕ → ℕ → KrubbadinAnswer
given_with first second = record { status = 0; first = first; second = second; place = place_number nowhere }

abbrev pub refused_with : Refused → KrubbadinAnswer
refused_with f = record { status = f.number; first = get_or f.carried 0 0; second = get_or f.carried 1 0; place = place_number f.place }

-- a reading: the octets used and the operators
abbrev pub read_answer : Answer Taken → KrubbadinAnswer
read_answer (accepts t) = given_with t.used t.operators
read_answer (declines f) = refused_with f

-- what a call asks for: 0 is the plain reading, any other number the standard one in the family that is given, 4 or 6, else BadFamily
unfoldable pub which_of : ℕ → ℕ → Answer Reading
which_of standard family = pick (eqb standard 0) (accepts Plain) (standard_of family)

-- a check: what the input is to that reading by itself, whatever room a reading would have
abbrev pub by_check : Answer Reading → Bool → List ℕ → Answer ReadRule
by_check (accepts reading) expected s = read_at reading expected s
by_check (declines f) expected s = declines f

-- a writing: the octets written
abbrev pub written_answer : Answer ℕ → KrubbadinAnswer
written_answer (accepts n) = given_with n 0
written_answer (declines f) = refused_with f

abbrev pub by_writing : Answer Reading → List ℕ → List ℕ → List ℕ → ℕ → Answer (List ℕ)
by_writing (accepts writing) words values octets room = written_from writing words values octets room
by_writing (declines f) words values octets room = declines f
