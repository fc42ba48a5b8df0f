-- What the functions within promise each other: what the pass over a table finds. No promise of an entry point rests on this but through
-- `Choosing`.
use Rattle.std.specs.Prelude.{ℕ, ◌≡◌, true, false}
use Rattle.std.specs.declared.option.Option.{Option}
use Rattle.std.specs.declared.option.Option.TheVariants.{Some, None}
use Rattle.packets.specs.Packets.{Packet}
use Rattle.choosing.specs.declared.Found.{Found}
use Rattle.choosing.specs.Choosing.{Table, formed_at, family_is, all_below, first_failing, best_below, choice_of}

-- of the rules below a number, all of them well-formed
pub record Finds (t : Table) (p : Packet) (family n : ℕ) (f : Found) : Type 0 where
  pub formed : all_below (formed_at t) n ≡ true
  pub mixed : choice_of f.mixed ≡ first_failing (family_is t family) n
  pub best : choice_of f.best ≡ best_below t p n

-- and where one is not
abbrev pub FoundBelow : Table → Packet → ℕ → ℕ → Option Found → Type 0
FoundBelow t p family n (Some f) = Finds t p family n f
FoundBelow t p family n None = all_below (formed_at t) n ≡ false
