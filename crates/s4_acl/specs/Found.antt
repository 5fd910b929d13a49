-- An entry that was found, as the definition has it.
use Rattle.std.specs.Prelude.{ℕ, Option}
use Rattle.std.specs.Option.{option_map}
use Rattle.s4_types.specs.Judgement.{Found}

abbrev pub shown_entry : Option (ℕ × ℕ) → Option Found
shown_entry entry = option_map (λ e. record { index = e.0; rights = e.1 }) entry
