-- Beginnings of lines.
use Rattle.std.specs.Prelude.{◌≡◌, ℕ, true, List, ◌++◌, ◌∷◌}
use Rattle.std.specs.List.{flat_map}
use Rattle.s4_causes.specs.Taken.{takes}
use Rattle.s4_causes.specs.declared.form.Form.{Form}
use Rattle.s4_causes.specs.declared.slots.Slot.{Slot}

-- the samples of these places, each behind a space
abbrev pub samples : List Slot → List ℕ
samples slots = flat_map (λ slot. 32 ∷ slot.sample.now) slots

-- A line that is taken begins so: with some samples behind it.
abbrev pub Begins : Form → List ℕ → Type 0
Begins form text = (slots : List Slot) × (takes form (text ++ samples slots) ≡ true)
