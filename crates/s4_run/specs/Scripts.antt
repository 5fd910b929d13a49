-- What a script has that was read for a principal.
use Rattle.std.specs.Prelude.{◌≡◌, ⊤, ℕ, Option, Some, None, List, [], ◌∷◌}
use Rattle.std.specs.Option.{option_map}
use Rattle.s4_script.specs.Readings.{opening_in_text}
use Rattle.s4_run.specs.Struck.{asked_in, asked_of}
use Rattle.s4_run.specs.declared.strike.Script.{Script}

-- it is the script of the principal that this line opens, and has no requests yet
pub record Begins (who : ℕ) (first : List ℕ) (script : Script) : Type 0 where
  pub who_is : script.who ≡ who
  pub window_is : script.window.now ≡ first
  pub version_is : option_map (λ opening. opening.version) (opening_in_text first) ≡ Some script.version
  pub asked_is : asked_of script.requests.items ≡ []

-- it is the script of the principal that the first line opens, and has the requests of all further lines
pub record IsScript (who : ℕ) (first : List ℕ) (further : List (List ℕ)) (script : Script) : Type 0 where
  pub who_is : script.who ≡ who
  pub window_is : script.window.now ≡ first
  pub version_is : option_map (λ opening. opening.version) (opening_in_text first) ≡ Some script.version
  pub asked_is : asked_in script.version further ≡ Some (asked_of script.requests.items)

-- it is the script of these lines, and there is none where there are none
abbrev pub ReadsScript : ℕ → List (List ℕ) → Option Script → Type 0
ReadsScript who [] None = ⊤
ReadsScript who [] (Some script) = ⊥
ReadsScript who (first ∷ further) None = ⊥
ReadsScript who (first ∷ further) (Some script) = IsScript who first further script
