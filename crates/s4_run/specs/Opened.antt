-- What a first line opens a run with.
use Rattle.std.specs.Prelude.{◌≡◌, Option, Some, None}
use Rattle.s4_types.specs.Log.{Log, fresh_log}
use Rattle.s4_types.specs.declared.principal.WireVersion.{WireVersion}
use Rattle.s4_script.specs.declared.opening.Opening.{Opening}

-- the drive is fresh, with the line's window, and the version is the line's
abbrev pub Opens : Option Opening → Log → WireVersion → Type 0
Opens None drive version = ⊥
Opens (Some opening) drive version = (drive ≡ fresh_log opening.window) × (version ≡ opening.version)
