-- How many records a cell ever had.
use Rattle.std.specs.Prelude.{ℕ, length}
use Rattle.s4_types.specs.Log.{Log}

-- those that went are among them
abbrev pub count_of : Log → ℕ
count_of log = length log.history
