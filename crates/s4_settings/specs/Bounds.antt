-- How many may be let in.
use Rattle.std.specs.Prelude.{ℕ, ◌-◌, ◌/◌, min}

-- Of so many places, in how many a caller may be another than the administrator: of all but one of sixteen, and of all but sixteen where there are
-- many.
abbrev pub tenants_of : ℕ → ℕ
tenants_of places = places - min (places / 16) 16
