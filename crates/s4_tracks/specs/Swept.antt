-- What a sweep leaves of the values of a track, and what two lists of values have in common.
use Rattle.std.specs.Prelude.{◌≡◌, ℕ, ◌≤◌, true, Option, Some, None, List, [], ◌∷◌, ◌++◌, if◌then◌else◌}
use Rattle.std.specs.List.{list_all}
use Rattle.s4_types.specs.declared.version.Version.{Version}
use Rattle.s4_tracks.specs.Chain.{is_expired}

-- what is held is all but some of the oldest values, and these are expired
pub record IsSwept (horizon : ℕ) (held all : List Version) : Type 0 where
  pub gone : List Version
  pub whole : all ≡ gone ++ held
  pub expired : list_all (is_expired horizon) gone ≡ true

-- the values without the oldest ones that are expired: from the first on that isn't
abbrev pub unexpired : ℕ → List Version → List Version
unexpired horizon [] = []
unexpired horizon (v ∷ vs) = if is_expired horizon v then unexpired horizon vs else v ∷ vs

-- both have the same newest values, and before them each has only values that are expired
pub record AgreesWith (horizon : ℕ) (held all : List Version) : Type 0 where
  pub same : unexpired horizon held ≡ unexpired horizon all

-- where there is a moment, it isn't before the horizon
abbrev pub IsFrom : ℕ → Option ℕ → Type 0
IsFrom horizon None = Unit {0}
IsFrom horizon (Some m) = horizon ≤ m
