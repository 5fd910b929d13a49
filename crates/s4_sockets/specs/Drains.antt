-- What is read and forgotten.
use Rattle.std.specs.Prelude.{ℕ, ◌≤◌, List, Option, length}
use Rattle.std.specs.Io.KnownBytes.{Consumes}

-- so many bytes at most are read
pub record Drains (most : ℕ) (before after : Option (List ℕ)) : Type 0 where
  pub read : List ℕ
  pub consumes : Consumes before after read
  pub few : length read ≤ most
