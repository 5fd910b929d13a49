-- A queue, as its callers see it.
use Rattle.std.specs.Prelude.{ℕ, List}

-- what waits, the oldest first, and how many more can be put without memory
pub record Contents (T : Type 0) : Type 0 where
  pub items : List T
  pub room : ℕ
