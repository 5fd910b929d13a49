-- A queue of ends, as its callers see it.
use Rattle.std.specs.Prelude.{ℕ, List}
use Rattle.s4_parts.specs.declared.ends.Ended.{Ended}

-- the ends in the order in which they came, how many more are awaited, and for how many beyond these there is room
pub record Queue : Type 0 where
  pub ended : List Ended
  pub awaited : ℕ
  pub spare : ℕ
