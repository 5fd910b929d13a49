-- What is seen of a front.
use Rattle.std.specs.Prelude.{◌≡◌, ℕ, ◌<◌, List, [], length, slice_index_or}
use Rattle.s4_passes.specs.Calls.{CallList}

-- the window that it was opened with, how many cells it has, how many passes were opened with it, and how many expired values it frees at
-- most behind each ordinary request
pub record FrontState : Type 0 where
  pub window : ℕ
  pub cells : ℕ
  pub passes : ℕ
  pub freed_behind : ℕ

-- the front that frees at most so many from now on, and of which nothing else is changed
abbrev pub freeing_behind : ℕ → FrontState → FrontState
freeing_behind most front = record { window = front.window; cells = front.cells; passes = front.passes; freed_behind = most }

-- passes with the numbers from 0 on, with which no call was ever made
abbrev pub AreFresh : List CallList → Type 0
AreFresh passes = (k : ℕ) (d : CallList) → k < length passes → ((slice_index_or passes k d).number ≡ k)
    × ((slice_index_or passes k d).ever ≡ []) × ((slice_index_or passes k d).calls ≡ [])
