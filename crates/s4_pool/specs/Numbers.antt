-- The numbers of passes.
use Rattle.std.specs.Prelude.{◌≡◌, ℕ, ◌<◌, ◌==◌, List, count_by}
use Rattle.s4_passes.specs.Calls.{CallList}

-- how many of the passes have this number
abbrev pub numbered : ℕ → List CallList → ℕ
numbered number passes = count_by (λ pass. pass.number == number) passes

-- each of so many numbers from 0 on is that of just one pass
abbrev pub HasAll : ℕ → List CallList → Type 0
HasAll count passes = (number : ℕ) → number < count → numbered number passes ≡ 1
