-- Items by their keys.
use Rattle.std.specs.Prelude.{ℕ, nat_le, if◌then◌else◌, Option, Some, None, List, fold}

abbrev pub newer : {T : Type 0} → (T → ℕ) → ℕ → Option T → T → Option T
newer key m old v = if nat_le (key v) m then Some v else old

-- the last item whose key is at most the moment
abbrev pub last_by : {T : Type 0} → (T → ℕ) → ℕ → List T → Option T
last_by key m xs = fold (newer key m) None xs
