-- The numbers of connections that were accepted.
use Rattle.std.specs.Prelude.{◌≡◌, ◌≤◌, ℕ, zero, suc, List, [], ◌∷◌, ◌++◌}

-- the numbers from 1 on, up to this one
abbrev pub numbers_to : ℕ → List ℕ
numbers_to zero = []
numbers_to (suc n) = numbers_to n ++ (suc n ∷ [])

-- of the connections with the numbers from 1 to `most` a beginning was put
pub record PutsSome (most : ℕ) (before after : List ℕ) : Type 0 where
  pub count : ℕ
  pub few : count ≤ most
  pub put : after ≡ before ++ numbers_to count
