-- Lines of an input.
use Rattle.std.specs.Prelude.{ℕ, Option, List, [], ◌∷◌, ◌++◌, flat_map}
use Rattle.std.specs.Io.KnownBytes.{Consumes}

-- a line, and the line feed that ends it
abbrev pub with_feed : List ℕ → List ℕ
with_feed line = line ++ 10 ∷ []

-- lines, one behind the other
abbrev pub text_of : List (List ℕ) → List ℕ
text_of lines = flat_map with_feed lines

-- what is left begins with these bytes, where it is known
abbrev pub HasFront : Option (List ℕ) → List ℕ → Type 0
HasFront left bytes = (rest : Option (List ℕ)) × Consumes left rest bytes
