-- The lines of a text.
use Rattle.std.specs.Prelude.{ℕ, ◌==◌, if◌then◌else◌, List, [], ◌∷◌}

-- the bytes before the first line feed, all where there is none
abbrev pub first_line : List ℕ → List ℕ
first_line [] = []
first_line (b ∷ text) = if b == 10 then [] else b ∷ first_line text

-- the bytes behind the first line feed
abbrev pub text_behind : List ℕ → List ℕ
text_behind [] = []
text_behind (b ∷ text) = if b == 10 then text else text_behind text

-- a byte before the first of some lines
abbrev pub longer : ℕ → List (List ℕ) → List (List ℕ)
longer b [] = (b ∷ []) ∷ []
longer b (line ∷ lines) = (b ∷ line) ∷ lines

-- the lines of a text; each ends with a line feed, which the last may lack
abbrev pub lines : List ℕ → List (List ℕ)
lines [] = []
lines (b ∷ text) = if b == 10 then [] ∷ lines text else longer b (lines text)
