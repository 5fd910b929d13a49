-- Which trees the numbers of a chain make up.
use Rattle.std.specs.Prelude.{◌≡◌, ℕ, ◌-◌, ◌^◌, min}
use Rattle.s4_arena.specs.Spans.{marks_of}
use Rattle.s4_arena.specs.declared.forest.Forest.{Forest}

-- those of the first n numbers, or of all that fit, where so many don't
abbrev pub IsForest : Forest → ℕ → Type 0
IsForest f n = f.bits ≡ marks_of (min n (2 ^ 64 - 1))
