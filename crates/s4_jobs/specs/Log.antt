-- Jobs that were put and taken, by their numbers.
use Rattle.std.specs.Prelude.{ℕ, ◌==◌, List, map, filter}
use Rattle.s4_jobs.specs.declared.rule.Tag.{Tag}

-- a job that was taken, and by which seat
pub record Taking : Type 0 where
  pub by : ℕ
  pub tag : Tag

abbrev pub tag : ℕ → ℕ → Tag
tag seat number = record { from = seat; number = number }

abbrev pub taking : ℕ → Tag → Taking
taking seat t = record { by = seat; tag = t }

abbrev pub numbers_of : List Tag → List ℕ
numbers_of ts = map (λ (t : Tag). t.number) ts

abbrev pub tags_of : List Taking → List Tag
tags_of log = map (λ (x : Taking). x.tag) log

-- the numbers of the jobs that the seat put, in their order
abbrev pub put_by : ℕ → List Tag → List ℕ
put_by seat ts = numbers_of (filter (λ (t : Tag). t.from == seat) ts)

-- what the seat took, in its order
abbrev pub taken_by : ℕ → List Taking → List Tag
taken_by seat log = tags_of (filter (λ (x : Taking). x.by == seat) log)
