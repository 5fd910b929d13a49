-- What a worker does.
use Rattle.std.specs.Prelude.{◌≡◌, ℕ, List, [], ◌∷◌, ◌++◌, map}
use Rattle.std.specs.List.{FoldsTo}
use Rattle.s4_jobs.specs.Log.{numbers_of, tag}
use Rattle.s4_jobs.specs.Seats.{Seat}
use Rattle.s4_jobs.specs.declared.rule.Tag.{Tag}
use Rattle.s4_jobs.specs.declared.worker.Job.{Job}
use Rattle.s4_jobs.specs.declared.worker.Job.TheVariants.{Run, Stop}

-- a stop has the number 0
abbrev pub job_number : {J : Type 0} → (J → ℕ) → Job J → ℕ
job_number number (Run job) = number job
job_number number Stop = 0

-- the seat that has taken these as well
abbrev pub having_taken_all : Seat → List Tag → Seat
having_taken_all s ts = record { queue = s.queue; number = s.number; seats = s.seats; put = s.put; taken = s.taken ++ ts }

-- The handler was called with each job that the seat took, in their order, and then the seat took a stop
pub record Worked {J F : Type 0} (number : J → ℕ) (Calls : F → J → F → Type 0) (handler : F) (before after : Seat) : Type 0 where
  pub jobs : List J
  pub last : F
  pub tags : List Tag
  pub from : ℕ
  pub numbers : numbers_of tags ≡ map number jobs
  pub ran : FoldsTo Calls handler jobs last
  pub took : after ≡ having_taken_all before (tags ++ tag from 0 ∷ [])
