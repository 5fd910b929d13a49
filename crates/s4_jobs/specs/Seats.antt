-- What contracts see of a queue and its seats.
use Rattle.std.specs.Prelude.{◌≡◌, ℕ, ◌+◌, ◌<◌, List, [], ◌∷◌, ◌++◌, length, map, slice_index_or, All}
use Rattle.atomic_table.specs.Seated.{TableId}
use Rattle.crossbeam_queue.specs.Fifo.{Held}
use Rattle.s4_jobs.specs.Log.{Taking, tags_of, numbers_of, put_by, taken_by}
use Rattle.s4_jobs.specs.Rule.{Sees, tag_of}
use Rattle.s4_jobs.specs.declared.rule.Tag.{Tag}
use Rattle.s4_jobs.specs.declared.rule.View.{View}
use Rattle.s4_jobs.specs.declared.rule.Hand.{Hand}
use Rattle.s4_jobs.specs.declared.rule.Posted.{Posted}

-- of which queue a seat is, its number, how many seats there are (of the first; 0 in others), and the jobs that it put and took, in order
pub record Seat : Type 0 where
  pub queue : TableId
  pub number : ℕ
  pub seats : ℕ
  pub put : List ℕ
  pub taken : List Tag

-- which queue it is, and how many jobs it holds at most
pub record Jobs : Type 0 where
  pub queue : TableId
  pub capacity : ℕ

abbrev pub seat_of : TableId → View → Seat
seat_of queue v = record { queue = queue; number = v.seat; seats = v.made; put = v.put; taken = v.taken }

-- a seat that has put and taken nothing
abbrev pub beginner : TableId → ℕ → ℕ → Seat
beginner queue number seats = record { queue = queue; number = number; seats = seats; put = []; taken = [] }

-- the seat once it has put a job of that number
abbrev pub having_put : Seat → ℕ → Seat
having_put s number = record { queue = s.queue; number = s.number; seats = s.seats; put = s.put ++ number ∷ []; taken = s.taken }

-- the seat once it has taken that job
abbrev pub having_taken : Seat → Tag → Seat
having_taken s t = record { queue = s.queue; number = s.number; seats = s.seats; put = s.put; taken = s.taken ++ t ∷ [] }

-- at one moment of the call the queue held so many jobs
abbrev pub HeldThen : {J : Type 0} → (J → ℕ) → ℕ → Seat → Type 0
HeldThen {J} number count s = Held {T = Posted J} count
    (λ (items : List (Posted J)). Sees s.number s.seats s.put s.taken (map (tag_of number) items))

abbrev pub WasFull : {J : Type 0} → (J → ℕ) → Jobs → Seat → Type 0
WasFull number jobs s = HeldThen number jobs.capacity s

abbrev pub WasEmpty : {J : Type 0} → (J → ℕ) → Seat → Type 0
WasEmpty number s = HeldThen number 0 s

-- all seats of the queue, by their numbers from 0
pub record AreAll (jobs : Jobs) (seats : List Seat) : Type 0 where
  pub queues : All (λ (s : Seat). s.queue ≡ jobs.queue) seats
  pub numbers : (k : ℕ) (d : Seat) → k < length seats → (slice_index_or seats k d).number ≡ k
  pub count : (d : Seat) → (slice_index_or seats 0 d).seats ≡ length seats

-- seats that have put and taken nothing
abbrev pub AreFresh : List Seat → Type 0
AreFresh seats = All (λ (s : Seat). (s.put ≡ []) × (s.taken ≡ [])) seats

-- There is one log of all takings, in the order of the queue, and what is left comes after
-- it. Each seat put and took what they say, and they speak of these seats alone
pub record Settled (seats : List Seat) (left : List ℕ) : Type 0 where
  pub log : List Taking
  pub rest : List Tag
  pub numbers : numbers_of rest ≡ left
  pub from : All (λ (t : Tag). t.from < length seats) (tags_of log ++ rest)
  pub by : All (λ (x : Taking). x.by < length seats) log
  pub put : (k : ℕ) (d : Seat) → k < length seats → (slice_index_or seats k d).put ≡ put_by k (tags_of log ++ rest)
  pub taken : (k : ℕ) (d : Seat) → k < length seats → (slice_index_or seats k d).taken ≡ taken_by k log

-- the seats after the first, which have put and taken nothing
abbrev pub AreNewcomers : TableId → List Seat → Type 0
AreNewcomers queue seats = (k : ℕ) (d : Seat) → k < length seats → slice_index_or seats k d ≡ beginner queue (k + 1) 0

-- the seats of the queue after the first
pub record AreRest (queue : TableId) (seats : List Seat) : Type 0 where
  pub queues : All (λ (s : Seat). s.queue ≡ queue) seats
  pub numbers : (k : ℕ) (d : Seat) → k < length seats → (slice_index_or seats k d).number ≡ k + 1

abbrev pub hand_of : Seat → Hand
hand_of s = record { put = s.put; taken = s.taken }

abbrev pub hands_of : List Seat → List Hand
hands_of seats = map hand_of seats
