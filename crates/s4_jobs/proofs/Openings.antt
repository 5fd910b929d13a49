-- The seats of an opening.
use Rattle.std.proofs.Common.{◌≡◌, ℕ, ◌+◌, ◌<◌, zero, suc, List, ◌∷◌, length, get_or, ap, ◌∙◌, arith}
use Rattle.s4_jobs.specs.Seats.{Seat, Jobs, AreAll, AreFresh, AreNewcomers, beginner}

pub opened : (jobs : Jobs) (first : Seat) (rest : List Seat) → first ≡ beginner jobs.queue 0 (length rest + 1) → AreNewcomers jobs.queue rest → AreAll jobs (first ∷ rest)
opened jobs first rest begins each = record { queues = queues; numbers = numbers; count = λ d. ap (λ (s : Seat). s.seats) begins ∙ omega arith }
  where
    queues : (k : ℕ) (d : Seat) → k < length (first ∷ rest) → (get_or (first ∷ rest) k d).queue ≡ jobs.queue
    queues zero d lt = ap (λ (s : Seat). s.queue) begins
    queues (suc k) d lt = ap (λ (s : Seat). s.queue) (each k d (omega arith))

    numbers : (k : ℕ) (d : Seat) → k < length (first ∷ rest) → (get_or (first ∷ rest) k d).number ≡ k
    numbers zero d lt = ap (λ (s : Seat). s.number) begins
    numbers (suc k) d lt = ap (λ (s : Seat). s.number) (each k d (omega arith)) ∙ omega arith

pub opened_fresh : (jobs : Jobs) (first : Seat) (rest : List Seat) (n : ℕ) → first ≡ beginner jobs.queue 0 n → AreNewcomers jobs.queue rest → AreFresh (first ∷ rest)
opened_fresh jobs first rest n begins each zero d lt = (ap (λ (s : Seat). s.put) begins, ap (λ (s : Seat). s.taken) begins)
opened_fresh jobs first rest n begins each (suc k) d lt = let e = each k d (omega arith) in (ap (λ (s : Seat). s.put) e, ap (λ (s : Seat). s.taken) e)
