-- Seats that are handed out, the last one first.
use Rattle.std.proofs.Common.{◌≡◌, zero, suc, List, [], ◌∷◌, ◌++◌, subst, arith}
use Rattle.atomic_table.specs.Seated.{TableId}
use Rattle.s4_jobs.specs.Seats.{Seat}
use Rattle.s4_server.specs.Places.{AreOf}

pub last_of : (queue : TableId) (seats : List Seat) (last : Seat) → AreOf queue (seats ++ last ∷ []) → (last.queue ≡ queue) × AreOf queue seats
last_of queue [] last all = (all 0 last (omega arith), λ k d lt. absurd (omega (arith, lt)))
last_of queue (seat ∷ seats) last all =
    let more = last_of queue seats last (λ k d lt. all (suc k) d (omega (arith, lt))) in
    (more.0, here more.1)
  where
    here : AreOf queue seats → AreOf queue (seat ∷ seats)
    here rest zero d lt = all zero d (omega arith)
    here rest (suc k) d lt = rest k d (omega (arith, lt))

pub taken : (queue : TableId) (all seats : List Seat) (last : Seat) → all ≡ seats ++ last ∷ [] → AreOf queue all → (last.queue ≡ queue) × AreOf queue seats
taken queue all seats last is of = last_of queue seats last (subst (λ (l : List Seat). AreOf queue l) is of)
