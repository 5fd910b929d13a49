-- The seats of a closing, and what is left then.
use Rattle.std.proofs.Common.{◌≡◌, ℕ, ◌+◌, ◌<◌, zero, suc, List, [], ◌∷◌, ◌++◌, length, get_or, map, drop, All, sym, refl, ap, ◌∙◌, subst, append_assoc, arith}
use Rattle.std.proofs.lemmas.List.{append-nil, length-map, map-append}
use mathlib.Core.Option.{some}
use lib.ListN.{get_elem?}
use Rattle.atomic_table.specs.Seated.{TableId}
use Rattle.s4_jobs.specs.declared.rule.Tag.{Tag}
use Rattle.s4_jobs.specs.declared.rule.View.{View}
use Rattle.s4_jobs.specs.declared.rule.Hand.{Hand}
use Rattle.s4_jobs.specs.Log.{Taking, numbers_of, tags_of, put_by, taken_by}
use Rattle.s4_jobs.specs.Rule.{view_of, with_all_ended, with_left, IsSeated, IsWhole, Drained, HandFits, Settles}
use Rattle.s4_jobs.specs.Seats.{Seat, Jobs, AreAll, AreRest, Settled, hand_of, hands_of, seat_of, beginner}

pub some_seat : (jobs : Jobs) (seats : List Seat) → AreAll jobs seats → 0 < length seats
some_seat jobs [] all = absurd (omega (arith, all.count (beginner jobs.queue 0 1)))
some_seat jobs (s ∷ seats) all = omega arith

pub rest_of : (jobs : Jobs) (seats : List Seat) → AreAll jobs seats → AreRest jobs.queue (drop 1 seats)
rest_of jobs [] all = record { queues = λ k d lt. absurd (omega arith); numbers = λ k d lt. absurd (omega arith) }
rest_of jobs (s ∷ seats) all = record { queues = λ k d lt. all.queues (suc k) d (omega arith); numbers = λ k d lt. all.numbers (suc k) d (omega arith) ∙ omega arith }

-- seats that ended one after another
pub ended_one_more : (v : View) (seats : List Seat) (s : Seat) → with_all_ended (with_all_ended v (hands_of seats)) (hand_of s ∷ []) ≡ with_all_ended v (hands_of (seats ++ s ∷ []))
ended_one_more v seats s = ap (λ (l : List Hand). view_of v.live v.made v.seat v.put v.taken l v.left) (append_assoc v.closed (hands_of seats) (hand_of s ∷ []) ∙ ap (λ (l : List Hand). v.closed ++ l) (sym (map-append hand_of seats (s ∷ []))))

-- jobs that were left over one after another
pub left_one_more : (v : View) (ts : List Tag) (t : Tag) → with_left (with_left v ts) (t ∷ []) ≡ with_left v (ts ++ t ∷ [])
left_one_more v ts t = ap (λ (l : List Tag). view_of v.live v.made v.seat v.put v.taken v.closed l) (append_assoc v.left ts (t ∷ []))

pub left_none : (v : View) → v ≡ with_left v []
left_none v = ap (λ (l : List Tag). view_of v.live v.made v.seat v.put v.taken v.closed l) (sym (append-nil v.left))

hands_at : (seats : List Seat) (k : ℕ) (d : Seat) → k < length seats → get_elem? (hands_of seats) k ≡ some (hand_of (get_or seats k d))
hands_at [] k d lt = absurd (omega arith)
hands_at (s ∷ seats) zero d lt = refl
hands_at (s ∷ seats) (suc k) d lt = hands_at seats k d (omega arith)

whole_here : (jobs : Jobs) (s : Seat) (seats : List Seat) (queue : TableId) (n : ℕ) (v : View) → AreAll jobs (s ∷ seats) → seat_of queue v ≡ s → IsSeated n v → IsWhole (with_all_ended v (hands_of seats))
whole_here jobs s seats queue n v all is seated = record {
  live = seated.live;
  seat = ap (λ (x : Seat). x.number) is ∙ all.numbers 0 s (omega arith);
  made = ap (λ (x : Seat). x.seats) is ∙ (all.count s ∙ (let a = length-map seats hand_of in let b = ap (λ (l : List Hand). length (l ++ hands_of seats)) seated.closed in omega (arith, a, b)));
}

-- the first seat once all others have ended in it
pub whole : (jobs : Jobs) (seats : List Seat) (s : Seat) (queue : TableId) (n : ℕ) (v : View) → AreAll jobs seats → s ≡ get_or seats 0 s → seat_of queue v ≡ s → IsSeated n v → IsWhole (with_all_ended v (hands_of (drop 1 seats)))
whole jobs [] s queue n v all at is seated = absurd (omega (arith, some_seat jobs [] all))
whole jobs (s0 ∷ seats) s queue n v all at is seated = whole_here jobs s0 seats queue n v all (is ∙ at) seated

-- what all seats put and took, where that many are left over
settled_here : (jobs : Jobs) (s : Seat) (seats : List Seat) (queue : TableId) (n : ℕ) (v : View) (rest : List Tag) (left : List ℕ) → AreAll jobs (s ∷ seats) → seat_of queue v ≡ s → IsSeated n v
    → numbers_of rest ≡ left → Settles (with_left (with_all_ended v (hands_of seats)) rest) [] → Settled (s ∷ seats) left
settled_here jobs s seats queue n v rest left all is seated numbers done =
    let made : v.made ≡ length (s ∷ seats) = ap (λ (x : Seat). x.seats) is ∙ all.count s in
    let after : (v.left ++ rest) ++ [] ≡ rest = append-nil (v.left ++ rest) ∙ ap (λ (l : List Tag). l ++ rest) seated.left in
    let every : tags_of done.log ++ ((v.left ++ rest) ++ []) ≡ tags_of done.log ++ rest = ap (λ (l : List Tag). tags_of done.log ++ l) after in
    record {
      log = done.log;
      rest = rest;
      numbers = numbers;
      from = subst (λ (x : ℕ × List Tag). All (λ (t : Tag). t.from < x.0) x.1) (λ i. (made i, every i)) done.from;
      by = subst (λ (x : ℕ). All (λ (t : Taking). t.by < x) done.log) made done.by;
      put = puts every;
      taken = takes every;
    }
  where
    hand : (k : ℕ) (d : Seat) → k < length seats → HandFits done.log (tags_of done.log ++ ((v.left ++ rest) ++ [])) (k + 1) (hand_of (get_or seats k d))
    hand k d lt = done.hands k (hand_of (get_or seats k d)) (ap (λ (l : List Hand). get_elem? (l ++ hands_of seats) k) seated.closed ∙ hands_at seats k d lt)

    puts : tags_of done.log ++ ((v.left ++ rest) ++ []) ≡ tags_of done.log ++ rest → (k : ℕ) (d : Seat) → k < length (s ∷ seats) → (get_or (s ∷ seats) k d).put ≡ put_by k (tags_of done.log ++ rest)
    puts every zero d lt = sym (ap (λ (x : Seat). x.put) is) ∙ (done.put ∙ ap (put_by 0) every)
    puts every (suc k) d lt = (hand k d (omega arith)).put ∙ (ap (put_by (k + 1)) every ∙ ap (λ (j : ℕ). put_by j (tags_of done.log ++ rest)) (omega arith))

    takes : tags_of done.log ++ ((v.left ++ rest) ++ []) ≡ tags_of done.log ++ rest → (k : ℕ) (d : Seat) → k < length (s ∷ seats) → (get_or (s ∷ seats) k d).taken ≡ taken_by k done.log
    takes every zero d lt = sym (ap (λ (x : Seat). x.taken) is) ∙ done.taken
    takes every (suc k) d lt = (hand k d (omega arith)).taken ∙ ap (λ (j : ℕ). taken_by j done.log) (omega arith)

pub settled : {J : Type 0} (number : J → ℕ) (jobs : Jobs) (seats : List Seat) (s : Seat) (queue : TableId) (n : ℕ) (v : View) (left : List J) → AreAll jobs seats → s ≡ get_or seats 0 s → seat_of queue v ≡ s → IsSeated n v
    → Drained number (with_all_ended v (hands_of (drop 1 seats))) left → Settled seats (map number left)
settled {J} number jobs [] s queue n v left all at is seated d = absurd (omega (arith, some_seat jobs [] all))
settled {J} number jobs (s0 ∷ seats) s queue n v left all at is seated d = settled_here jobs s0 seats queue n v d.rest (map number left) all (is ∙ at) seated d.numbers d.settles
