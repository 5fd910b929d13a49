use Rattle.std.proofs.Common.{◌≡◌, ℕ, ◌+◌, ◌*◌, ◌^◌, ◌<◌, ◌≤◌, Some}
use Rattle.s4_arena.specs.Links.{link_at}
use Rattle.s4_arena.specs.Leaps.{items_at}
use Rattle.s4_arena.proofs.Steps.{steps}
use Rattle.s4_arena.proofs.Looking.{wanted}
use Rattle.s4_arena.proofs.search.Ends+Leap+T.newest_by.Given as goal

-- the item at the stop is above the moment, and no more steps follow than there were left
abbrev pub invariant-loop-stop : goal.invariant-loop-stop
invariant-loop-stop g l =
    let cs = l.heap.cells in let e = l.fn.self in
    record {
      within : l.stop.index < e.len;
      stands : link_at cs e.oldest l.stop.index ≡ Some l.stop.at;
      above : wanted g.K.Key.key l.moment (items_at cs e) ≤ l.stop.index;
      fewer : l.steps + l.stop.index < e.len;
      few : (k : ℕ) → k ≤ 64 → e.first + e.len < 2 ^ k
          → l.steps + steps k (e.first + l.stop.index + 1) (e.first + wanted g.K.Key.key l.moment (items_at cs e)) ≤ 3 * k;
    }

abbrev pub decreases-loop-stop : goal.decreases-loop-stop
decreases-loop-stop g l = l.stop.index
