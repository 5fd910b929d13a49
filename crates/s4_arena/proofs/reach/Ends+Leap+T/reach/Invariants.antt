use Rattle.std.proofs.Common.{◌≡◌, ℕ, ◌+◌, ◌*◌, ◌^◌, ◌<◌, ◌≤◌, Some}
use Rattle.s4_arena.specs.Links.{link_at}
use Rattle.s4_arena.proofs.Steps.{steps}
use Rattle.s4_arena.proofs.reach.Ends+Leap+T.reach.Given as goal

-- the stop isn't past the index, and no more steps follow than there were left
abbrev pub invariant-loop-stop : goal.invariant-loop-stop
invariant-loop-stop g l =
    let cs = l.heap.cells in let e = l.fn.self in
    record {
      within : l.stop.index < e.len;
      stands : link_at cs e.oldest l.stop.index ≡ Some l.stop.at;
      older : l.index ≤ l.stop.index;
      fewer : l.steps + l.stop.index < e.len;
      few : (k : ℕ) → k ≤ 64 → e.first + e.len < 2 ^ k → l.steps + steps k (e.first + l.stop.index + 1) (e.first + l.index) ≤ 3 * k;
    }

abbrev pub decreases-loop-stop : goal.decreases-loop-stop
decreases-loop-stop g l = l.stop.index
