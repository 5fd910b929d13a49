use Rattle.std.proofs.Common.{arith}
use Rattle.std.proofs.lemmas.Grind.{common_steps}
use Rattle.s4_pool.proofs.Beside.{kept_push, window_push}
use Rattle.s4_pool.proofs.room.take_out.Goals as goal

pub loop-lock-preserved : goal.loop-lock-preserved
loop-lock-preserved g c =
    let so_far = c.loop-lock.invariant in
    let held = c.into_inner-cell.result in
    let kept = kept_push c.loop-lock.books.items c.loop-lock.cells.items held.book held.cell (omega (arith, so_far.1)) so_far.5 held.kept in
    let window = window_push g.N.Names.window c.loop-lock.cells.items held.cell so_far.6 held.window in (
      grind (arith, common_steps),
      grind (arith, common_steps),
      grind (arith, common_steps),
      grind (arith, common_steps),
      grind (arith, common_steps),
      rw (c.push_reserved.ensures.items, c.push_reserved-in-Some.ensures.items) kept,
      rw c.push_reserved.ensures.items window,
    )
