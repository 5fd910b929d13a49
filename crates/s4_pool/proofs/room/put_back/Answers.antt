use Rattle.std.proofs.Common.{◌≡◌, List, [], ◌∷◌, ◌++◌, subst, arith}
use Rattle.std.proofs.lemmas.Grind.{common_steps}
use Rattle.s4_types.specs.Log.{Log}
use Rattle.s4_types.specs.declared.record.Record.{Record}
use Rattle.s4_calls.specs.Books.{BookState}
use Rattle.s4_closing.specs.Kept.{AreKept}
use Rattle.s4_closing.specs.Merged.{HaveWindow}
use Rattle.s4_pool.proofs.Beside.{kept_last, window_last}
use Rattle.s4_pool.proofs.room.put_back.Goals as goal

pub invariant_of-new : goal.invariant_of-new
invariant_of-new g c =
    let so_far = c.loop-cell.invariant in
    let cells : c.loop-cell.cells.items ≡ c.pop.new.self.items ++ c.in-Some-Some.cell ∷ [] = c.in-Some-Some.ensures.items in
    let books : c.loop-cell.books.items ≡ c.pop-in-loop-cell.new.self.items ++ c.in-Some-Some.book ∷ [] = c.in-Some-Some.ensures'.items in
    let kept = subst (λ (l : List Log). AreKept (c.pop-in-loop-cell.new.self.items ++ c.in-Some-Some.book ∷ []) l) cells (subst (λ (l : List (BookState Record)). AreKept l c.loop-cell.cells.items) books so_far.5) in
    let window = subst (λ (l : List Log). HaveWindow g.N.Names.window l) cells so_far.6 in
    record {
      kept = (kept_last c.pop-in-loop-cell.new.self.items c.pop.new.self.items c.in-Some-Some.book c.in-Some-Some.cell (grind (arith, common_steps)) kept).0;
      window = (window_last g.N.Names.window c.pop.new.self.items c.in-Some-Some.cell window).0;
    }

pub loop-cell-preserved : goal.loop-cell-preserved
loop-cell-preserved g c =
    let so_far = c.loop-cell.invariant in
    let cells : c.loop-cell.cells.items ≡ c.pop.new.self.items ++ c.in-Some-Some.cell ∷ [] = c.in-Some-Some.ensures.items in
    let books : c.loop-cell.books.items ≡ c.pop-in-loop-cell.new.self.items ++ c.in-Some-Some.book ∷ [] = c.in-Some-Some.ensures'.items in
    let kept = subst (λ (l : List Log). AreKept (c.pop-in-loop-cell.new.self.items ++ c.in-Some-Some.book ∷ []) l) cells (subst (λ (l : List (BookState Record)). AreKept l c.loop-cell.cells.items) books so_far.5) in
    let window = subst (λ (l : List Log). HaveWindow g.N.Names.window l) cells so_far.6 in (
      grind (arith, common_steps),
      grind (arith, common_steps),
      grind (arith, common_steps),
      grind (arith, common_steps),
      grind (arith, common_steps),
      (kept_last c.pop-in-loop-cell.new.self.items c.pop.new.self.items c.in-Some-Some.book c.in-Some-Some.cell (grind (arith, common_steps)) kept).1,
      (window_last g.N.Names.window c.pop.new.self.items c.in-Some-Some.cell window).1,
    )
