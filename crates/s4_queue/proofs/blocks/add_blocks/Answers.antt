use Rattle.std.proofs.Common.{◌∙◌, ap, sym, subst, [], ◌∷◌, ◌++◌, arith}
use Rattle.s4_queue.specs.Blocks.{AreFilled, items_of}
use Rattle.s4_queue.proofs.Filling.{filled_more, items_still}
use Rattle.s4_queue.proofs.blocks.add_blocks.Goals as goal

pub loop-alloc-preserved : goal.loop-alloc-preserved
loop-alloc-preserved g c =
    let block = c.in_ok-block.block in
    let before = c.loop-alloc.blocks.items in
    let added = c.push_back_reserved.ensures.items ∙ ap (λ bs. bs ++ block ∷ []) c.in_ok-reserve.ensures.items in
    record {
      items = ap items_of added ∙ items_still before block c.in_ok-block.ensures.len ∙ c.loop-alloc.invariant.items;
      filled = λ taken len f. subst (AreFilled taken len) (sym added) (filled_more taken len before block c.in_ok-block.ensures.len (omega (arith, c.in_ok-block.ensures.exact)) (c.loop-alloc.invariant.filled taken len f));
      grown = omega arith;
    }
