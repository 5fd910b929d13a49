use Rattle.std.proofs.Common.{◌++◌, ◌∷◌, [], ◌∙◌, ap, arith}
use Rattle.std.specs.Prelude.{List}
use Rattle.s4_queue.proofs.Laying.{below_put, open_put, laid_put, items_with, items_seen, some_seen}
use Rattle.s4_queue.proofs.queue.Queue.push.Goals as goal

pub index_mut-requires : goal.index_mut-requires
index_mut-requires g c =
    let some = some_seen c.self.invariant _ c.self.view_is c.requires in
    let long = c.self.inside.blocks.ok.0 in
    let below = below_put c.self.invariant _ _ c.place_of-block.ensures some in
    omega arith

pub push_back_reserved-requires : goal.push_back_reserved-requires
push_back_reserved-requires g c =
    let some = some_seen c.self.invariant _ c.self.view_is c.requires in
    open_put c.self.invariant _ _ c.place_of-block.ensures some _ c.index_mut.ensures.value

pub invariant_of-self : goal.invariant_of-self
invariant_of-self g c =
    let some = some_seen c.self.invariant _ c.self.view_is c.requires in
    laid_put c.self.invariant _ _ c.place_of-block.ensures some _ c.index_mut.ensures.value _ c.args.item
    (record { items = c.push_back_reserved.ensures.items; len = c.push_back_reserved.ensures.len; capacity = c.push_back_reserved.ensures.capacity })

pub returns-clause-items : goal.returns-clause-items
returns-clause-items g c =
    let some = some_seen c.self.invariant _ c.self.view_is c.requires in
    items_with c.self.invariant _ _ c.place_of-block.ensures some _ c.index_mut.ensures.value _ c.args.item
    (record { items = c.push_back_reserved.ensures.items; len = c.push_back_reserved.ensures.len; capacity = c.push_back_reserved.ensures.capacity })
    ∙ ap (λ (items : List g.row.T.Denot). items ++ c.args.item ∷ []) (items_seen c.self.invariant _ c.self.view_is)
