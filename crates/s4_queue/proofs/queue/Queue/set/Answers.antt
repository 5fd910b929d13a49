use Rattle.std.proofs.Common.{◌<◌, ℕ, List, set, refl, sym, ◌∙◌, ap, subst, arith}
use Rattle.std.specs.VecDeque.{deque_len}
use Rattle.s4_queue.proofs.Filling.{within_at}
use Rattle.s4_queue.proofs.Laying.{laid_set, items_changed, items_seen, within_seen, below_lies}
use Rattle.s4_queue.proofs.queue.Queue.set.Goals as goal

pub place_of-block-requires : goal.place_of-block-requires
place_of-block-requires g c =
    let within = within_seen c.self.invariant _ c.self.view_is c.args.index c.requires in
    let begun = c.self.invariant.begun in let few = c.self.invariant.few in
    record { within = omega arith }

pub index_mut-requires : goal.index_mut-requires
index_mut-requires g c =
    let within = within_seen c.self.invariant _ c.self.view_is c.args.index c.requires in
    let long = c.self.inside.blocks.ok.0 in
    let below = below_lies c.self.invariant _ _ _ c.place_of-block.ensures within in
    omega arith

pub index_mut-requires-2 : goal.index_mut-requires-2
index_mut-requires-2 g c =
    let q = c.self.inside in
    let within = within_seen c.self.invariant _ c.self.view_is c.args.index c.requires in
    let begun = c.self.invariant.begun in
    subst (λ (n : ℕ). c.place_of-block.result.1 < n) (ap deque_len (sym c.index_mut.ensures.value))
    (within_at q.taken q.len c.args.index _ _ q.blocks.items c.index_mut.result.now (omega arith) c.self.invariant.filled c.place_of-block.ensures within).1

pub invariant_of-self : goal.invariant_of-self
invariant_of-self g c =
    laid_set c.self.invariant c.place_of-block.result.0 c.place_of-block.result.1 c.index_mut.result.now _ c.args.item c.index_mut.ensures.value (record { items = refl; len = refl; capacity = refl })

pub returns-clause-items : goal.returns-clause-items
returns-clause-items g c =
    let within = within_seen c.self.invariant _ c.self.view_is c.args.index c.requires in
    items_changed c.self.invariant c.place_of-block.result.0 c.place_of-block.result.1 c.index_mut.result.now _ c.args.item c.index_mut.ensures.value (record { items = refl; len = refl; capacity = refl }) c.args.index c.place_of-block.ensures within
    ∙ ap (λ (items : List g.row.T.Denot). set items c.args.index c.args.item) (items_seen c.self.invariant _ c.self.view_is)
