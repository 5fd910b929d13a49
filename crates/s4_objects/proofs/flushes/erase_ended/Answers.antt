use Rattle.std.proofs.Common.{ℕ, ◌∙◌, ap}
use Rattle.std.specs.BTreeMap.{get}
use Rattle.std.specs.FinMap as finmap
use Rattle.s4_store.specs.Chains.{items_of}
use Rattle.s4_tracks.specs.Chain.{with_first_erased}
use Rattle.s4_objects.specs.Keys.{object_cmp}
use Rattle.s4_objects.specs.Chains.{chain_of}
use Rattle.s4_objects.proofs.Nexting.{next_erases}
use Rattle.s4_objects.proofs.flushes.erase_ended.Goals as goal

pub returns-clause-erases : goal.returns-clause-erases
returns-clause-erases g c =
    let m = g.S.Store.chains c.args.store.now in
    let from : ℕ = c.args.from in
    let e = c.args.ended.now in
    let some = c.in-Some.ensures.some in
    let walk = c.eraser_of-eraser in
    let chain : ℕ = chain_of e.which some.0 in
    next_erases m (get object_cmp c.args.objects.now) from e c.requires.chained some.0 some.1 c.in-Some.ensures.flushed (g.S.Store.chains c.erase_next-told.new.store)
    (c.erase_next-told.ensures.chains
    ∙ ap (λ x. finmap.insert m x (with_first_erased walk.result.from walk.result.end (items_of m x))) (walk.ensures.chain ∙ some.2)
    ∙ ap (λ x. finmap.insert m chain (with_first_erased x walk.result.end (items_of m chain))) walk.ensures.walk.from
    ∙ ap (λ x. finmap.insert m chain (with_first_erased from x (items_of m chain))) walk.ensures.end)
