use Rattle.std.proofs.Common.{◌≡◌, ◌++◌, sym, ◌∙◌, ap, subst}
use Rattle.std.specs.BTreeMap.{get}
use Rattle.s4_types.specs.Names.{same_object}
use Rattle.s4_store.specs.Chains.{items_of}
use Rattle.s4_objects.specs.declared.kept.Which.TheVariants as which
use Rattle.s4_objects.specs.Keys.{object_cmp}
use Rattle.s4_objects.specs.Flushes.{Flushes, refunds_of}
use Rattle.s4_objects.proofs.Flushing.{chained_apart, flushes_one, flushes_unkept}
use Rattle.s4_objects.proofs.flushes.flush_object.Goals as goal

pub returns-in_default-clause-ok : goal.returns-in_default-clause-ok
returns-in_default-clause-ok g c =
    subst (λ rs. Flushes (g.S.Store.chains c.args.store.now) (g.S.Store.chains c.args.store.now) (get object_cmp c.args.objects.now) (same_object c.args.object.now) c.args.from c.args.to rs) (sym c.requires.empty)
    (flushes_unkept c.args.from c.args.to (g.S.Store.chains c.args.store.now) c.args.object.now (sym c.in_default.ensures.value))

pub count_kept-count-requires-clause-data : goal.count_kept-count-requires-clause-data
count_kept-count-requires-clause-data g c = c.requires.chained.opened c.args.object.now c.in-Some.kept.now which.Data (sym c.in-Some.ensures.value)

pub count_kept-count-requires-clause-attributes : goal.count_kept-count-requires-clause-attributes
count_kept-count-requires-clause-attributes g c = c.requires.chained.opened c.args.object.now c.in-Some.kept.now which.Attributes (sym c.in-Some.ensures.value)

pub count_kept-count-requires-clause-apart : goal.count_kept-count-requires-clause-apart
count_kept-count-requires-clause-apart g c = chained_apart c.requires.chained c.args.object.now c.in-Some.kept.now (sym c.in-Some.ensures.value)

pub flush_kept-requires-clause-data : goal.flush_kept-requires-clause-data
flush_kept-requires-clause-data g c = c.requires.chained.opened c.args.object.now c.in-Some.kept.now which.Data (sym c.in-Some.ensures.value)

pub flush_kept-requires-clause-attributes : goal.flush_kept-requires-clause-attributes
flush_kept-requires-clause-attributes g c = c.requires.chained.opened c.args.object.now c.in-Some.kept.now which.Attributes (sym c.in-Some.ensures.value)

pub flush_kept-requires-clause-apart : goal.flush_kept-requires-clause-apart
flush_kept-requires-clause-apart g c = chained_apart c.requires.chained c.args.object.now c.in-Some.kept.now (sym c.in-Some.ensures.value)

pub returns-clause-ok : goal.returns-clause-ok
returns-clause-ok g c =
    let m = g.S.Store.chains c.args.store.now in
    let new = g.S.Store.chains c.flush_kept.new.store in
    let found = get object_cmp c.args.objects.now in
    let is : c.flush_kept.new.refunds.items ≡ refunds_of c.args.object.now.purse c.args.from c.args.to (items_of m c.in-Some.kept.now.data.chain) ++ refunds_of c.args.object.now.purse c.args.from c.args.to (items_of m c.in-Some.kept.now.attributes.chain) =
    c.flush_kept.ensures.refunds ∙ ap (λ rs. rs ++ (refunds_of c.args.object.now.purse c.args.from c.args.to (items_of m c.in-Some.kept.now.data.chain) ++ refunds_of c.args.object.now.purse c.args.from c.args.to (items_of m c.in-Some.kept.now.attributes.chain))) (c.reserve.ensures.items ∙ c.requires.empty) in
    subst (λ rs. Flushes m new found (same_object c.args.object.now) c.args.from c.args.to rs) (sym is)
    (flushes_one c.args.from c.args.to c.requires.chained c.args.object.now c.in-Some.kept.now (sym c.in-Some.ensures.value) c.flush_kept.ensures.data c.flush_kept.ensures.attributes c.flush_kept.ensures.others c.flush_kept.ensures.still c.flush_kept.ensures.unopened c.flush_kept.ensures.used)
