use Rattle.std.proofs.Common.{◌≡◌, Some, sym, ap, ◌∙◌, subst}
use Rattle.std.specs.FinMap as finmap
use Rattle.s4_store.specs.Chains.{items_of}
use Rattle.s4_tracks.specs.Chain.{with_put}
use Rattle.s4_objects.specs.Chains.{chain_of}
use Rattle.s4_objects.specs.Ends.{all_ends, all_by}
use Rattle.s4_objects.specs.Table.{HoldsFor, found_in, held_in, ends_in}
use Rattle.s4_objects.proofs.Queueing.{by_more, all_ends_more, put_has, put_any}
use Rattle.s4_objects.proofs.Holding.{held_by, spares_by, leaves_by, holds_more}
use Rattle.s4_objects.proofs.Beginning.{order_put}
use Rattle.s4_objects.proofs.Timing.{timely_put}
use Rattle.s4_objects.proofs.Using.{used_put}
use Rattle.s4_objects.proofs.objects.Objects.put.Given.{Over}
use Rattle.s4_objects.proofs.objects.Objects.put.Goals as goal
use Rattle.s4_objects.proofs.objects.Objects.put.Goals.{After-push}

found : (g : Over) (c : After-push g) → found_in c.args.self.now c.args.object.now ≡ Some c.unwrap-kept.result
found g c = sym c.get.ensures.value ∙ sym c.copied.ensures ∙ c.unwrap-kept.ensures

changed : (g : Over) (c : After-push g) → g.S.Store.chains c.put.new.store ≡ finmap.insert (g.S.Store.chains c.args.store.now) (chain_of c.args.which c.unwrap-kept.result) (with_put c.args.moment c.args.item (items_of (g.S.Store.chains c.args.store.now) (chain_of c.args.which c.unwrap-kept.result)))
changed g c = c.put.ensures.chains ∙ ap (λ x. finmap.insert (g.S.Store.chains c.args.store.now) x (with_put c.args.moment c.args.item (items_of (g.S.Store.chains c.args.store.now) x))) c.track.ensures

pub returns-clause-holds : goal.returns-clause-holds
returns-clause-holds g c =
    let at = (goal.at.returns-clause-holds g c).After-push in
    let values = held_in (g.S.Store.chains c.args.store.now) c.args.self.now c.args.object.now c.args.which in
    subst (λ es. HoldsFor (g.S.Store.chains c.put.new.store) (found_in c.args.self.now) es c.args.self.now.has_reversed) (sym c.push.ensures.items)
    (holds_more c.requires.holds c.args.object.now c.unwrap-kept.result (found g at) c.args.which (with_put c.args.moment c.args.item) (changed g at) c.args.moment
    (put_has c.args.moment c.args.item _ values (c.requires.holds.queued c.args.object.now c.args.which) c.requires.current) (put_any c.args.moment c.args.item values) c.requires.later (order_put c.args.moment c.args.item values c.requires.begun (c.requires.holds.begun c.args.object.now c.args.which))
    c.args.self.now.has_reversed (λ never. never) (λ never. timely_put c.args.moment c.args.item values c.requires.begun (c.requires.holds.timely never c.args.object.now c.args.which)))

pub returns-clause-held : goal.returns-clause-held
returns-clause-held g c =
    let at = (goal.at.returns-clause-held g c).After-push in
    held_by c.requires.holds.chained c.args.object.now c.unwrap-kept.result (found g at) c.args.which (with_put c.args.moment c.args.item) (changed g at)

pub returns-clause-others : goal.returns-clause-others
returns-clause-others g c =
    let at = (goal.at.returns-clause-others g c).After-push in
    spares_by c.requires.holds.chained c.args.object.now c.unwrap-kept.result (found g at) c.args.which (with_put c.args.moment c.args.item) (changed g at)

pub returns-clause-by_now : goal.returns-clause-by_now
returns-clause-by_now g c = ap (λ es. all_by c.args.moment (all_ends es)) c.push.ensures.items ∙ ap (all_by c.args.moment) (all_ends_more c.args.self.now.ends.items _) ∙ by_more c.args.moment (ends_in c.args.self.now) c.requires.later

pub returns-clause-used : goal.returns-clause-used
returns-clause-used g c = used_put _ _ _ c.args.moment c.args.item (changed g (goal.at.returns-clause-used g c).After-push)

pub returns-clause-leaves : goal.returns-clause-leaves
returns-clause-leaves g c =
    let at = (goal.at.returns-clause-leaves g c).After-push in
    leaves_by c.requires.holds.chained c.args.object.now c.unwrap-kept.result (found g at) c.args.which (with_put c.args.moment c.args.item) (changed g at)
