use Rattle.std.proofs.Common.{◌≡◌, Bool, Some, sym, ap, ◌∙◌, subst}
use Rattle.std.specs.Prelude.{◌||◌}
use Rattle.std.specs.FinMap as finmap
use Rattle.s4_store.specs.Chains.{items_of}
use Rattle.s4_tracks.specs.Chain.{current_of, with_end}
use Rattle.s4_objects.specs.Chains.{chain_of, held}
use Rattle.s4_objects.specs.Ends.{all_ends, all_by, is_later}
use Rattle.s4_objects.specs.Table.{HoldsFor, found_in, held_in, ends_in}
use Rattle.s4_objects.proofs.Queueing.{by_more, all_ends_more, ended_has, ended_any}
use Rattle.s4_objects.proofs.Holding.{held_by, spares_by, leaves_by, holds_more}
use Rattle.s4_tracks.proofs.Beginning.{order_ended}
use Rattle.s4_objects.proofs.Timing.{timely_ended, begun_by, neither}
use Rattle.s4_objects.proofs.Using.{used_ended}
use Rattle.s4_objects.proofs.objects.Objects.end.Given.{Over}
use Rattle.s4_objects.proofs.objects.Objects.end.Goals as goal
use Rattle.s4_objects.proofs.objects.Objects.end.Goals.{After-push}

found : (g : Over) (c : After-push g) → found_in c.args.self.now c.args.object.now ≡ Some c.unwrap-kept.result
found g c = sym c.get.ensures.value ∙ sym c.copied.ensures ∙ c.unwrap-kept.ensures

changed : (g : Over) (c : After-push g) → g.S.Store.chains c.end.new.store ≡ finmap.insert (g.S.Store.chains c.args.store.now) (chain_of c.args.which c.unwrap-kept.result) (with_end c.args.moment (items_of (g.S.Store.chains c.args.store.now) (chain_of c.args.which c.unwrap-kept.result)))
changed g c = c.end.ensures.chains ∙ ap (λ x. finmap.insert (g.S.Store.chains c.args.store.now) x (with_end c.args.moment (items_of (g.S.Store.chains c.args.store.now) x))) c.track-track.ensures

pub returns-clause-holds : goal.returns-clause-holds
returns-clause-holds g c =
    let at = (goal.at.returns-clause-holds g c).After-push in
    let m = g.S.Store.chains c.args.store.now in
    let values = held_in m c.args.self.now c.args.object.now c.args.which in
    let more : Bool = c.args.self.now.has_reversed || c.begins_after.result in
    let later : is_later c.args.moment (current_of values) ≡ c.begins_after.result =
    ap (λ f. is_later c.args.moment (current_of (held m f c.args.which))) (found g at)
    ∙ ap (λ x. is_later c.args.moment (current_of (items_of m x))) (sym c.track-track.ensures) ∙ sym c.begins_after.ensures in
    subst (λ es. HoldsFor (g.S.Store.chains c.end.new.store) (found_in c.args.self.now) es more) (sym c.push.ensures.items)
    (holds_more c.requires.holds c.args.object.now c.unwrap-kept.result (found g at) c.args.which (with_end c.args.moment) (changed g at) c.args.moment
    (ended_has c.args.moment _ values (c.requires.holds.queued c.args.object.now c.args.which) c.requires.current) (ended_any c.args.moment values c.requires.current) c.requires.later (order_ended c.args.moment values (c.requires.holds.begun c.args.object.now c.args.which))
    more (λ none. (neither c.args.self.now.has_reversed c.begins_after.result none).0)
    (λ none. let parts = neither c.args.self.now.has_reversed c.begins_after.result none in
    timely_ended c.args.moment values (begun_by c.args.moment values c.requires.current (later ∙ parts.1)) (c.requires.holds.timely parts.0 c.args.object.now c.args.which)))

pub returns-clause-held : goal.returns-clause-held
returns-clause-held g c =
    let at = (goal.at.returns-clause-held g c).After-push in
    held_by c.requires.holds.chained c.args.object.now c.unwrap-kept.result (found g at) c.args.which (with_end c.args.moment) (changed g at)

pub returns-clause-others : goal.returns-clause-others
returns-clause-others g c =
    let at = (goal.at.returns-clause-others g c).After-push in
    spares_by c.requires.holds.chained c.args.object.now c.unwrap-kept.result (found g at) c.args.which (with_end c.args.moment) (changed g at)

pub returns-clause-by_now : goal.returns-clause-by_now
returns-clause-by_now g c = ap (λ es. all_by c.args.moment (all_ends es)) c.push.ensures.items ∙ ap (all_by c.args.moment) (all_ends_more c.args.self.now.ends.items _) ∙ by_more c.args.moment (ends_in c.args.self.now) c.requires.later

pub returns-clause-used : goal.returns-clause-used
returns-clause-used g c = used_ended _ _ _ c.args.moment (changed g (goal.at.returns-clause-used g c).After-push)

pub returns-clause-leaves : goal.returns-clause-leaves
returns-clause-leaves g c =
    let at = (goal.at.returns-clause-leaves g c).After-push in
    leaves_by c.requires.holds.chained c.args.object.now c.unwrap-kept.result (found g at) c.args.which (with_end c.args.moment) (changed g at)
