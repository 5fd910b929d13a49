use Rattle.std.proofs.Common.{Option, ℕ, ◌≡◌, ◌+◌, ◌<◌, Some, None, List, [], ◌∷◌, ◌++◌, refl, sym, ◌∙◌, ap, subst, length, arith}
use Rattle.std.specs.Prelude.{is_some}
use Rattle.std.specs.Option.{option_copied_mut, option_map}
use Rattle.std.specs.FinMap as finmap
use Rattle.s4_types.specs.declared.version.Version.{Version}
use Rattle.s4_types.specs.declared.version.Item.TheVariants.{Bind}
use Rattle.s4_store.specs.Chains.{items_of, item_count}
use Rattle.s4_store.specs.Counts.{item_count-more}
use Rattle.s4_parts.specs.declared.parts.Parts.{Parts}
use Rattle.s4_parts.specs.declared.shelf.Shelf.{Shelf}
use Rattle.s4_parts.specs.Table.{shelf_of, chain_on, items_on, object_of, binding, bindings_in, serials_spare, IsTimely}
use Rattle.s4_parts.proofs.Rebinding.{own, rebound-bindings, rebound-more, rebound-holds, rebound-others, bound-counted, any-snoc}
use Rattle.s4_tracks.specs.Chain.{current_of}
use Rattle.std.specs.BTreeMap.{is_at}
use Rattle.std.specs.Map.{set_value}
use Rattle.std.proofs.lemmas.List.{length-append}
use Rattle.s4_types.specs.Names.{purse_cmp}
use Rattle.s4_parts.specs.Waiting.{bound_on, bound_in, waiting_in}
use Rattle.s4_parts.proofs.Beginning.{timely_push, newest_by_then}
use Rattle.s4_parts.proofs.Totals.{bound-set}
use Rattle.s4_parts.proofs.Awaiting.{waits-bound}
use Rattle.s4_parts.proofs.Leaving.{leaves-changed}
use Rattle.s4_parts.proofs.Rooming.{names-of, room-taken}
use Rattle.s4_parts.proofs.parts.Parts.bind.Goals as goal

pub returns-clause-holds : goal.returns-clause-holds
returns-clause-holds g c =
    let w : Shelf = record { tracks = c.unwrap-shelf.result.now.tracks; bound = c.push_reserved.new.self } in
    let found : shelf_of c.args.self.now (c.args.object.now.purse) ≡ Some c.unwrap-shelf.result.now = sym c.get_mut.ensures.value ∙ ap option_copied_mut c.unwrap-shelf.ensures in
    let track : chain_on (Some c.unwrap-shelf.result.now) c.args.name.now ≡ Some c.unwrap-track.result.chain = sym c.track.ensures ∙ ap (option_map (λ t. t.chain)) c.unwrap-track.ensures in
    let changed : g.S.Store.chains c.push.new.self ≡ finmap.insert (g.S.Store.chains c.args.store.now) c.unwrap-track.result.chain ((λ (vs : List Version). vs ++ binding c.args.moment c.args.name.now c.args.object.now ∷ []) (items_of (g.S.Store.chains c.args.store.now) c.unwrap-track.result.chain)) = c.push.ensures.chains
    ∙ ap (λ n. finmap.insert (g.S.Store.chains c.args.store.now) c.unwrap-track.result.chain (items_of (g.S.Store.chains c.args.store.now) c.unwrap-track.result.chain ++ record { begin = c.args.moment; end = None; item = Some (Bind c.args.object.now); cost = 64 + length n } ∷ [])) c.as_slice.ensures.value in
    rebound-holds (g.S.Store.chains c.args.store.now) c.args.self.now (record { alloc = c.args.self.now.alloc; shelves = c.get_mut.follows.lender w; ends = c.await_one.new.self }) c.requires.holds (c.args.object.now.purse) c.args.name.now c.unwrap-shelf.result.now w
    found ((c.get_mut.follows.holds w).3 (ap is_some found)).0 refl c.unwrap-track.result.chain track (λ (vs : List Version). vs ++ binding c.args.moment c.args.name.now c.args.object.now ∷ []) (g.S.Store.chains c.push.new.self) changed
    (λ test. bound-counted test (items_of (g.S.Store.chains c.args.store.now) c.unwrap-track.result.chain) c.args.moment c.args.name.now c.args.object.now c.unwrap-shelf.result.now.bound.items c.push_reserved.new.self.items (sym (ap (λ vs. object_of (current_of vs)) (ap (items_on (g.S.Store.chains c.args.store.now)) (ap (λ x. chain_on x c.args.name.now) found ∙ track))) ∙ c.requires.unbound) c.push_reserved.ensures.items)
    (subst (λ (o : Option ℕ). IsTimely (items_on (g.S.Store.chains c.args.store.now) o ++ binding c.args.moment c.args.name.now c.args.object.now ∷ [])) (ap (λ x. chain_on x c.args.name.now) found ∙ track)
    (timely_push (bindings_in (g.S.Store.chains c.args.store.now) c.args.self.now c.args.object.now.purse c.args.name.now) (binding c.args.moment c.args.name.now c.args.object.now)
    (newest_by_then c.args.moment c.args.object.now.purse c.args.name.now (waiting_in c.args.self.now) _ (c.requires.waits.queued c.args.object.now.purse c.args.name.now) (c.requires.holds.timely c.args.object.now.purse c.args.name.now) c.requires.later c.requires.unbound)
    tt (c.requires.holds.timely c.args.object.now.purse c.args.name.now)))

pub returns-clause-names : goal.returns-clause-names
returns-clause-names g c =
    let w : Shelf = record { tracks = c.unwrap-shelf.result.now.tracks; bound = c.push_reserved.new.self } in
    let found : shelf_of c.args.self.now (c.args.object.now.purse) ≡ Some c.unwrap-shelf.result.now = sym c.get_mut.ensures.value ∙ ap option_copied_mut c.unwrap-shelf.ensures in
    let track : chain_on (Some c.unwrap-shelf.result.now) c.args.name.now ≡ Some c.unwrap-track.result.chain = sym c.track.ensures ∙ ap (option_map (λ t. t.chain)) c.unwrap-track.ensures in
    let changed : g.S.Store.chains c.push.new.self ≡ finmap.insert (g.S.Store.chains c.args.store.now) c.unwrap-track.result.chain ((λ (vs : List Version). vs ++ binding c.args.moment c.args.name.now c.args.object.now ∷ []) (items_of (g.S.Store.chains c.args.store.now) c.unwrap-track.result.chain)) = c.push.ensures.chains
    ∙ ap (λ n. finmap.insert (g.S.Store.chains c.args.store.now) c.unwrap-track.result.chain (items_of (g.S.Store.chains c.args.store.now) c.unwrap-track.result.chain ++ record { begin = c.args.moment; end = None; item = Some (Bind c.args.object.now); cost = 64 + length n } ∷ [])) c.as_slice.ensures.value in
    rebound-more (g.S.Store.chains c.args.store.now) c.args.self.now (record { alloc = c.args.self.now.alloc; shelves = c.get_mut.follows.lender w; ends = c.await_one.new.self }) c.requires.holds (c.args.object.now.purse) c.args.name.now c.unwrap-shelf.result.now w
    found ((c.get_mut.follows.holds w).3 (ap is_some found)).0 refl c.unwrap-track.result.chain track (λ (vs : List Version). vs ++ binding c.args.moment c.args.name.now c.args.object.now ∷ []) (g.S.Store.chains c.push.new.self) changed (any-snoc (items_of (g.S.Store.chains c.args.store.now) c.unwrap-track.result.chain) _)

pub returns-clause-bindings : goal.returns-clause-bindings
returns-clause-bindings g c =
    let w : Shelf = record { tracks = c.unwrap-shelf.result.now.tracks; bound = c.push_reserved.new.self } in
    let found : shelf_of c.args.self.now (c.args.object.now.purse) ≡ Some c.unwrap-shelf.result.now = sym c.get_mut.ensures.value ∙ ap option_copied_mut c.unwrap-shelf.ensures in
    let track : chain_on (Some c.unwrap-shelf.result.now) c.args.name.now ≡ Some c.unwrap-track.result.chain = sym c.track.ensures ∙ ap (option_map (λ t. t.chain)) c.unwrap-track.ensures in
    let changed : g.S.Store.chains c.push.new.self ≡ finmap.insert (g.S.Store.chains c.args.store.now) c.unwrap-track.result.chain ((λ (vs : List Version). vs ++ binding c.args.moment c.args.name.now c.args.object.now ∷ []) (items_of (g.S.Store.chains c.args.store.now) c.unwrap-track.result.chain)) = c.push.ensures.chains
    ∙ ap (λ n. finmap.insert (g.S.Store.chains c.args.store.now) c.unwrap-track.result.chain (items_of (g.S.Store.chains c.args.store.now) c.unwrap-track.result.chain ++ record { begin = c.args.moment; end = None; item = Some (Bind c.args.object.now); cost = 64 + length n } ∷ [])) c.as_slice.ensures.value in
    rebound-bindings (g.S.Store.chains c.args.store.now) c.args.self.now (record { alloc = c.args.self.now.alloc; shelves = c.get_mut.follows.lender w; ends = c.await_one.new.self }) c.requires.holds (c.args.object.now.purse) c.args.name.now c.unwrap-shelf.result.now w
    found ((c.get_mut.follows.holds w).3 (ap is_some found)).0 refl c.unwrap-track.result.chain track (λ (vs : List Version). vs ++ binding c.args.moment c.args.name.now c.args.object.now ∷ []) (g.S.Store.chains c.push.new.self) changed

pub returns-clause-others : goal.returns-clause-others
returns-clause-others g c =
    let w : Shelf = record { tracks = c.unwrap-shelf.result.now.tracks; bound = c.push_reserved.new.self } in
    let found : shelf_of c.args.self.now (c.args.object.now.purse) ≡ Some c.unwrap-shelf.result.now = sym c.get_mut.ensures.value ∙ ap option_copied_mut c.unwrap-shelf.ensures in
    let track : chain_on (Some c.unwrap-shelf.result.now) c.args.name.now ≡ Some c.unwrap-track.result.chain = sym c.track.ensures ∙ ap (option_map (λ t. t.chain)) c.unwrap-track.ensures in
    let changed : g.S.Store.chains c.push.new.self ≡ finmap.insert (g.S.Store.chains c.args.store.now) c.unwrap-track.result.chain ((λ (vs : List Version). vs ++ binding c.args.moment c.args.name.now c.args.object.now ∷ []) (items_of (g.S.Store.chains c.args.store.now) c.unwrap-track.result.chain)) = c.push.ensures.chains
    ∙ ap (λ n. finmap.insert (g.S.Store.chains c.args.store.now) c.unwrap-track.result.chain (items_of (g.S.Store.chains c.args.store.now) c.unwrap-track.result.chain ++ record { begin = c.args.moment; end = None; item = Some (Bind c.args.object.now); cost = 64 + length n } ∷ [])) c.as_slice.ensures.value in
    rebound-others (g.S.Store.chains c.args.store.now) c.args.self.now (record { alloc = c.args.self.now.alloc; shelves = c.get_mut.follows.lender w; ends = c.await_one.new.self }) c.requires.holds (c.args.object.now.purse) c.args.name.now c.unwrap-shelf.result.now w
    found ((c.get_mut.follows.holds w).3 (ap is_some found)).0 refl c.unwrap-track.result.chain track (λ (vs : List Version). vs ++ binding c.args.moment c.args.name.now c.args.object.now ∷ []) (g.S.Store.chains c.push.new.self) changed

pub returns-clause-own : goal.returns-clause-own
returns-clause-own g c =
    let w : Shelf = record { tracks = c.unwrap-shelf.result.now.tracks; bound = c.push_reserved.new.self } in
    let found : shelf_of c.args.self.now (c.args.object.now.purse) ≡ Some c.unwrap-shelf.result.now = sym c.get_mut.ensures.value ∙ ap option_copied_mut c.unwrap-shelf.ensures in
    let track : chain_on (Some c.unwrap-shelf.result.now) c.args.name.now ≡ Some c.unwrap-track.result.chain = sym c.track.ensures ∙ ap (option_map (λ t. t.chain)) c.unwrap-track.ensures in
    let changed : g.S.Store.chains c.push.new.self ≡ finmap.insert (g.S.Store.chains c.args.store.now) c.unwrap-track.result.chain ((λ (vs : List Version). vs ++ binding c.args.moment c.args.name.now c.args.object.now ∷ []) (items_of (g.S.Store.chains c.args.store.now) c.unwrap-track.result.chain)) = c.push.ensures.chains
    ∙ ap (λ n. finmap.insert (g.S.Store.chains c.args.store.now) c.unwrap-track.result.chain (items_of (g.S.Store.chains c.args.store.now) c.unwrap-track.result.chain ++ record { begin = c.args.moment; end = None; item = Some (Bind c.args.object.now); cost = 64 + length n } ∷ [])) c.as_slice.ensures.value in
    own (g.S.Store.chains c.args.store.now) c.args.self.now (record { alloc = c.args.self.now.alloc; shelves = c.get_mut.follows.lender w; ends = c.await_one.new.self }) c.requires.holds (c.args.object.now.purse) c.args.name.now c.unwrap-shelf.result.now w
    found ((c.get_mut.follows.holds w).3 (ap is_some found)).0 refl c.unwrap-track.result.chain track (λ (vs : List Version). vs ++ binding c.args.moment c.args.name.now c.args.object.now ∷ []) (g.S.Store.chains c.push.new.self) changed

pub returns-clause-waits : goal.returns-clause-waits
returns-clause-waits g c =
    let w : Shelf = record { tracks = c.unwrap-shelf.result.now.tracks; bound = c.push_reserved.new.self } in
    let found : shelf_of c.args.self.now (c.args.object.now.purse) ≡ Some c.unwrap-shelf.result.now = sym c.get_mut.ensures.value ∙ ap option_copied_mut c.unwrap-shelf.ensures in
    let after : Parts = record { alloc = c.args.self.now.alloc; shelves = c.get_mut.follows.lender w; ends = c.await_one.new.self } in
    let test = is_at (purse_cmp c.args.object.now.purse) in
    let one = bound-set test c.args.self.now.shelves.entries c.unwrap-shelf.result.now w found in
    let more : length w.bound.items ≡ length c.unwrap-shelf.result.now.bound.items + 1 = ap length c.push_reserved.ensures.items ∙ length-append c.unwrap-shelf.result.now.bound.items (c.args.object.now.serial ∷ []) in
    let is : bound_in after ≡ bound_on (set_value test c.args.self.now.shelves.entries w) = ap bound_on (c.get_mut.follows.holds w).0 in
    waits-bound c.requires.waits (g.S.Store.chains c.push.new.self) after c.args.object.now.purse c.args.name.now (binding c.args.moment c.args.name.now c.args.object.now)
    (record { endless = refl; object = refl }) c.requires.unbound (returns-clause-bindings g c) c.await_one.ensures.ended (omega arith) c.await_one.ensures.awaited

pub returns-clause-used : goal.returns-clause-used
returns-clause-used g c =
    let m = g.S.Store.chains c.args.store.now in
    let d = c.unwrap-track.result.chain in
    ap item_count c.push.ensures.chains ∙ item_count-more m d 1 _ (length-append (items_of m d) _)

pub returns-clause-leaves : goal.returns-clause-leaves
returns-clause-leaves g c =
    let w : Shelf = record { tracks = c.unwrap-shelf.result.now.tracks; bound = c.push_reserved.new.self } in
    let found : shelf_of c.args.self.now (c.args.object.now.purse) ≡ Some c.unwrap-shelf.result.now = sym c.get_mut.ensures.value ∙ ap option_copied_mut c.unwrap-shelf.ensures in
    let track : chain_on (Some c.unwrap-shelf.result.now) c.args.name.now ≡ Some c.unwrap-track.result.chain = sym c.track.ensures ∙ ap (option_map (λ t. t.chain)) c.unwrap-track.ensures in
    leaves-changed (g.S.Store.chains c.args.store.now) (g.S.Store.chains c.push.new.self) c.args.self.now (record { alloc = c.args.self.now.alloc; shelves = c.get_mut.follows.lender w; ends = c.await_one.new.self }) c.unwrap-track.result.chain _
    (c.requires.holds.opened c.args.object.now.purse c.args.name.now c.unwrap-track.result.chain (ap (λ x. chain_on x c.args.name.now) found ∙ track)) c.push.ensures.chains (returns-clause-own g c)

pub returns-clause-rooms : goal.returns-clause-rooms
returns-clause-rooms g c =
    let shelf : Shelf = c.unwrap-shelf.result.now in
    let w : Shelf = record { tracks = shelf.tracks; bound = c.push_reserved.new.self } in
    let found : shelf_of c.args.self.now (c.args.object.now.purse) ≡ Some shelf = sym c.get_mut.ensures.value ∙ ap option_copied_mut c.unwrap-shelf.ensures in
    let some : 0 < serials_spare (Some shelf) = subst (λ x. 0 < serials_spare x) found (names-of c.requires.reserved) in
    room-taken c.args.self.now (record { alloc = c.args.self.now.alloc; shelves = c.get_mut.follows.lender w; ends = c.await_one.new.self }) c.args.object.now.purse shelf w found ((c.get_mut.follows.holds w).3 (ap is_some found)).0
    (omega (arith, some, c.push_reserved.ensures.len, c.push_reserved.ensures.capacity)) c.await_one.ensures.spare (returns-clause-own g c)
