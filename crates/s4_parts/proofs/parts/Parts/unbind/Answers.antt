use Rattle.s4_parts.proofs.Beginning.{timely_ended}
use Rattle.std.proofs.Common.{Option, ◌≡◌, ℕ, ◌<◌, Some, refl, sym, ◌∙◌, ap, subst, arith, length, ◌+◌, vec_len, rules, ◌++◌, ◌∷◌, []}
use Rattle.std.specs.Prelude.{◌==◌, is_some, IfSome, slice_get}
use Rattle.std.specs.Option.{option_copied_mut, option_map}
use Rattle.std.specs.List.{list_any}
use Rattle.std.proofs.lemmas.Option.{slice_get_within}
use Rattle.s4_store.specs.Chains.{items_of}
use Rattle.s4_tracks.specs.Chain.{with_end}
use Rattle.s4_parts.specs.declared.parts.Parts.{Parts}
use Rattle.s4_parts.specs.declared.shelf.Shelf.{Shelf}
use Rattle.s4_parts.specs.Table.{shelf_of, chain_on, serials_on, items_on, bindings_in, serial_now, IsTimely}
use Rattle.s4_parts.proofs.Rebinding.{own, rebound-bindings, rebound-same, rebound-holds, rebound-others, unbound-counted, unbound-used, ended-any, known-now}
use Rattle.std.specs.BTreeMap.{is_at}
use Rattle.std.specs.Map.{set_value}
use Rattle.s4_types.specs.Names.{purse_cmp}
use Rattle.s4_parts.specs.declared.ends.Ended.{Ended}
use Rattle.s4_parts.specs.Waiting.{waiting_in, bound_on, bound_in}
use Rattle.s4_parts.proofs.Totals.{bound-set}
use Rattle.s4_parts.proofs.Awaiting.{waits-unbound, same-ended}
use Rattle.s4_parts.proofs.Leaving.{leaves-changed}
use Rattle.s4_parts.proofs.Rooming.{room-kept, room-replaced}
use Rattle.s4_parts.proofs.parts.Parts.unbind.Given.{Over}
use Rattle.s4_parts.proofs.parts.Parts.unbind.Goals.{After-new}
use Rattle.s4_parts.proofs.parts.Parts.unbind.Goals as goal

pub unwrap-place-requires : goal.unwrap-place-requires
unwrap-place-requires g c =
    let found : shelf_of c.args.self.now c.args.purse.now ≡ Some c.unwrap-shelf.result.now = sym c.get_mut.ensures.value ∙ ap option_copied_mut c.unwrap-shelf.ensures in
    let track : chain_on (Some c.unwrap-shelf.result.now) c.args.name.now ≡ Some c.unwrap-track.result.chain = sym c.track.ensures ∙ ap (option_map (λ t. t.chain)) c.unwrap-track.ensures in
    let now : serial_now (items_of (g.S.Store.chains c.args.store.now) c.unwrap-track.result.chain) ≡ Some c.unwrap-object.result.serial = ap (option_map (λ o. o.serial)) (sym c.bound_object.ensures ∙ c.unwrap-object.ensures) in
    let serial : ℕ = c.unwrap-object.result.serial in
    c.place_of.ensures.there ∙ ap (list_any (λ y. y == serial)) c.deref.ensures.value ∙ ap (λ x. list_any (λ y. y == serial) (serials_on x)) (sym found)
    ∙ known-now c.args.self.now c.requires.holds c.args.purse.now c.args.name.now serial (ap is_some (ap (λ x. chain_on x c.args.name.now) found ∙ track))
    (ap serial_now (ap (items_on (g.S.Store.chains c.args.store.now)) (ap (λ x. chain_on x c.args.name.now) found ∙ track)) ∙ now)

pub remove-requires : goal.remove-requires
remove-requires g c =
    let got : slice_get c.deref.result.now c.unwrap-place.result ≡ Some c.unwrap-object.result.serial = subst (λ x. IfSome x (λ i. slice_get c.deref.result.now i ≡ Some c.unwrap-object.result.serial)) c.unwrap-place.ensures c.place_of.ensures.place in
    let within : c.unwrap-place.result < length c.deref.result.now = slice_get_within c.deref.result.now c.unwrap-place.result c.unwrap-object.result.serial got in
    omega (arith, c.deref.ensures.len)

pub returns-clause-holds : goal.returns-clause-holds
returns-clause-holds g c =
    let found : shelf_of c.args.self.now c.args.purse.now ≡ Some c.unwrap-shelf.result.now = sym c.get_mut.ensures.value ∙ ap option_copied_mut c.unwrap-shelf.ensures in
    let track : chain_on (Some c.unwrap-shelf.result.now) c.args.name.now ≡ Some c.unwrap-track.result.chain = sym c.track.ensures ∙ ap (option_map (λ t. t.chain)) c.unwrap-track.ensures in
    let w : Shelf = record { tracks = c.unwrap-shelf.result.now.tracks; bound = c.remove.new.self } in
    let now : serial_now (items_of (g.S.Store.chains c.args.store.now) c.unwrap-track.result.chain) ≡ Some c.unwrap-object.result.serial = ap (option_map (λ o. o.serial)) (sym c.bound_object.ensures ∙ c.unwrap-object.ensures) in
    let got : slice_get c.deref.result.now c.unwrap-place.result ≡ Some c.unwrap-object.result.serial = subst (λ x. IfSome x (λ i. slice_get c.deref.result.now i ≡ Some c.unwrap-object.result.serial)) c.unwrap-place.ensures c.place_of.ensures.place in
    rebound-holds (g.S.Store.chains c.args.store.now) c.args.self.now (record { alloc = c.args.self.now.alloc; shelves = c.get_mut.follows.lender w; ends = c.put.new.self }) c.requires.holds c.args.purse.now c.args.name.now c.unwrap-shelf.result.now w
    found ((c.get_mut.follows.holds w).3 (ap is_some found)).0 refl c.unwrap-track.result.chain track (with_end c.args.moment) (g.S.Store.chains c.end.new.store) c.end.ensures.chains
    (λ test. unbound-counted test (items_of (g.S.Store.chains c.args.store.now) c.unwrap-track.result.chain) c.args.moment c.unwrap-object.result.serial c.unwrap-shelf.result.now.bound.items c.remove.new.self.items c.unwrap-place.result now (ap (λ xs. slice_get xs c.unwrap-place.result) (sym c.deref.ensures.value) ∙ got) c.remove.ensures.items)
    (subst (λ (o : Option ℕ). IsTimely (with_end c.args.moment (items_on (g.S.Store.chains c.args.store.now) o))) (ap (λ x. chain_on x c.args.name.now) found ∙ track)
    (timely_ended c.args.moment (bindings_in (g.S.Store.chains c.args.store.now) c.args.self.now c.args.purse.now c.args.name.now) c.requires.begun (c.requires.holds.timely c.args.purse.now c.args.name.now)))

pub returns-clause-names : goal.returns-clause-names
returns-clause-names g c =
    let found : shelf_of c.args.self.now c.args.purse.now ≡ Some c.unwrap-shelf.result.now = sym c.get_mut.ensures.value ∙ ap option_copied_mut c.unwrap-shelf.ensures in
    let track : chain_on (Some c.unwrap-shelf.result.now) c.args.name.now ≡ Some c.unwrap-track.result.chain = sym c.track.ensures ∙ ap (option_map (λ t. t.chain)) c.unwrap-track.ensures in
    let w : Shelf = record { tracks = c.unwrap-shelf.result.now.tracks; bound = c.remove.new.self } in
    rebound-same (g.S.Store.chains c.args.store.now) c.args.self.now (record { alloc = c.args.self.now.alloc; shelves = c.get_mut.follows.lender w; ends = c.put.new.self }) c.requires.holds c.args.purse.now c.args.name.now c.unwrap-shelf.result.now w
    found ((c.get_mut.follows.holds w).3 (ap is_some found)).0 refl c.unwrap-track.result.chain track (with_end c.args.moment) (g.S.Store.chains c.end.new.store) c.end.ensures.chains (ended-any c.args.moment (items_of (g.S.Store.chains c.args.store.now) c.unwrap-track.result.chain))

pub returns-clause-bindings : goal.returns-clause-bindings
returns-clause-bindings g c =
    let found : shelf_of c.args.self.now c.args.purse.now ≡ Some c.unwrap-shelf.result.now = sym c.get_mut.ensures.value ∙ ap option_copied_mut c.unwrap-shelf.ensures in
    let track : chain_on (Some c.unwrap-shelf.result.now) c.args.name.now ≡ Some c.unwrap-track.result.chain = sym c.track.ensures ∙ ap (option_map (λ t. t.chain)) c.unwrap-track.ensures in
    let w : Shelf = record { tracks = c.unwrap-shelf.result.now.tracks; bound = c.remove.new.self } in
    rebound-bindings (g.S.Store.chains c.args.store.now) c.args.self.now (record { alloc = c.args.self.now.alloc; shelves = c.get_mut.follows.lender w; ends = c.put.new.self }) c.requires.holds c.args.purse.now c.args.name.now c.unwrap-shelf.result.now w
    found ((c.get_mut.follows.holds w).3 (ap is_some found)).0 refl c.unwrap-track.result.chain track (with_end c.args.moment) (g.S.Store.chains c.end.new.store) c.end.ensures.chains

pub returns-clause-others : goal.returns-clause-others
returns-clause-others g c =
    let found : shelf_of c.args.self.now c.args.purse.now ≡ Some c.unwrap-shelf.result.now = sym c.get_mut.ensures.value ∙ ap option_copied_mut c.unwrap-shelf.ensures in
    let track : chain_on (Some c.unwrap-shelf.result.now) c.args.name.now ≡ Some c.unwrap-track.result.chain = sym c.track.ensures ∙ ap (option_map (λ t. t.chain)) c.unwrap-track.ensures in
    let w : Shelf = record { tracks = c.unwrap-shelf.result.now.tracks; bound = c.remove.new.self } in
    rebound-others (g.S.Store.chains c.args.store.now) c.args.self.now (record { alloc = c.args.self.now.alloc; shelves = c.get_mut.follows.lender w; ends = c.put.new.self }) c.requires.holds c.args.purse.now c.args.name.now c.unwrap-shelf.result.now w
    found ((c.get_mut.follows.holds w).3 (ap is_some found)).0 refl c.unwrap-track.result.chain track (with_end c.args.moment) (g.S.Store.chains c.end.new.store) c.end.ensures.chains

pub returns-clause-own : goal.returns-clause-own
returns-clause-own g c =
    let found : shelf_of c.args.self.now c.args.purse.now ≡ Some c.unwrap-shelf.result.now = sym c.get_mut.ensures.value ∙ ap option_copied_mut c.unwrap-shelf.ensures in
    let track : chain_on (Some c.unwrap-shelf.result.now) c.args.name.now ≡ Some c.unwrap-track.result.chain = sym c.track.ensures ∙ ap (option_map (λ t. t.chain)) c.unwrap-track.ensures in
    let w : Shelf = record { tracks = c.unwrap-shelf.result.now.tracks; bound = c.remove.new.self } in
    own (g.S.Store.chains c.args.store.now) c.args.self.now (record { alloc = c.args.self.now.alloc; shelves = c.get_mut.follows.lender w; ends = c.put.new.self }) c.requires.holds c.args.purse.now c.args.name.now c.unwrap-shelf.result.now w
    found ((c.get_mut.follows.holds w).3 (ap is_some found)).0 refl c.unwrap-track.result.chain track (with_end c.args.moment) (g.S.Store.chains c.end.new.store) c.end.ensures.chains

-- one name fewer is bound
fewer : (g : Over) (c : After-new g) → bound_in (record { alloc = c.args.self.now.alloc; shelves = c.get_mut.follows.lender (record { tracks = c.unwrap-shelf.result.now.tracks; bound = c.remove.new.self }); ends = c.args.self.now.ends }) + 1 ≡ bound_in c.args.self.now
fewer g c =
    let w : Shelf = record { tracks = c.unwrap-shelf.result.now.tracks; bound = c.remove.new.self } in
    let found : shelf_of c.args.self.now c.args.purse.now ≡ Some c.unwrap-shelf.result.now = sym c.get_mut.ensures.value ∙ ap option_copied_mut c.unwrap-shelf.ensures in
    let test = is_at (purse_cmp c.args.purse.now) in
    let one = bound-set test c.args.self.now.shelves.entries c.unwrap-shelf.result.now w found in
    let before : vec_len c.unwrap-shelf.result.now.bound ≡ length c.unwrap-shelf.result.now.bound.items = search rules in
    let after : vec_len c.remove.new.self ≡ length c.remove.new.self.items = search rules in
    let is : bound_on (c.get_mut.follows.lender w).entries ≡ bound_on (set_value test c.args.self.now.shelves.entries w) = ap bound_on (c.get_mut.follows.holds w).0 in
    let less = c.remove.ensures.len in
    omega arith

pub put-requires : goal.put-requires
put-requires g c =
    let one = fewer g (goal.at.put-requires g c).After-new in
    let all : bound_in c.args.self.now ≡ c.args.self.now.ends.awaited = c.requires.waits.awaited in
    omega arith

pub returns-clause-waits : goal.returns-clause-waits
returns-clause-waits g c =
    let w : Shelf = record { tracks = c.unwrap-shelf.result.now.tracks; bound = c.remove.new.self } in
    let after : Parts = record { alloc = c.args.self.now.alloc; shelves = c.get_mut.follows.lender w; ends = c.put.new.self } in
    let named : Ended = record { end = c.args.moment; purse = c.args.purse.now; name = c.args.name.now } in
    let new : c.new.result ≡ named = same-ended c.new.result named c.new.ensures.end c.new.ensures.purse c.new.ensures.name in
    waits-unbound c.requires.waits (g.S.Store.chains c.end.new.store) after c.args.purse.now c.args.name.now c.args.moment c.requires.bound c.requires.later (returns-clause-bindings g c)
    (c.put.ensures.ended ∙ ap (λ e. waiting_in c.args.self.now ++ e ∷ []) new) (fewer g (goal.at.returns-clause-waits g c).After-new) c.put.ensures.awaited

pub returns-clause-used : goal.returns-clause-used
returns-clause-used g c = unbound-used (g.S.Store.chains c.args.store.now) c.unwrap-track.result.chain c.args.moment c.end.ensures.chains

pub returns-clause-leaves : goal.returns-clause-leaves
returns-clause-leaves g c =
    let found : shelf_of c.args.self.now c.args.purse.now ≡ Some c.unwrap-shelf.result.now = sym c.get_mut.ensures.value ∙ ap option_copied_mut c.unwrap-shelf.ensures in
    let track : chain_on (Some c.unwrap-shelf.result.now) c.args.name.now ≡ Some c.unwrap-track.result.chain = sym c.track.ensures ∙ ap (option_map (λ t. t.chain)) c.unwrap-track.ensures in
    let w : Shelf = record { tracks = c.unwrap-shelf.result.now.tracks; bound = c.remove.new.self } in
    leaves-changed (g.S.Store.chains c.args.store.now) (g.S.Store.chains c.end.new.store) c.args.self.now (record { alloc = c.args.self.now.alloc; shelves = c.get_mut.follows.lender w; ends = c.put.new.self }) c.unwrap-track.result.chain _
    (c.requires.holds.opened c.args.purse.now c.args.name.now c.unwrap-track.result.chain (ap (λ x. chain_on x c.args.name.now) found ∙ track)) c.end.ensures.chains (returns-clause-own g c)

pub returns-clause-keeps_room : goal.returns-clause-keeps_room
returns-clause-keeps_room g c =
    let shelf : Shelf = c.unwrap-shelf.result.now in
    let found : shelf_of c.args.self.now c.args.purse.now ≡ Some shelf = sym c.get_mut.ensures.value ∙ ap option_copied_mut c.unwrap-shelf.ensures in
    let w : Shelf = record { tracks = shelf.tracks; bound = c.remove.new.self } in
    record {
      names = room-replaced c.args.self.now (record { alloc = c.args.self.now.alloc; shelves = c.get_mut.follows.lender w; ends = c.put.new.self }) c.args.purse.now shelf w found ((c.get_mut.follows.holds w).3 (ap is_some found)).0
          (omega (arith, c.remove.ensures.len, c.remove.ensures.capacity));
      ends = omega (arith, c.put.ensures.spare);
    }

pub returns-clause-rooms : goal.returns-clause-rooms
returns-clause-rooms g c p n has = room-kept (returns-clause-keeps_room g c) p n (ap is_some (returns-clause-own g c p n) ∙ has.chain) has
