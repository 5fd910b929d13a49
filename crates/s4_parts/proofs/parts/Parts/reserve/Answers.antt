use Rattle.std.proofs.Common.{subst, ◌<◌, ◌≤◌, ◌≡◌, Some, sym, ◌∙◌, ap, length, arith}
use Rattle.std.specs.Prelude.{is_some, OnOk, OnErr, Result, Ok, Err}
use Rattle.std.specs.Option.{option_copied_mut}
use Rattle.s4_parts.specs.declared.parts.Parts.{Parts}
use Rattle.s4_parts.specs.Table.{shelf_of, chain_at, chain_on, names_on, serials_on, serials_spare}
use Rattle.s4_parts.proofs.Reserving.{reserved-holds, reserved-names, reserved-bindings, reserved-items, reserved-still, reserved-own, reserved-room, reserved-used, reserved-leaves, reserved-asked, reserved-chain, reserved-none}
use Rattle.std.specs.BTreeMap.{is_at}
use Rattle.std.specs.Map.{set_value}
use Rattle.s4_types.specs.Names.{purse_cmp}
use Rattle.s4_parts.specs.declared.shelf.Shelf.{Shelf}
use Rattle.s4_parts.specs.Ends.{Queue}
use Rattle.s4_parts.specs.Waiting.{bound_on, bound_in}
use Rattle.s4_parts.proofs.Totals.{bound-set}
use Rattle.s4_parts.proofs.Awaiting.{waits-kept}
use Rattle.s4_parts.proofs.Rebinding.{moved}
use Rattle.s4_parts.proofs.Rooming.{names-of, room-kept, room-replaced}
use Rattle.s4_parts.proofs.parts.Parts.reserve.Goals as goal

on-err : {A E P Q : Type 0} (r : Result A E) → (P → Q) → OnErr r P → OnErr r Q
on-err (Ok x) f p = _
on-err (Err e) f p = f p

both-ok : {A E P Q R : Type 0} (r : Result A E) → (P → Q → R) → OnOk r P → OnOk r Q → OnOk r R
both-ok (Ok x) f p q = f p q
both-ok (Err e) f p q = _

pub reserve-requires : goal.reserve-requires
reserve-requires g c d n got =
    let found : shelf_of c.shelve.new.self c.args.purse.now ≡ Some c.unwrap-shelf.result.now = sym c.get_mut.ensures.value ∙ ap option_copied_mut c.unwrap-shelf.ensures in
    c.requires.holds.opened c.args.purse.now n d (sym (c.in_ok-shelve.ensures.chains c.args.purse.now n) ∙ ap (λ x. chain_on x n) found ∙ got)

pub returns-clause-holds : goal.returns-clause-holds
returns-clause-holds g c =
    let found : shelf_of c.shelve.new.self c.args.purse.now ≡ Some c.unwrap-shelf.result.now = sym c.get_mut.ensures.value ∙ ap option_copied_mut c.unwrap-shelf.ensures in
    reserved-holds (g.S.Store.chains c.args.store.now) (g.S.Store.chains c.reserve.new.store) c.args.self.now c.shelve.new.self (record { alloc = c.shelve.new.self.alloc; shelves = c.get_mut.follows.lender c.reserve.new.self; ends = c.shelve.new.self.ends }) c.requires.holds
    c.in_ok-shelve.ensures.chains c.in_ok-shelve.ensures.names c.in_ok-shelve.ensures.serials c.args.purse.now c.args.name.now c.unwrap-shelf.result.now c.reserve.new.self
    found ((c.get_mut.follows.holds c.reserve.new.self).3 (ap is_some found)).0 c.reserve.ensures.grows

pub returns-clause-names : goal.returns-clause-names
returns-clause-names g c =
    let found : shelf_of c.shelve.new.self c.args.purse.now ≡ Some c.unwrap-shelf.result.now = sym c.get_mut.ensures.value ∙ ap option_copied_mut c.unwrap-shelf.ensures in
    reserved-names (g.S.Store.chains c.args.store.now) (g.S.Store.chains c.reserve.new.store) c.args.self.now c.shelve.new.self (record { alloc = c.shelve.new.self.alloc; shelves = c.get_mut.follows.lender c.reserve.new.self; ends = c.shelve.new.self.ends }) c.requires.holds
    c.in_ok-shelve.ensures.chains c.in_ok-shelve.ensures.names c.in_ok-shelve.ensures.serials c.args.purse.now c.args.name.now c.unwrap-shelf.result.now c.reserve.new.self
    found ((c.get_mut.follows.holds c.reserve.new.self).3 (ap is_some found)).0 c.reserve.ensures.grows

pub returns-clause-bindings : goal.returns-clause-bindings
returns-clause-bindings g c =
    let found : shelf_of c.shelve.new.self c.args.purse.now ≡ Some c.unwrap-shelf.result.now = sym c.get_mut.ensures.value ∙ ap option_copied_mut c.unwrap-shelf.ensures in
    reserved-bindings (g.S.Store.chains c.args.store.now) (g.S.Store.chains c.reserve.new.store) c.args.self.now c.shelve.new.self (record { alloc = c.shelve.new.self.alloc; shelves = c.get_mut.follows.lender c.reserve.new.self; ends = c.shelve.new.self.ends }) c.requires.holds
    c.in_ok-shelve.ensures.chains c.in_ok-shelve.ensures.names c.in_ok-shelve.ensures.serials c.args.purse.now c.args.name.now c.unwrap-shelf.result.now c.reserve.new.self
    found ((c.get_mut.follows.holds c.reserve.new.self).3 (ap is_some found)).0 c.reserve.ensures.grows

pub returns-clause-others : goal.returns-clause-others
returns-clause-others g c =
    let found : shelf_of c.shelve.new.self c.args.purse.now ≡ Some c.unwrap-shelf.result.now = sym c.get_mut.ensures.value ∙ ap option_copied_mut c.unwrap-shelf.ensures in
    reserved-items (g.S.Store.chains c.args.store.now) (g.S.Store.chains c.reserve.new.store) c.args.self.now c.shelve.new.self (record { alloc = c.shelve.new.self.alloc; shelves = c.get_mut.follows.lender c.reserve.new.self; ends = c.shelve.new.self.ends }) c.requires.holds
    c.in_ok-shelve.ensures.chains c.in_ok-shelve.ensures.names c.in_ok-shelve.ensures.serials c.args.purse.now c.args.name.now c.unwrap-shelf.result.now c.reserve.new.self
    found ((c.get_mut.follows.holds c.reserve.new.self).3 (ap is_some found)).0 c.reserve.ensures.grows

pub returns-clause-still : goal.returns-clause-still
returns-clause-still g c =
    let found : shelf_of c.shelve.new.self c.args.purse.now ≡ Some c.unwrap-shelf.result.now = sym c.get_mut.ensures.value ∙ ap option_copied_mut c.unwrap-shelf.ensures in
    reserved-still (g.S.Store.chains c.args.store.now) (g.S.Store.chains c.reserve.new.store) c.args.self.now c.shelve.new.self (record { alloc = c.shelve.new.self.alloc; shelves = c.get_mut.follows.lender c.reserve.new.self; ends = c.shelve.new.self.ends }) c.requires.holds
    c.in_ok-shelve.ensures.chains c.in_ok-shelve.ensures.names c.in_ok-shelve.ensures.serials c.args.purse.now c.args.name.now c.unwrap-shelf.result.now c.reserve.new.self
    found ((c.get_mut.follows.holds c.reserve.new.self).3 (ap is_some found)).0 c.reserve.ensures.grows

pub returns-clause-own : goal.returns-clause-own
returns-clause-own g c =
    let found : shelf_of c.shelve.new.self c.args.purse.now ≡ Some c.unwrap-shelf.result.now = sym c.get_mut.ensures.value ∙ ap option_copied_mut c.unwrap-shelf.ensures in
    reserved-own (g.S.Store.chains c.args.store.now) (g.S.Store.chains c.reserve.new.store) c.args.self.now c.shelve.new.self (record { alloc = c.shelve.new.self.alloc; shelves = c.get_mut.follows.lender c.reserve.new.self; ends = c.shelve.new.self.ends }) c.requires.holds
    c.in_ok-shelve.ensures.chains c.in_ok-shelve.ensures.names c.in_ok-shelve.ensures.serials c.args.purse.now c.args.name.now c.unwrap-shelf.result.now c.reserve.new.self
    found ((c.get_mut.follows.holds c.reserve.new.self).3 (ap is_some found)).0 c.reserve.ensures.grows

pub returns-clause-room : goal.returns-clause-room
returns-clause-room g c =
    let found : shelf_of c.shelve.new.self c.args.purse.now ≡ Some c.unwrap-shelf.result.now = sym c.get_mut.ensures.value ∙ ap option_copied_mut c.unwrap-shelf.ensures in
    both-ok c.reserve.result (reserved-room (g.S.Store.chains c.args.store.now) (g.S.Store.chains c.reserve.new.store) c.args.self.now c.shelve.new.self (record { alloc = c.shelve.new.self.alloc; shelves = c.get_mut.follows.lender c.reserve.new.self; ends = c.shelve.new.self.ends }) c.requires.holds
    c.in_ok-shelve.ensures.chains c.in_ok-shelve.ensures.names c.in_ok-shelve.ensures.serials c.args.purse.now c.args.name.now c.unwrap-shelf.result.now c.reserve.new.self
    found ((c.get_mut.follows.holds c.reserve.new.self).3 (ap is_some found)).0 c.reserve.ensures.grows (subst (λ (e : Queue). 0 < e.spare) (sym c.in_ok-shelve.ensures.ends) c.in_ok-make_room.ensures.ok)) c.reserve.ensures.chain c.reserve.ensures.serials

pub returns-clause-waits : goal.returns-clause-waits
returns-clause-waits g c =
    let w : Shelf = c.reserve.new.self in
    let found : shelf_of c.shelve.new.self c.args.purse.now ≡ Some c.unwrap-shelf.result.now = sym c.get_mut.ensures.value ∙ ap option_copied_mut c.unwrap-shelf.ensures in
    let after : Parts = record { alloc = c.shelve.new.self.alloc; shelves = c.get_mut.follows.lender w; ends = c.shelve.new.self.ends } in
    let one = bound-set (is_at (purse_cmp c.args.purse.now)) c.shelve.new.self.shelves.entries c.unwrap-shelf.result.now w found in
    let same : length w.bound.items ≡ length c.unwrap-shelf.result.now.bound.items = ap length c.reserve.ensures.grows.serials in
    let is : bound_in after ≡ bound_on (set_value (is_at (purse_cmp c.args.purse.now)) c.shelve.new.self.shelves.entries w) = ap bound_on (c.get_mut.follows.holds w).0 in
    let mid : bound_in c.shelve.new.self ≡ bound_in c.args.self.now = c.in_ok-shelve.ensures.bound in
    waits-kept c.requires.waits (g.S.Store.chains c.reserve.new.store) after (returns-clause-bindings g c)
    (ap (λ e. e.ended) c.in_ok-shelve.ensures.ends ∙ c.in_ok-make_room.ensures.ended) (omega arith) (ap (λ e. e.awaited) c.in_ok-shelve.ensures.ends ∙ c.in_ok-make_room.ensures.awaited)

pub returns-clause-used : goal.returns-clause-used
returns-clause-used g c = reserved-used c.reserve.ensures.grows

pub returns-in_err-shelve-clause-holds : goal.returns-in_err-shelve-clause-holds
returns-in_err-shelve-clause-holds g c =
    moved (g.S.Store.chains c.args.store.now) (chain_at c.args.self.now) (chain_at c.shelve.new.self) (λ p. names_on (shelf_of c.args.self.now p)) (λ p. names_on (shelf_of c.shelve.new.self p))
    (λ p. serials_on (shelf_of c.args.self.now p)) (λ p. serials_on (shelf_of c.shelve.new.self p)) c.in_err-shelve.ensures.chains c.in_err-shelve.ensures.names c.in_err-shelve.ensures.serials c.requires.holds

-- the queue of ends has the room that it had, and more
ends-grown : (a b c : Queue) → a.spare ≤ b.spare → c ≡ b → a.spare ≤ c.spare
ends-grown a b c more same = subst (λ (q : Queue). a.spare ≤ q.spare) (sym same) more

pub returns-in_err-shelve-clause-rooms : goal.returns-in_err-shelve-clause-rooms
returns-in_err-shelve-clause-rooms g c p n has =
    room-kept (record { names = c.in_err-shelve.ensures.room; ends = ends-grown c.args.self.now.ends c.make_room.new.self c.shelve.new.self.ends c.in_ok-make_room.ensures.grown c.in_err-shelve.ensures.ends })
    p n (ap is_some (c.in_err-shelve.ensures.chains p n) ∙ has.chain) has

pub returns-clause-keeps_room : goal.returns-clause-keeps_room
returns-clause-keeps_room g c =
    let found : shelf_of c.shelve.new.self c.args.purse.now ≡ Some c.unwrap-shelf.result.now = sym c.get_mut.ensures.value ∙ ap option_copied_mut c.unwrap-shelf.ensures in
    let after : Parts = record { alloc = c.shelve.new.self.alloc; shelves = c.get_mut.follows.lender c.reserve.new.self; ends = c.shelve.new.self.ends } in
    record {
      names = λ p. omega (
        arith,
        c.in_ok-shelve.ensures.room p,
        room-replaced c.shelve.new.self after c.args.purse.now c.unwrap-shelf.result.now c.reserve.new.self found ((c.get_mut.follows.holds c.reserve.new.self).3 (ap is_some found)).0 c.reserve.ensures.spare p,
      );
      ends = ends-grown c.args.self.now.ends c.make_room.new.self c.shelve.new.self.ends c.in_ok-make_room.ensures.grown c.in_ok-shelve.ensures.ends;
    }

pub returns-clause-asked : goal.returns-clause-asked
returns-clause-asked g c =
    let found : shelf_of c.shelve.new.self c.args.purse.now ≡ Some c.unwrap-shelf.result.now = sym c.get_mut.ensures.value ∙ ap option_copied_mut c.unwrap-shelf.ensures in
    reserved-asked (g.S.Store.chains c.args.store.now) (g.S.Store.chains c.reserve.new.store) c.args.self.now c.shelve.new.self (record { alloc = c.shelve.new.self.alloc; shelves = c.get_mut.follows.lender c.reserve.new.self; ends = c.shelve.new.self.ends }) c.requires.holds
    c.in_ok-shelve.ensures.chains c.in_ok-shelve.ensures.names c.in_ok-shelve.ensures.serials c.args.purse.now c.args.name.now c.unwrap-shelf.result.now c.reserve.new.self
    found ((c.get_mut.follows.holds c.reserve.new.self).3 (ap is_some found)).0 c.reserve.ensures.grows

pub returns-clause-refused : goal.returns-clause-refused
returns-clause-refused g c =
    let found : shelf_of c.shelve.new.self c.args.purse.now ≡ Some c.unwrap-shelf.result.now = sym c.get_mut.ensures.value ∙ ap option_copied_mut c.unwrap-shelf.ensures in
    on-err c.reserve.result (reserved-none (g.S.Store.chains c.args.store.now) (g.S.Store.chains c.reserve.new.store) c.args.self.now c.shelve.new.self (record { alloc = c.shelve.new.self.alloc; shelves = c.get_mut.follows.lender c.reserve.new.self; ends = c.shelve.new.self.ends }) c.requires.holds
    c.in_ok-shelve.ensures.chains c.in_ok-shelve.ensures.names c.in_ok-shelve.ensures.serials c.args.purse.now c.args.name.now c.unwrap-shelf.result.now c.reserve.new.self
    found ((c.get_mut.follows.holds c.reserve.new.self).3 (ap is_some found)).0 c.reserve.ensures.grows) c.reserve.ensures.refused

pub returns-clause-leaves : goal.returns-clause-leaves
returns-clause-leaves g c =
    let found : shelf_of c.shelve.new.self c.args.purse.now ≡ Some c.unwrap-shelf.result.now = sym c.get_mut.ensures.value ∙ ap option_copied_mut c.unwrap-shelf.ensures in
    reserved-leaves (g.S.Store.chains c.args.store.now) (g.S.Store.chains c.reserve.new.store) c.args.self.now c.shelve.new.self (record { alloc = c.shelve.new.self.alloc; shelves = c.get_mut.follows.lender c.reserve.new.self; ends = c.shelve.new.self.ends }) c.requires.holds
    c.in_ok-shelve.ensures.chains c.in_ok-shelve.ensures.names c.in_ok-shelve.ensures.serials c.args.purse.now c.args.name.now c.unwrap-shelf.result.now c.reserve.new.self
    found ((c.get_mut.follows.holds c.reserve.new.self).3 (ap is_some found)).0 c.reserve.ensures.grows

pub returns-clause-rooms : goal.returns-clause-rooms
returns-clause-rooms g c p n has =
    let found : shelf_of c.shelve.new.self c.args.purse.now ≡ Some c.unwrap-shelf.result.now = sym c.get_mut.ensures.value ∙ ap option_copied_mut c.unwrap-shelf.ensures in
    room-kept (returns-clause-keeps_room g c) p n (reserved-chain (g.S.Store.chains c.args.store.now) (g.S.Store.chains c.reserve.new.store) c.args.self.now c.shelve.new.self (record { alloc = c.shelve.new.self.alloc; shelves = c.get_mut.follows.lender c.reserve.new.self; ends = c.shelve.new.self.ends }) c.requires.holds
    c.in_ok-shelve.ensures.chains c.in_ok-shelve.ensures.names c.in_ok-shelve.ensures.serials c.args.purse.now c.args.name.now c.unwrap-shelf.result.now c.reserve.new.self
    found ((c.get_mut.follows.holds c.reserve.new.self).3 (ap is_some found)).0 c.reserve.ensures.grows p n has.chain) has

pub returns-clause-there : goal.returns-clause-there
returns-clause-there g c has =
    let found : shelf_of c.shelve.new.self c.args.purse.now ≡ Some c.unwrap-shelf.result.now = sym c.get_mut.ensures.value ∙ ap option_copied_mut c.unwrap-shelf.ensures in
    c.reserve.ensures.there
    (ap (λ x. is_some (chain_on x c.args.name.now)) (sym found) ∙ ap is_some (c.in_ok-shelve.ensures.chains c.args.purse.now c.args.name.now) ∙ has.chain)
    (subst (λ x. 0 < serials_spare x) found (omega (arith, names-of has, c.in_ok-shelve.ensures.room c.args.purse.now)))
