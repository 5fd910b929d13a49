use Rattle.std.proofs.Common.{◌≡◌, ◌-◌, Some, sym, ◌∙◌, ap, arith, length}
use Rattle.std.specs.Prelude.{is_some}
use Rattle.std.specs.Option.{option_copied_mut}
use Rattle.std.specs.BTreeMap.{is_at}
use Rattle.std.specs.Map.{set_value}
use Rattle.s4_types.specs.Names.{purse_cmp}
use Rattle.s4_parts.specs.declared.shelf.Shelf.{Shelf}
use Rattle.s4_parts.specs.Table.{shelf_of, serials_spare}
use Rattle.s4_parts.specs.Waiting.{bound_on}
use Rattle.s4_parts.proofs.Totals.{bound-set}
use Rattle.s4_parts.proofs.Freeing.{freed-holds, freed-bindings, freed-names, freed-own, freed-empty, freed-others, freed-leaves}
use Rattle.s4_parts.proofs.Rooming.{room-replaced}
use Rattle.s4_parts.proofs.parts.Parts.free.Goals as goal

pub returns-clause-holds : goal.returns-clause-holds
returns-clause-holds g c =
    let found : shelf_of c.args.self.now c.args.purse.now ≡ Some c.unwrap-shelf.result.now = sym c.get_mut.ensures.value ∙ ap option_copied_mut c.unwrap-shelf.ensures in
    freed-holds (g.S.Store.chains c.args.store.now) (g.S.Store.chains c.free.new.store) c.args.self.now (record { alloc = c.args.self.now.alloc; shelves = c.get_mut.follows.lender c.free.new.self; ends = c.args.self.now.ends }) c.requires.holds
    c.args.purse.now c.args.name.now c.unwrap-shelf.result.now c.free.new.self found ((c.get_mut.follows.holds c.free.new.self).3 (ap is_some found)).0 c.free.ensures.frees c.requires.ended

pub returns-clause-bindings : goal.returns-clause-bindings
returns-clause-bindings g c =
    let found : shelf_of c.args.self.now c.args.purse.now ≡ Some c.unwrap-shelf.result.now = sym c.get_mut.ensures.value ∙ ap option_copied_mut c.unwrap-shelf.ensures in
    freed-bindings (g.S.Store.chains c.args.store.now) (g.S.Store.chains c.free.new.store) c.args.self.now (record { alloc = c.args.self.now.alloc; shelves = c.get_mut.follows.lender c.free.new.self; ends = c.args.self.now.ends }) c.requires.holds
    c.args.purse.now c.args.name.now c.unwrap-shelf.result.now c.free.new.self found ((c.get_mut.follows.holds c.free.new.self).3 (ap is_some found)).0 c.free.ensures.frees c.requires.ended

pub returns-clause-names : goal.returns-clause-names
returns-clause-names g c =
    let found : shelf_of c.args.self.now c.args.purse.now ≡ Some c.unwrap-shelf.result.now = sym c.get_mut.ensures.value ∙ ap option_copied_mut c.unwrap-shelf.ensures in
    freed-names (g.S.Store.chains c.args.store.now) (g.S.Store.chains c.free.new.store) c.args.self.now (record { alloc = c.args.self.now.alloc; shelves = c.get_mut.follows.lender c.free.new.self; ends = c.args.self.now.ends }) c.requires.holds
    c.args.purse.now c.args.name.now c.unwrap-shelf.result.now c.free.new.self found ((c.get_mut.follows.holds c.free.new.self).3 (ap is_some found)).0 c.free.ensures.frees c.requires.ended

pub returns-clause-own : goal.returns-clause-own
returns-clause-own g c =
    let found : shelf_of c.args.self.now c.args.purse.now ≡ Some c.unwrap-shelf.result.now = sym c.get_mut.ensures.value ∙ ap option_copied_mut c.unwrap-shelf.ensures in
    freed-own (g.S.Store.chains c.args.store.now) (g.S.Store.chains c.free.new.store) c.args.self.now (record { alloc = c.args.self.now.alloc; shelves = c.get_mut.follows.lender c.free.new.self; ends = c.args.self.now.ends }) c.requires.holds
    c.args.purse.now c.args.name.now c.unwrap-shelf.result.now c.free.new.self found ((c.get_mut.follows.holds c.free.new.self).3 (ap is_some found)).0 c.free.ensures.frees c.requires.ended

pub returns-clause-given_up : goal.returns-clause-given_up
returns-clause-given_up g c =
    let found : shelf_of c.args.self.now c.args.purse.now ≡ Some c.unwrap-shelf.result.now = sym c.get_mut.ensures.value ∙ ap option_copied_mut c.unwrap-shelf.ensures in
    freed-empty (g.S.Store.chains c.args.store.now) (g.S.Store.chains c.free.new.store) c.args.self.now (record { alloc = c.args.self.now.alloc; shelves = c.get_mut.follows.lender c.free.new.self; ends = c.args.self.now.ends }) c.requires.holds
    c.args.purse.now c.args.name.now c.unwrap-shelf.result.now c.free.new.self found ((c.get_mut.follows.holds c.free.new.self).3 (ap is_some found)).0 c.free.ensures.frees c.requires.ended

pub returns-clause-others : goal.returns-clause-others
returns-clause-others g c =
    let found : shelf_of c.args.self.now c.args.purse.now ≡ Some c.unwrap-shelf.result.now = sym c.get_mut.ensures.value ∙ ap option_copied_mut c.unwrap-shelf.ensures in
    freed-others (g.S.Store.chains c.args.store.now) (g.S.Store.chains c.free.new.store) c.args.self.now (record { alloc = c.args.self.now.alloc; shelves = c.get_mut.follows.lender c.free.new.self; ends = c.args.self.now.ends }) c.requires.holds
    c.args.purse.now c.args.name.now c.unwrap-shelf.result.now c.free.new.self found ((c.get_mut.follows.holds c.free.new.self).3 (ap is_some found)).0 c.free.ensures.frees c.requires.ended

pub returns-clause-bound : goal.returns-clause-bound
returns-clause-bound g c =
    let found : shelf_of c.args.self.now c.args.purse.now ≡ Some c.unwrap-shelf.result.now = sym c.get_mut.ensures.value ∙ ap option_copied_mut c.unwrap-shelf.ensures in
    let w : Shelf = c.free.new.self in
    let test = is_at (purse_cmp c.args.purse.now) in
    let one = bound-set test c.args.self.now.shelves.entries c.unwrap-shelf.result.now w found in
    let same : length w.bound.items ≡ length c.unwrap-shelf.result.now.bound.items = ap length c.free.ensures.frees.serials in
    let is : bound_on (c.get_mut.follows.lender w).entries ≡ bound_on (set_value test c.args.self.now.shelves.entries w) = ap bound_on (c.get_mut.follows.holds w).0 in
    omega arith

pub returns-clause-leaves : goal.returns-clause-leaves
returns-clause-leaves g c =
    let found : shelf_of c.args.self.now c.args.purse.now ≡ Some c.unwrap-shelf.result.now = sym c.get_mut.ensures.value ∙ ap option_copied_mut c.unwrap-shelf.ensures in
    freed-leaves (g.S.Store.chains c.args.store.now) (g.S.Store.chains c.free.new.store) c.args.self.now (record { alloc = c.args.self.now.alloc; shelves = c.get_mut.follows.lender c.free.new.self; ends = c.args.self.now.ends }) c.requires.holds
    c.args.purse.now c.args.name.now c.unwrap-shelf.result.now c.free.new.self found ((c.get_mut.follows.holds c.free.new.self).3 (ap is_some found)).0 c.free.ensures.frees c.requires.ended

pub returns-clause-keeps_room : goal.returns-clause-keeps_room
returns-clause-keeps_room g c =
    let shelf : Shelf = c.unwrap-shelf.result.now in
    let w : Shelf = c.free.new.self in
    let found : shelf_of c.args.self.now c.args.purse.now ≡ Some shelf = sym c.get_mut.ensures.value ∙ ap option_copied_mut c.unwrap-shelf.ensures in
    let same : serials_spare (Some w) ≡ serials_spare (Some shelf) = ap (λ b. Rattle.std.specs.Vec.vec_capacity b - Rattle.std.specs.Vec.vec_len b) c.free.ensures.bound in
    record {
      names = room-replaced c.args.self.now (record { alloc = c.args.self.now.alloc; shelves = c.get_mut.follows.lender w; ends = c.args.self.now.ends }) c.args.purse.now shelf w found ((c.get_mut.follows.holds w).3 (ap is_some found)).0 (omega (arith, same));
      ends = omega arith;
    }
