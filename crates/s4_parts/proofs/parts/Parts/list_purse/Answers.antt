use Rattle.std.proofs.Common.{Option, ℕ}
use Rattle.std.proofs.Common.{◌≡◌, ◌+◌, ◌≤◌, Some, [], ◌∷◌, ◌++◌, refl, sym, ◌∙◌, ap, subst, arith, take, length, filter_map, vec_len, rules}
use Rattle.std.specs.List.{All, cons_option}
use Rattle.std.specs.Option.{option_map}
use Rattle.std.proofs.lemmas.List.Elements.{All-head, All-tail}
use Rattle.s4_parts.specs.Table.{shelf_of, chain_at, chain_on, items_on, IsTimely}
use Rattle.s4_parts.proofs.Listing.{line_at, none-listed, none-after, listed, take-full, take-few}
use Rattle.std.proofs.lemmas.List.{append_assoc, length-append}
use Rattle.std.specs.Range.Bound.{bound_map}
use Rattle.std.specs.BTreeMap.{get}
use Rattle.s4_types.specs.Name.{name_cmp}
use Rattle.s4_parts.specs.Page.{lines_in}
use Rattle.s4_parts.proofs.parts.Parts.list_purse.Given.{Over}
use Rattle.s4_parts.proofs.parts.Parts.list_purse.Goals as goal
use Rattle.s4_parts.proofs.parts.Parts.list_purse.Goals.{After-into_iter-name-iterator}

pub returns-in_default-clause-lines : goal.returns-in_default-clause-lines
returns-in_default-clause-lines g c =
    let none = none-listed (g.S.Store.chains c.args.store.now) c.args.self.now (g.V.Visible.shown c.args.visible.now) c.args.purse.now c.args.after.now c.args.at.now (sym c.in_default.ensures.value) in
    sym (ap (λ xs. take 65 (c.args.lines.now.items ++ xs)) none ∙ take-few 65 c.args.lines.now.items c.requires.fits)

pub returns-in_default-start_of-clause-lines : goal.returns-in_default-start_of-clause-lines
returns-in_default-start_of-clause-lines g c =
    let none = none-after (g.S.Store.chains c.args.store.now) c.args.self.now (g.V.Visible.shown c.args.visible.now) c.args.purse.now c.args.after.now c.args.at.now c.in_default-start_of.ensures.none in
    sym (ap (λ xs. take 65 (c.args.lines.now.items ++ xs)) none ∙ take-few 65 c.args.lines.now.items c.requires.fits)

pub loop-name-init : goal.loop-name-init
loop-name-init g c =
    let found : shelf_of c.args.self.now c.args.purse.now ≡ Some c.in-Some.shelf.now = sym c.in-Some.ensures.value in
    record {
      fits = c.requires.fits;
      room = c.requires.room;
      rest = refl;
      mapped = subst (All (λ e. chain_at c.args.self.now c.args.purse.now e.0 ≡ Some e.1.chain)) (sym c.into_iter-name-iterator.ensures.into_iter_gives)
          (λ k d l. ap (λ s. chain_on s (Rattle.std.specs.Prelude.slice_index_or c.range-name-items.result k d).0) found ∙ ap (option_map (λ t. t.chain)) ((c.range-name-items.ensures.in_range _).0 k d l).1);
    }

pub line_of-requires-clause-open : goal.line_of-requires-clause-open
line_of-requires-clause-open g c =
    c.requires.holds.opened c.args.purse.now c.in-Some-2.name.now c.in-Some-2.track.now.chain
    (All-head (λ e. chain_at c.args.self.now c.args.purse.now e.0 ≡ Some e.1.chain) (c.in-Some-2.name.now, c.in-Some-2.track.now) c.next.new.self
    (subst (All (λ e. chain_at c.args.self.now c.args.purse.now e.0 ≡ Some e.1.chain)) c.in-Some-2.ensures.steps c.loop-name.invariant.mapped))

pub line_of-requires-clause-order : goal.line_of-requires-clause-order
line_of-requires-clause-order g c =
    let at : chain_at c.args.self.now c.args.purse.now c.in-Some-2.name.now ≡ Some c.in-Some-2.track.now.chain =
    All-head (λ e. chain_at c.args.self.now c.args.purse.now e.0 ≡ Some e.1.chain) (c.in-Some-2.name.now, c.in-Some-2.track.now) c.next.new.self
    (subst (All (λ e. chain_at c.args.self.now c.args.purse.now e.0 ≡ Some e.1.chain)) c.in-Some-2.ensures.steps c.loop-name.invariant.mapped) in
    (subst (λ (o : Option ℕ). IsTimely (items_on (g.S.Store.chains c.args.store.now) o)) at (c.requires.holds.timely c.args.purse.now c.in-Some-2.name.now)).order

pub push_reserved-requires : goal.push_reserved-requires
push_reserved-requires g c =
    let len : vec_len c.loop-name.lines ≡ length c.loop-name.lines.items = search rules in
    let few : length c.loop-name.lines.items ≤ 65 = c.loop-name.invariant.fits in
    omega (arith, c.if-len-eq65.false, c.loop-name.invariant.room, c.len.ensures)

pub loop-name-preserved-in-Some-line_of : goal.loop-name-preserved-in-Some-line_of
loop-name-preserved-in-Some-line_of g c =
    let line = line_at (g.S.Store.chains c.args.store.now) (g.V.Visible.shown c.args.visible.now) c.args.at.now in
    let len : vec_len c.loop-name.lines ≡ length c.loop-name.lines.items = search rules in
    let few : length c.loop-name.lines.items ≤ 65 = c.loop-name.invariant.fits in
    let more : length c.push_reserved.new.self.items ≡ length c.loop-name.lines.items + 1 = ap length c.push_reserved.ensures.items ∙ length-append c.loop-name.lines.items (c.in-Some-line_of.line ∷ []) in
    let is : filter_map line c.loop-name.name-iterator ≡ c.in-Some-line_of.line ∷ filter_map line c.next.new.self =
    ap (filter_map line) c.in-Some-2.ensures.steps ∙ ap (λ o. cons_option o (filter_map line c.next.new.self)) (sym c.in-Some-line_of.ensures) in
    record {
      fits = omega (arith, c.if-len-eq65.false, c.len.ensures);
      room = omega (arith, c.push_reserved.ensures.capacity, c.loop-name.invariant.room);
      rest = ap (λ xs. take 65 (xs ++ filter_map line c.next.new.self)) c.push_reserved.ensures.items
          ∙ ap (take 65) (append_assoc c.loop-name.lines.items (c.in-Some-line_of.line ∷ []) (filter_map line c.next.new.self))
          ∙ ap (λ xs. take 65 (c.loop-name.lines.items ++ xs)) (sym is) ∙ c.loop-name.invariant.rest;
      mapped = All-tail (λ e. chain_at c.args.self.now c.args.purse.now e.0 ≡ Some e.1.chain) (c.in-Some-2.name.now, c.in-Some-2.track.now) c.next.new.self
          (subst (All (λ e. chain_at c.args.self.now c.args.purse.now e.0 ≡ Some e.1.chain)) c.in-Some-2.ensures.steps c.loop-name.invariant.mapped);
    }

pub loop-name-preserved : goal.loop-name-preserved
loop-name-preserved g c =
    let line = line_at (g.S.Store.chains c.args.store.now) (g.V.Visible.shown c.args.visible.now) c.args.at.now in
    let is : filter_map line c.loop-name.name-iterator ≡ filter_map line c.next.new.self =
    ap (filter_map line) c.in-Some-2.ensures.steps ∙ ap (λ o. cons_option o (filter_map line c.next.new.self)) (sym c.in_default-line_of.ensures) in
    record {
      fits = c.loop-name.invariant.fits;
      room = c.loop-name.invariant.room;
      rest = ap (λ xs. take 65 (c.loop-name.lines.items ++ xs)) (sym is) ∙ c.loop-name.invariant.rest;
      mapped = All-tail (λ e. chain_at c.args.self.now c.args.purse.now e.0 ≡ Some e.1.chain) (c.in-Some-2.name.now, c.in-Some-2.track.now) c.next.new.self
          (subst (All (λ e. chain_at c.args.self.now c.args.purse.now e.0 ≡ Some e.1.chain)) c.in-Some-2.ensures.steps c.loop-name.invariant.mapped);
    }

-- all names that come after the place
listed-all : (g : Over) (c : After-into_iter-name-iterator g) → filter_map (line_at (g.S.Store.chains c.args.store.now) (g.V.Visible.shown c.args.visible.now) c.args.at.now) c.into_iter-name-iterator.result
    ≡ lines_in (g.S.Store.chains c.args.store.now) c.args.self.now (g.V.Visible.shown c.args.visible.now) c.args.purse.now.creator c.args.after.now c.args.at.now c.args.purse.now.number
listed-all g c =
    listed (g.S.Store.chains c.args.store.now) c.args.self.now (g.V.Visible.shown c.args.visible.now) c.args.purse.now c.args.after.now c.args.at.now c.in-Some.shelf.now (sym c.in-Some.ensures.value)
    (bound_map (λ x. x.now) c.in-Some-start_of.start) c.in-Some-start_of.ensures.some c.into_iter-name-iterator.result
    (c.into_iter-name-iterator.ensures.into_iter_gives ∙ c.range-name-items.ensures.between _)
    (subst (All (λ e. get name_cmp c.in-Some.shelf.now.tracks e.0 ≡ Some e.1)) (sym c.into_iter-name-iterator.ensures.into_iter_gives) (λ k d l. ((c.range-name-items.ensures.in_range _).0 k d l).1))

pub returns-then-len-eq65-clause-lines : goal.returns-then-len-eq65-clause-lines
returns-then-len-eq65-clause-lines g c =
    let line = line_at (g.S.Store.chains c.args.store.now) (g.V.Visible.shown c.args.visible.now) c.args.at.now in
    let len : vec_len c.loop-name.lines ≡ length c.loop-name.lines.items = search rules in
    let full : length c.loop-name.lines.items ≡ 65 = omega (arith, c.if-len-eq65.true, c.len.ensures) in
    sym (take-full 65 c.loop-name.lines.items (filter_map line c.loop-name.name-iterator) full) ∙ c.loop-name.invariant.rest
    ∙ ap (λ xs. take 65 (c.args.lines.now.items ++ xs)) (listed-all g (goal.at.returns-then-len-eq65-clause-lines g c).After-into_iter-name-iterator)

pub returns-clause-lines : goal.returns-clause-lines
returns-clause-lines g c =
    let line = line_at (g.S.Store.chains c.args.store.now) (g.V.Visible.shown c.args.visible.now) c.args.at.now in
    sym (take-few 65 c.loop-name.lines.items c.loop-name.invariant.fits) ∙ ap (λ xs. take 65 (c.loop-name.lines.items ++ filter_map line xs)) (sym c.in-None.ensures.steps.0) ∙ c.loop-name.invariant.rest
    ∙ ap (λ xs. take 65 (c.args.lines.now.items ++ xs)) (listed-all g (goal.at.returns-clause-lines g c).After-into_iter-name-iterator)

pub returns-clause-room : goal.returns-clause-room
returns-clause-room g c = c.loop-name.invariant.room
