use Rattle.std.proofs.Common.{◌≡◌, ◌+◌, true, Some, None, List, [], ◌∷◌, sym, ap, ◌∙◌, arith, drop, length, ℕ}
use Rattle.std.specs.Prelude.{if◌then◌else◌}
use Rattle.std.specs.FinMap as finmap
use Rattle.std.specs.BTreeMap.{get}
use Rattle.s4_types.specs.declared.version.Version.{Version}
use Rattle.s4_store.specs.Chains.{items_of, item_count}
use Rattle.s4_store.specs.Counts.{item_count-insert}
use Rattle.s4_objects.specs.Keys.{object_cmp}
use Rattle.s4_objects.specs.Chains.{chain_of, held}
use Rattle.s4_objects.specs.Ends.{is_any}
use Rattle.s4_objects.proofs.Mapping.{at_object}
use Rattle.s4_objects.proofs.Holding.{chained_by, hollow_left, frees_last, frees_one}
use Rattle.s4_objects.proofs.free.free.Given.{Over}
use Rattle.s4_objects.proofs.free.free.Goals as goal
use Rattle.s4_objects.proofs.free.free.Goals.{After-has_values}

one-less : (vs : List Version) → is_any vs ≡ true → length (drop 1 vs) + 1 ≡ length vs
one-less [] e = cc
one-less (v ∷ vs) e = omega arith

found : (g : Over) (c : After-has_values g) → get object_cmp c.args.objects.now c.args.object.now ≡ Some c.unwrap-kept.result
found g c = sym c.get.ensures.value ∙ sym c.copied.ensures ∙ c.unwrap-kept.ensures

changed : (g : Over) (c : After-has_values g) → g.S.Store.chains c.drop_oldest.new.self ≡ finmap.insert (g.S.Store.chains c.args.store.now) (chain_of c.args.which c.unwrap-kept.result) (drop 1 (items_of (g.S.Store.chains c.args.store.now) (chain_of c.args.which c.unwrap-kept.result)))
changed g c = c.drop_oldest.ensures.chains ∙ ap (λ x. finmap.insert (g.S.Store.chains c.args.store.now) x (drop 1 (items_of (g.S.Store.chains c.args.store.now) x))) c.track.ensures

-- one value less
freed-used : (g : Over) (c : After-has_values g) → item_count (g.S.Store.chains c.drop_oldest.new.self) + 1 ≡ item_count (g.S.Store.chains c.args.store.now)
freed-used g c =
    let m = g.S.Store.chains c.args.store.now in
    let chain : ℕ = chain_of c.args.which c.unwrap-kept.result in
    let items : List Version = items_of m chain in
    let is : items ≡ held m (get object_cmp c.args.objects.now c.args.object.now) c.args.which = sym (ap (λ f. held m f c.args.which) (found g c)) in
    let less : length (drop 1 items) + 1 ≡ length items = one-less items (ap is_any is ∙ c.requires.any) in
    let all : item_count (finmap.insert m chain (drop 1 items)) + length items ≡ item_count m + length (drop 1 items) = item_count-insert m chain (drop 1 items) in
    let same : item_count (g.S.Store.chains c.drop_oldest.new.self) ≡ item_count (finmap.insert m chain (drop 1 items)) = ap item_count (changed g c) in
    omega arith

-- room for one more
freed-room : (g : Over) (c : After-has_values g) → g.S.Store.room c.drop_oldest.new.self ≡ g.S.Store.room c.args.store.now + 1
freed-room g c =
    let items : List Version = items_of (g.S.Store.chains c.args.store.now) c.track.result.chain in
    let is : items ≡ held (g.S.Store.chains c.args.store.now) (get object_cmp c.args.objects.now c.args.object.now) c.args.which =
    ap (items_of (g.S.Store.chains c.args.store.now)) c.track.ensures ∙ sym (ap (λ f. held (g.S.Store.chains c.args.store.now) f c.args.which) (found g c)) in
    let less : length (drop 1 items) + 1 ≡ length items = one-less items (ap is_any is ∙ c.requires.any) in
    omega (arith, c.drop_oldest.ensures.room)

pub returns-then-has_values-clause-frees : goal.returns-then-has_values-clause-frees
returns-then-has_values-clause-frees g c =
    let at = (goal.at.returns-then-has_values-clause-frees g c).After-has_values in
    frees_one c.requires.chained c.args.object.now c.unwrap-kept.result (found g at) c.args.which (changed g at) (sym c.has_values.ensures ∙ c.if-has_values.true)

pub returns-then-has_values-clause-room : goal.returns-then-has_values-clause-room
returns-then-has_values-clause-room g c = freed-room g (goal.at.returns-then-has_values-clause-room g c).After-has_values

pub close-requires : goal.close-requires
close-requires g c =
    let at = (goal.at.close-requires g c).After-has_values in
    hollow_left (chained_by c.requires.chained c.args.object.now c.unwrap-kept.result (found g at) c.args.which (drop 1) (changed g at)) c.args.object.now c.unwrap-kept.result (found g at) (sym c.has_values.ensures ∙ c.if-has_values.false)

pub returns-clause-frees : goal.returns-clause-frees
returns-clause-frees g c =
    let at = (goal.at.returns-clause-frees g c).After-has_values in
    frees_last (chained_by c.requires.chained c.args.object.now c.unwrap-kept.result (found g at) c.args.which (drop 1) (changed g at)) c.args.object.now c.unwrap-kept.result (found g at) (sym c.has_values.ensures ∙ c.if-has_values.false)
    c.close.ensures.chains (λ q. c.remove.ensures.updates.0 q ∙ ap (λ b. if b then None else get object_cmp c.args.objects.now q) (at_object c.args.object.now q)) c.args.which c.requires.chained (changed g at)

pub returns-clause-room : goal.returns-clause-room
returns-clause-room g c = c.close.ensures.room ∙ freed-room g (goal.at.returns-clause-room g c).After-has_values

pub returns-then-has_values-clause-used : goal.returns-then-has_values-clause-used
returns-then-has_values-clause-used g c = freed-used g (goal.at.returns-then-has_values-clause-used g c).After-has_values

pub returns-clause-used : goal.returns-clause-used
returns-clause-used g c = ap (λ n. n + 1) c.close.ensures.used ∙ freed-used g (goal.at.returns-clause-used g c).After-has_values
