use Rattle.std.proofs.Common.{◌≡◌, ℕ, List, None, IfNone, length, rules, sym, ◌∙◌, ap, subst}
use Rattle.std.specs.Prelude.{slice_get, slice_set}
use Rattle.std.specs.FinMap as finmap
use Rattle.s4_types.specs.declared.version.Version.{Version}
use Rattle.s4_store.specs.Chains.{items_of}
use Rattle.s4_store.specs.Laws.{insert_same}
use Rattle.s4_tracks.specs.Chain.{erased}
use Rattle.s4_tracks.specs.Eraser.{looked}
use Rattle.s4_tracks.proofs.Erasing.{first_at, with_first_at, first_none, with_first_none, is_told}
use Rattle.s4_tracks.proofs.Walking.{place_chain, passed_after}
use Rattle.s4_tracks.proofs.eraser.Eraser.erase_next.Goals as goal

pub returns-in_err-place-clause-told : goal.returns-in_err-place-clause-told
returns-in_err-place-clause-told g c =
    let none : c.from_residual.result ≡ None = search rules in
    none ∙ sym (first_none c.args.self.now.from c.args.self.now.to (items_of (g.S.Store.chains c.args.store.now) c.args.self.now.chain) c.in_err-place.ensures.none)

pub returns-in_err-place-clause-chains : goal.returns-in_err-place-clause-chains
returns-in_err-place-clause-chains g c =
    let m = g.S.Store.chains c.args.store.now in
    sym (ap (finmap.insert m c.args.self.now.chain) (with_first_none c.args.self.now.from c.args.self.now.to (items_of m c.args.self.now.chain) c.in_err-place.ensures.none) ∙ insert_same m c.args.self.now.chain c.requires.open)

pub returns-clause-told : goal.returns-clause-told
returns-clause-told g c =
    let s = g.S.Store in
    let items : ℕ → List Version = items_of (s.chains c.args.store.now) in
    let walk = c.args.self.now in
    let next = c.in_ok-place.ensures.next in
    let chain = place_chain walk c.find_next.new.self c.in_ok-place.place c.in_ok-place.ensures.same s.chain_at (s.is_place c.args.store.now) c.in_ok-place.ensures.stands c.in_ok-place.ensures.last in
    c.erase.ensures.told next.value (ap (λ k. slice_get (items k) (s.index_at c.in_ok-place.place)) chain ∙ next.there)
    ∙ sym (first_at walk.from walk.to (items walk.chain) (s.index_at c.in_ok-place.place) next.value next.there next.passed next.erasable)

pub returns-clause-chains : goal.returns-clause-chains
returns-clause-chains g c =
    let s = g.S.Store in
    let m = s.chains c.args.store.now in
    let walk = c.args.self.now in
    let index : ℕ = s.index_at c.in_ok-place.place in
    let next = c.in_ok-place.ensures.next in
    let chain = place_chain walk c.find_next.new.self c.in_ok-place.place c.in_ok-place.ensures.same s.chain_at (s.is_place c.args.store.now) c.in_ok-place.ensures.stands c.in_ok-place.ensures.last in
    c.erase.ensures.chains next.value (ap (λ k. slice_get (items_of m k) index) chain ∙ next.there)
    ∙ ap (λ k. finmap.insert m k (slice_set (items_of m k) index (erased next.value))) chain
    ∙ ap (finmap.insert m walk.chain) (with_first_at walk.from walk.to (items_of m walk.chain) index next.value next.there next.passed next.erasable)

pub returns-clause-passed : goal.returns-clause-passed
returns-clause-passed g c =
    let s = g.S.Store in
    passed_after c.args.self.now c.find_next.new.self c.in_ok-place.place c.in_ok-place.ensures.same s.index_at (s.chains c.args.store.now) (s.chains c.erase.new.store) c.in_ok-place.ensures.last c.in_ok-place.ensures.next (returns-clause-chains g c)

pub returns-clause-ended : goal.returns-clause-ended
returns-clause-ended g c =
    let s = g.S.Store in
    let items : ℕ → List Version = items_of (s.chains c.args.store.now) in
    let walk = c.args.self.now in
    let next = c.in_ok-place.ensures.next in
    let chain = place_chain walk c.find_next.new.self c.in_ok-place.place c.in_ok-place.ensures.same s.chain_at (s.is_place c.args.store.now) c.in_ok-place.ensures.stands c.in_ok-place.ensures.last in
    subst (λ told. IfNone told (looked s.index_at c.find_next.new.self ≡ length (items walk.chain))) (sym (c.erase.ensures.told next.value (ap (λ k. slice_get (items k) (s.index_at c.in_ok-place.place)) chain ∙ next.there)))
    (is_told walk.from walk.to _ next.value next.erasable)
