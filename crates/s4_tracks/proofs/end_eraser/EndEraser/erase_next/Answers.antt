use Rattle.std.proofs.Common.{◌≡◌, ◌<◌, ℕ, List, None, length, rules, sym, ◌∙◌, ap, subst}
use Rattle.std.specs.Prelude.{slice_get, slice_set}
use Rattle.std.specs.FinMap as finmap
use Rattle.std.proofs.lemmas.Option.{slice_get_within}
use Rattle.s4_types.specs.declared.version.Version.{Version}
use Rattle.s4_store.specs.Chains.{items_of}
use Rattle.s4_store.specs.Laws.{insert_same}
use Rattle.s4_tracks.specs.Chain.{erased}
use Rattle.s4_tracks.specs.EndEraser.{HasPassed}
use Rattle.s4_tracks.proofs.Erasing.{first_at, with_first_at, first_none, with_first_none}
use Rattle.s4_tracks.proofs.EndErasing.{passed_all, passed_after}
use Rattle.s4_tracks.proofs.end_eraser.EndEraser.erase_next.Goals as goal

pub returns-in_err-index-clause-told : goal.returns-in_err-index-clause-told
returns-in_err-index-clause-told g c =
    let none : c.from_residual.result ≡ None = search rules in
    none ∙ sym (first_none c.args.self.now.from c.args.self.now.end (items_of (g.S.Store.chains c.args.store.now) c.args.self.now.chain) c.in_err-index.ensures.none)

pub returns-in_err-index-clause-chains : goal.returns-in_err-index-clause-chains
returns-in_err-index-clause-chains g c =
    let m = g.S.Store.chains c.args.store.now in
    let walk = c.args.self.now in
    sym (ap (finmap.insert m walk.chain) (with_first_none walk.from walk.end (items_of m walk.chain) c.in_err-index.ensures.none) ∙ insert_same m walk.chain c.requires.open)

pub returns-in_err-index-clause-passed : goal.returns-in_err-index-clause-passed
returns-in_err-index-clause-passed g c =
    let same = c.in_err-index.ensures.same in
    subst (λ k. HasPassed c.find_next.new.self (items_of (g.S.Store.chains c.args.store.now) k)) (sym same.chain)
    (passed_all c.args.self.now c.find_next.new.self (items_of (g.S.Store.chains c.args.store.now) c.args.self.now.chain) same c.in_err-index.ensures.none)

pub erase_at-requires-clause-within : goal.erase_at-requires-clause-within
erase_at-requires-clause-within g c =
    let next = c.in_ok-index.ensures.next in
    subst (λ k. c.in_ok-index.index < length (items_of (g.S.Store.chains c.args.store.now) k)) (sym c.in_ok-index.ensures.same.chain)
    (slice_get_within (items_of (g.S.Store.chains c.args.store.now) c.args.self.now.chain) c.in_ok-index.index next.value next.there)

pub returns-clause-told : goal.returns-clause-told
returns-clause-told g c =
    let walk = c.args.self.now in
    let items : ℕ → List Version = items_of (g.S.Store.chains c.args.store.now) in
    let index : ℕ = c.in_ok-index.index in
    let next = c.in_ok-index.ensures.next in
    c.erase_at.ensures.told next.value (ap (λ k. slice_get (items k) index) c.in_ok-index.ensures.same.chain ∙ next.there)
    ∙ sym (first_at walk.from walk.end (items walk.chain) index next.value next.there next.passed next.erasable)

pub returns-clause-chains : goal.returns-clause-chains
returns-clause-chains g c =
    let walk = c.args.self.now in
    let m = g.S.Store.chains c.args.store.now in
    let index : ℕ = c.in_ok-index.index in
    let next = c.in_ok-index.ensures.next in
    let chain = c.in_ok-index.ensures.same.chain in
    c.erase_at.ensures.chains next.value (ap (λ k. slice_get (items_of m k) index) chain ∙ next.there)
    ∙ ap (λ k. finmap.insert m k (slice_set (items_of m k) index (erased next.value))) chain
    ∙ ap (finmap.insert m walk.chain) (with_first_at walk.from walk.end (items_of m walk.chain) index next.value next.there next.passed next.erasable)

pub returns-clause-passed : goal.returns-clause-passed
returns-clause-passed g c =
    passed_after c.args.self.now c.find_next.new.self c.in_ok-index.index (g.S.Store.chains c.args.store.now) (g.S.Store.chains c.erase_at.new.store) c.in_ok-index.ensures.same c.in_ok-index.ensures.reached c.in_ok-index.ensures.next (returns-clause-chains g c)
