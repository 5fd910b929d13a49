use Rattle.std.proofs.Common.{◌≡◌, Some, sym, ◌∙◌, ap}
use Rattle.std.specs.Prelude.{slice_set}
use Rattle.std.specs.FinMap as finmap
use Rattle.s4_types.specs.declared.version.Version.{Version}
use Rattle.s4_store.specs.Chains.{items_of}
use Rattle.s4_tracks.specs.Chain.{erased}
use Rattle.s4_tracks.proofs.Ending.{within_still}
use Rattle.s4_tracks.proofs.Erasing.{changed_in}
use Rattle.s4_tracks.proofs.end_eraser.erase_at.Goals as goal

some_is : (u v : Version) → Some u ≡ Some v → u ≡ v
some_is u v e = cc

pub set-requires-clause-within : goal.set-requires-clause-within
set-requires-clause-within g c = within_still (g.S.Store.chains c.args.store.now) (g.S.Store.chains c.set-version.new.self) c.args.chain c.args.index _ c.set-version.ensures.chains c.requires.within

pub returns-clause-chains : goal.returns-clause-chains
returns-clause-chains g c v got =
    let m = g.S.Store.chains c.args.store.now in
    let same : c.set-version.result ≡ v = some_is c.set-version.result v (sym c.set-version.ensures.old ∙ got) in
    changed_in m (g.S.Store.chains c.set-version.new.self) (g.S.Store.chains c.set.new.self) c.args.chain c.args.index _ (erased c.set-version.result) c.set-version.ensures.chains c.set.ensures.chains
    ∙ ap (λ w. finmap.insert m c.args.chain (slice_set (items_of m c.args.chain) c.args.index (erased w))) same
