use Rattle.std.proofs.Common.{◌≡◌, Some, sym, ◌∙◌, ap}
use Rattle.std.specs.Prelude.{slice_set}
use Rattle.std.specs.FinMap as finmap
use Rattle.s4_types.specs.declared.version.Version.{Version}
use Rattle.s4_store.specs.Chains.{items_of}
use Rattle.s4_tracks.specs.Chain.{erased}
use Rattle.s4_tracks.proofs.Erasing.{changed_in}
use Rattle.s4_tracks.proofs.eraser.erase.Goals as goal

some_is : (u v : Version) → Some u ≡ Some v → u ≡ v
some_is u v e = cc

pub returns-clause-chains : goal.returns-clause-chains
returns-clause-chains g c v got =
    let s = g.S.Store in let m = s.chains c.args.store.now in let chain = s.chain_at c.args.place in let index = s.index_at c.args.place in
    let same : c.set_at-version.result ≡ v = some_is c.set_at-version.result v (sym c.set_at-version.ensures.old ∙ got) in
    changed_in m (s.chains c.set_at-version.new.self) (s.chains c.set_at.new.self) chain index _ (erased c.set_at-version.result) c.set_at-version.ensures.chains c.set_at.ensures.chains
    ∙ ap (λ w. finmap.insert m chain (slice_set (items_of m chain) index (erased w))) same
