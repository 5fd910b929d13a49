use Rattle.std.proofs.Common.{arith}
use Rattle.s4_objects.proofs.Fitting.{erasable_fits}
use Rattle.s4_objects.proofs.flushes.count_kept.Goals as goal

pub added-requires : goal.added-requires
added-requires g c =
    let fits = erasable_fits (g.S.Store.chains c.args.store.now) c.args.from c.args.to c.args.kept.now c.requires.apart in
    omega (arith, fits, c.count_track-data.ensures, c.count_track-attributes.ensures)
