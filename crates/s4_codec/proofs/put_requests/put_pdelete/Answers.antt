use Rattle.s4_codec.specs.Parts.{name, purse}
use Rattle.s4_codec.proofs.Added.{added_after}
use Rattle.s4_codec.proofs.put_requests.put_pdelete.Goals as goal

pub returns : goal.returns
returns g c =
    let parts =
    added_after purse name c.args.purse.now c.args.name.now _ _ _ c.put_purse.ensures.added c.put_name.ensures.added in
    record { fits = parts.fits; spelled = parts.spelled }
