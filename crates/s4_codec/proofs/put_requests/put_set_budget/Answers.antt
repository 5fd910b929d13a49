use Rattle.s4_codec.specs.Format.{number}
use Rattle.s4_codec.specs.Parts.{purse}
use Rattle.s4_codec.proofs.Added.{added_after}
use Rattle.s4_codec.proofs.put_requests.put_set_budget.Goals as goal

pub returns : goal.returns
returns g c =
    let parts =
    added_after purse (number 4) c.args.purse.now c.args.budget _ _ _ c.put_purse.ensures.added c.put_u32.ensures.added in
    record { fits = parts.fits; spelled = parts.spelled }
