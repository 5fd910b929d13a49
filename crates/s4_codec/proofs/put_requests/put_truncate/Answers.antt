use Rattle.s4_codec.specs.Format.{number}
use Rattle.s4_codec.specs.Parts.{object}
use Rattle.s4_codec.proofs.Added.{added_after}
use Rattle.s4_codec.proofs.put_requests.put_truncate.Goals as goal

pub returns : goal.returns
returns g c =
    let parts =
    added_after object (number 4) c.args.object.now c.args.length _ _ _ c.put_object.ensures.added c.put_u32.ensures.added in
    record { fits = parts.fits; spelled = parts.spelled }
