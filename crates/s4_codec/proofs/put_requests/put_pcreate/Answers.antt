use Rattle.s4_codec.specs.Parts.{name, object}
use Rattle.s4_codec.proofs.Added.{added_after}
use Rattle.s4_codec.proofs.put_requests.put_pcreate.Goals as goal

pub returns : goal.returns
returns g c =
    let parts =
    added_after name object c.args.name.now c.args.object.now _ _ _ c.put_name.ensures.added c.put_object.ensures.added in
    record { fits = parts.fits; spelled = parts.spelled }
