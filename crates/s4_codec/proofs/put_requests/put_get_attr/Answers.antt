use Rattle.s4_codec.specs.Parts.{object, optional_moment}
use Rattle.s4_codec.proofs.Added.{added_after}
use Rattle.s4_codec.proofs.put_requests.put_get_attr.Goals as goal

pub returns : goal.returns
returns g c =
    let parts =
    added_after object optional_moment c.args.object.now c.args.at.now _ _ _ c.put_object.ensures.added c.put_optional_moment.ensures.added in
    record { fits = parts.fits; spelled = parts.spelled }
