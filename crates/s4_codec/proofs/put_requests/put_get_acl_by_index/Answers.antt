use Rattle.s4_codec.specs.Format.{◌&◌, byte}
use Rattle.s4_codec.specs.Parts.{object, optional_moment}
use Rattle.s4_codec.proofs.Added.{added_after}
use Rattle.s4_codec.proofs.put_requests.put_get_acl_by_index.Goals as goal

pub returns : goal.returns
returns g c =
    let parts =
    added_after object (byte & optional_moment) c.args.object.now _ _ _ _ c.put_object.ensures.added (added_after byte optional_moment c.args.index c.args.at.now _ _ _ c.put_byte.ensures.added c.put_optional_moment.ensures.added) in
    record { fits = parts.fits; spelled = parts.spelled }
