use Rattle.s4_codec.specs.Format.{◌&◌}
use Rattle.s4_codec.specs.Parts.{object, optional_moment, user}
use Rattle.s4_codec.proofs.Added.{added_after}
use Rattle.s4_codec.proofs.put_requests.put_get_acl_by_user.Goals as goal

pub returns : goal.returns
returns g c =
    let parts =
    added_after object (user & optional_moment) c.args.object.now _ _ _ _ c.put_object.ensures.added (added_after user optional_moment c.args.user.now c.args.at.now _ _ _ c.put_user.ensures.added c.put_optional_moment.ensures.added) in
    record { fits = parts.fits; spelled = parts.spelled }
