use Rattle.s4_codec.specs.Format.{◌&◌}
use Rattle.s4_codec.specs.Parts.{object, rights, user}
use Rattle.s4_codec.proofs.Added.{added_after}
use Rattle.s4_codec.proofs.put_requests.put_set_acl.Goals as goal

pub returns : goal.returns
returns g c =
    let parts =
    added_after object (user & rights) c.args.object.now _ _ _ _ c.put_object.ensures.added (added_after user rights c.args.user.now c.args.rights.now _ _ _ c.put_user.ensures.added c.put_rights.ensures.added) in
    record { fits = parts.fits; spelled = parts.spelled }
