use Rattle.s4_codec.specs.Format.{◌&◌}
use Rattle.s4_codec.specs.Parts.{grant, index, rights_given, user}
use Rattle.s4_codec.proofs.Added.{added_after}
use Rattle.s4_codec.proofs.put_replies.put_entry.Goals as goal

pub returns-clause-added : goal.returns-clause-added
returns-clause-added g c =
    let parts =
    added_after grant (index & (user & rights_given)) c.args.grant.now _ _ _ _ c.put_grant.ensures.added (added_after index (user & rights_given) c.args.index _ _ _ _ c.put_index.ensures.added (added_after user rights_given c.args.user.now c.args.rights.now _ _ _ c.put_user.ensures.added c.put_rights_given.ensures.added)) in
    record { fits = parts.fits; spelled = parts.spelled }
