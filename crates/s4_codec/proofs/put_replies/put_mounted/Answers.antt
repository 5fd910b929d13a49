use Rattle.s4_codec.specs.Parts.{grant, object}
use Rattle.s4_codec.proofs.Added.{added_after}
use Rattle.s4_codec.proofs.put_replies.put_mounted.Goals as goal

pub returns-clause-added : goal.returns-clause-added
returns-clause-added g c =
    let parts =
    added_after grant object c.args.grant.now c.args.object.now _ _ _ c.put_grant.ensures.added c.put_object.ensures.added in
    record { fits = parts.fits; spelled = parts.spelled }
