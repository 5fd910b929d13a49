use Rattle.s4_codec.specs.Format.{◌&◌, number}
use Rattle.s4_codec.specs.Parts.{object, optional_moment}
use Rattle.s4_codec.proofs.Added.{added_after}
use Rattle.s4_codec.proofs.put_requests.put_read.Goals as goal

pub returns : goal.returns
returns g c =
    let parts =
    added_after object (number 4 & (number 4 & optional_moment)) c.args.object.now _ _ _ _ c.put_object.ensures.added (added_after (number 4) (number 4 & optional_moment) c.args.offset _ _ _ _ c.put_u32.ensures.added (added_after (number 4) optional_moment c.args.length c.args.at.now _ _ _ c.put_u32-2.ensures.added c.put_optional_moment.ensures.added)) in
    record { fits = parts.fits; spelled = parts.spelled }
