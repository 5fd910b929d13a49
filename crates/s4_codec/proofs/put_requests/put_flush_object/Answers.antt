use Rattle.s4_codec.specs.Format.{◌&◌}
use Rattle.s4_codec.specs.Parts.{moment, object}
use Rattle.s4_codec.proofs.Added.{added_after}
use Rattle.s4_codec.proofs.put_requests.put_flush_object.Goals as goal

pub returns : goal.returns
returns g c =
    let parts =
    added_after object (moment & moment) c.args.object.now _ _ _ _ c.put_object.ensures.added (added_after moment moment c.args.from.now c.args.to.now _ _ _ c.put_moment.ensures.added c.put_moment-2.ensures.added) in
    record { fits = parts.fits; spelled = parts.spelled }
