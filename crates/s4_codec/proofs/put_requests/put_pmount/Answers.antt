use Rattle.s4_codec.specs.Format.{◌&◌}
use Rattle.s4_codec.specs.Parts.{name, optional_moment, purse}
use Rattle.s4_codec.proofs.Added.{added_after}
use Rattle.s4_codec.proofs.put_requests.put_pmount.Goals as goal

pub returns : goal.returns
returns g c =
    let parts =
    added_after purse (name & optional_moment) c.args.purse.now _ _ _ _ c.put_purse.ensures.added (added_after name optional_moment c.args.name.now c.args.at.now _ _ _ c.put_name.ensures.added c.put_optional_moment.ensures.added) in
    record { fits = parts.fits; spelled = parts.spelled }
