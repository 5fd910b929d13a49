use Rattle.s4_codec.specs.Format.{◌&◌}
use Rattle.s4_codec.specs.Parts.{optional_after, optional_moment, principal}
use Rattle.s4_codec.proofs.Added.{added_after}
use Rattle.s4_codec.proofs.put_requests.put_plist.Goals as goal

pub returns : goal.returns
returns g c =
    let parts =
    added_after principal (optional_after & optional_moment) c.args.range.now _ _ _ _ c.put_principal.ensures.added (added_after optional_after optional_moment c.args.after.now c.args.at.now _ _ _ c.put_optional_after.ensures.added c.put_optional_moment.ensures.added) in
    record { fits = parts.fits; spelled = parts.spelled }
