use Rattle.s4_codec.specs.Format.{number}
use Rattle.s4_codec.specs.Parts.{principal}
use Rattle.s4_codec.proofs.Added.{added_after}
use Rattle.s4_codec.proofs.put_requests.put_read_audit.Goals as goal

pub returns : goal.returns
returns g c =
    let parts =
    added_after principal (number 4) c.args.range.now c.args.skip _ _ _ c.put_principal.ensures.added c.put_u32.ensures.added in
    record { fits = parts.fits; spelled = parts.spelled }
