use Rattle.s4_codec.specs.Format.{◌&◌}
use Rattle.s4_codec.specs.Parts.{pad, principal, purse_number, serial}
use Rattle.s4_codec.proofs.Added.{added_after}
use Rattle.s4_codec.proofs.put_parts.put_object.Goals as goal

pub returns-clause-added : goal.returns-clause-added
returns-clause-added g c =
    let parts =
    added_after principal (pad & (purse_number & serial)) c.args.object.now.purse.creator _ _ _ _ c.put_principal.ensures.added (added_after pad (purse_number & serial) 0 _ _ _ _ c.put_pad.ensures.added (added_after purse_number serial c.args.object.now.purse.number c.args.object.now.serial _ _ _ c.put_purse_number.ensures.added c.put_serial.ensures.added)) in
    record { fits = parts.fits; spelled = parts.spelled }
