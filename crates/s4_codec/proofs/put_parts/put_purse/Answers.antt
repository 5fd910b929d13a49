use Rattle.s4_codec.specs.Parts.{principal, purse_number}
use Rattle.s4_codec.proofs.Added.{added_after}
use Rattle.s4_codec.proofs.put_parts.put_purse.Goals as goal

pub returns-clause-added : goal.returns-clause-added
returns-clause-added g c =
    let parts =
    added_after principal purse_number c.args.purse.now.creator c.args.purse.now.number _ _ _ c.put_principal.ensures.added c.put_purse_number.ensures.added in
    record { fits = parts.fits; spelled = parts.spelled }
