use Rattle.s4_codec.specs.Parts.{name, purse_number}
use Rattle.s4_codec.proofs.Added.{added_after}
use Rattle.s4_codec.proofs.put_parts.put_after.Goals as goal

pub returns-clause-added : goal.returns-clause-added
returns-clause-added g c =
    let parts =
    added_after purse_number name c.args.after.now.number c.args.after.now.name _ _ _ c.put_purse_number.ensures.added c.put_name.ensures.added in
    record { fits = parts.fits; spelled = parts.spelled }
