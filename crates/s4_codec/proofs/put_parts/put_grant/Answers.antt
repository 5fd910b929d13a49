use Rattle.s4_codec.specs.Format.{◌&◌}
use Rattle.s4_codec.specs.Parts.{index, moment}
use Rattle.s4_codec.proofs.Added.{added_after, some_added}
use Rattle.s4_codec.proofs.put_parts.put_grant.Goals as goal

pub returns-in-Entry-clause-added : goal.returns-in-Entry-clause-added
returns-in-Entry-clause-added g c =
    let parts =
    some_added (index & moment) _ _ _ _ c.put_byte-in-Entry.ensures.added (added_after index moment _ _ _ _ _ c.put_index.ensures.added c.put_moment.ensures.added) in
    rw c.in-Entry.is (record { fits = parts.fits; spelled = parts.spelled })
