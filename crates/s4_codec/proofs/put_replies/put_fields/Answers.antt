use Rattle.s4_codec.proofs.put_replies.put_fields.Goals as goal

pub returns-in-Data-clause-added : goal.returns-in-Data-clause-added
returns-in-Data-clause-added g c =
    let parts = c.put_grant_and_bytes.ensures.added in
    rw c.in-Data.is (record { fits = parts.fits; spelled = parts.spelled })

pub returns-in-Entry-clause-added : goal.returns-in-Entry-clause-added
returns-in-Entry-clause-added g c = rw c.in-Entry.is c.put_entry.ensures.added

pub returns-in-Mounted-clause-added : goal.returns-in-Mounted-clause-added
returns-in-Mounted-clause-added g c = rw c.in-Mounted.is c.put_mounted.ensures.added

pub returns-in-Names-clause-added : goal.returns-in-Names-clause-added
returns-in-Names-clause-added g c = rw c.in-Names.is c.put_names.ensures.added

pub returns-in-Audit-clause-added : goal.returns-in-Audit-clause-added
returns-in-Audit-clause-added g c = rw c.in-Audit.is c.put_audit.ensures.added

pub returns-in-Refused-clause-added : goal.returns-in-Refused-clause-added
returns-in-Refused-clause-added g c = rw c.in-Refused.is c.put_refused.ensures.added
