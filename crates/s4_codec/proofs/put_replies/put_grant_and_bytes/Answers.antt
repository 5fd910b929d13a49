use Rattle.s4_codec.specs.Parts.{byte_string, grant}
use Rattle.s4_codec.proofs.Added.{added_after}
use Rattle.s4_codec.proofs.put_replies.put_grant_and_bytes.Goals as goal

pub returns-clause-added : goal.returns-clause-added
returns-clause-added g c = added_after grant (byte_string c.args.version) _ _ _ _ _ c.put_grant.ensures.added c.put_bytes.ensures.added
