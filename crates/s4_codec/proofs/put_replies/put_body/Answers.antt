use Rattle.s4_codec.specs.Replies.{bodies, kind_of}
use Rattle.s4_codec.proofs.Added.{case_added}
use Rattle.s4_codec.proofs.put_replies.put_body.Goals as goal

pub returns-clause-added : goal.returns-clause-added
returns-clause-added g c = case_added kind_of (bodies c.args.version) c.args.reply.now _ _ _ (rw c.kind.ensures at c.put_byte.ensures.added) c.put_fields.ensures.added
