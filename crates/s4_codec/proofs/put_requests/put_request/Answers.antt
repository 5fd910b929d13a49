use Rattle.s4_types.specs.Audit.{code_of}
use Rattle.s4_codec.specs.Requests.{bodies}
use Rattle.s4_codec.proofs.Added.{case_added}
use Rattle.s4_codec.proofs.put_requests.put_request.Goals as goal

pub returns : goal.returns
returns g c = case_added code_of (bodies c.args.version) c.args.request.now _ _ _ (rw c.code.ensures at c.put_byte.ensures.added) c.put_fields.ensures
