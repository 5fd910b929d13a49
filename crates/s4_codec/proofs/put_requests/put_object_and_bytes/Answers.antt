use Rattle.s4_codec.specs.Parts.{byte_string, object}
use Rattle.s4_codec.proofs.Added.{added_after}
use Rattle.s4_codec.proofs.put_requests.put_object_and_bytes.Goals as goal

pub returns : goal.returns
returns g c = added_after object (byte_string c.args.version) _ _ _ _ _ c.put_object.ensures.added c.put_bytes.ensures.added
