use Rattle.s4_codec.specs.Format.{◌&◌, number}
use Rattle.s4_codec.specs.Parts.{byte_string, object}
use Rattle.s4_codec.proofs.Added.{added_after}
use Rattle.s4_codec.proofs.put_requests.put_write.Goals as goal

pub returns : goal.returns
returns g c =
    let parts =
    added_after object (number 4 & byte_string c.args.version) c.args.object.now _ _ _ _ c.put_object.ensures.added (added_after (number 4) (byte_string c.args.version) c.args.offset c.args.bytes.now _ _ _ c.put_u32.ensures.added c.put_bytes.ensures.added) in
    record { fits = parts.fits; spelled = parts.spelled }
