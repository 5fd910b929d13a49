use Rattle.s4_types.specs.Name.{is_name}
use Rattle.s4_codec.specs.Format.{byte, counted}
use Rattle.s4_codec.proofs.Added.{counted_added, only_added}
use Rattle.s4_codec.proofs.put_parts.put_name.Goals as goal

pub returns-clause-added : goal.returns-clause-added
returns-clause-added g c =
    let name = c.as_slice-bytes.ensures in
    let bytes = counted_added byte c.as_slice-bytes.result.now _ _ _ c.put_byte.ensures.added c.put.ensures.added in
    rw (← name.value) (only_added is_name (counted byte) c.as_slice-bytes.result.now _ _ name.valid bytes)
