use Rattle.s4_codec.specs.Parts.{after}
use Rattle.s4_codec.proofs.Added.{some_added}
use Rattle.s4_codec.proofs.put_parts.put_optional_after.Goals as goal

pub returns-in-Some-clause-added : goal.returns-in-Some-clause-added
returns-in-Some-clause-added g c = rw c.in-Some.is (some_added after _ _ _ _ c.put_byte-in-Some.ensures.added c.put_after.ensures.added)
