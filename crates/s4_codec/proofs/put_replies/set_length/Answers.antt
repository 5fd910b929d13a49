use Rattle.std.proofs.Common.{arith}
use Rattle.s4_codec.proofs.Lengths.{length_set}
use Rattle.s4_codec.proofs.put_replies.set_length.Goals as goal

pub returns-clause-items : goal.returns-clause-items
returns-clause-items c =
    let same = c.as_mut_slice.ensures.value in
    rw same (length_set c.args.start _ c.args.out.now.items c.write_u32.new.buf c.requires.there (omega arith) (rw same at c.write_u32.ensures))
