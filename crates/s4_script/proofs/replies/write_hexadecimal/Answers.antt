use Rattle.std.proofs.Common.{arith, rules, sym}
use Rattle.std.proofs.Output.{has_written_append, has_written_of_eq, writes_in_calls_nil}
use Rattle.s4_script.proofs.Hexadecimal.{encode_lower_nil, encode_lower_more}
use Rattle.s4_script.proofs.replies.write_hexadecimal.Goals as goal

pub loop-byte-init : goal.loop-byte-init
loop-byte-init g c = λ plain.
    has_written_of_eq _ _ _ _ _ (sym encode_lower_nil) (record { wrote = writes_in_calls_nil _ _; plain = plain })

pub loop-byte-preserved : goal.loop-byte-preserved
loop-byte-preserved g c = λ plain.
    let more = encode_lower_more c.args.bytes.now c.loop-byte.byte-index (search rules) (omega (arith, c.type_inv.bytes c.loop-byte.byte-index)) in
    has_written_of_eq _ _ _ _ _ more (has_written_append _ _ _ _ _ _ (c.loop-byte.invariant plain) (search rules))
