use Rattle.s4_script.proofs.Spelling.{names_are_text}
use Rattle.s4_script.proofs.replies.text_of_name.Goals as goal

pub unreachable-requires : goal.unreachable-requires
unreachable-requires c = c.in-Err.ensures.cases.0 (names_are_text c.as_slice.result.now c.as_slice.ensures.valid)
