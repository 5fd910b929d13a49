use Rattle.s4_types.proofs.Outcomes.{is_no_memory-answer}
use Rattle.s4_laws.proofs.answers.answers_are_never_want_of_memory.Goals as goal

pub returns : goal.returns
returns c = is_no_memory-answer
