use Rattle.s4_laws.proofs.Asked.{data_in-answer}
use Rattle.s4_laws.proofs.answers.answers_give_no_more_than_was_asked.Goals as goal

pub returns : goal.returns
returns c = data_in-answer
