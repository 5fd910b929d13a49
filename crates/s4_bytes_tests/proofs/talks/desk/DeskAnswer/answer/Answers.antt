use Rattle.s4_bytes_tests.proofs.Recorded.{step_calls}
use Rattle.s4_bytes_tests.proofs.talks.desk.DeskAnswer.answer.Goals as goal

pub returns-clause-called : goal.returns-clause-called
returns-clause-called c = step_calls c.args.self.now.drive c.step.new.self _ c.args.caller c.args.request c.step.result c.step.ensures.steps
