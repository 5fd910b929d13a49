use Rattle.std.proofs.Common.{ap}
use Rattle.s4_types.specs.Outcome.{reply_of}
use Rattle.s4_merge_laws.proofs.OfCell.{wide-same}
use Rattle.s4_merge_laws.proofs.answers.wide_answers_depend_on_no_record.Goals as goal

pub returns : goal.returns
returns c = λ base other h k t caller request wide. ap reply_of (wide-same base other h k t caller request wide)
