use Rattle.std.proofs.Common.{ap}
use Rattle.s4_types.specs.Outcome.{reply_of}
use Rattle.s4_merge_laws.proofs.OfCell.{outcome-here}
use Rattle.s4_merge_laws.proofs.answers.answers_depend_on_their_cell.Goals as goal

pub returns : goal.returns
returns c = λ base cells cell h t caller request here. ap reply_of (outcome-here base cells cell h t caller request here)
