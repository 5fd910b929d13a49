use Rattle.s4_merge_laws.proofs.Plain.{merged-plain}
use Rattle.s4_merge_laws.proofs.histories.merged_histories_are_plain.Goals as goal

pub returns : goal.returns
returns c = merged-plain
