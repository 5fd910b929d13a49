use Rattle.std.proofs.Common.{arith}
use Rattle.s4_script.proofs.Parts.{parts_split}
use Rattle.s4_script.proofs.words.at_dot.Goals as goal

pub returns : goal.returns
returns c = parts_split 46 c.args.word.now c.split_once.result (omega arith) c.split_once.ensures.cases
