use Rattle.std.proofs.Common.{◌+◌, ◌/◌, ◌%◌, arith}
use Rattle.s4_queue.proofs.Placing.{lies_behind}
use Rattle.s4_queue.proofs.blocks.place_of.Goals as goal

pub returns-else-place-lt-BLOCK : goal.returns-else-place-lt-BLOCK
returns-else-place-lt-BLOCK c =
    let p = c.args.taken + c.args.index in
    lies_behind c.args.taken c.args.index (p / 64) (p % 64) (omega arith) (omega arith) (omega arith)
