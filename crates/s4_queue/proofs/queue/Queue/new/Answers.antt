use Rattle.s4_queue.proofs.Laying.{laid_none}
use Rattle.s4_queue.proofs.queue.Queue.new.Goals as goal

pub invariant_of-result : goal.invariant_of-result
invariant_of-result g c = laid_none c.new.result.items c.new.ensures.items
