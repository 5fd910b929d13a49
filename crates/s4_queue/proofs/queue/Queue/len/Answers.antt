use Rattle.std.proofs.Common.{sym, ◌∙◌, ap, length}
use Rattle.s4_queue.specs.Contents.{Contents}
use Rattle.s4_queue.proofs.Filling.{length_of}
use Rattle.s4_queue.proofs.queue.Queue.len.Goals as goal

pub returns-clause-len : goal.returns-clause-len
returns-clause-len g c =
    let q = c.self.inside in
    sym (length_of q.taken q.len q.blocks.items c.self.invariant.filled) ∙ ap (λ (d : Contents g.row.T.Denot). length d.items) c.self.view_is
