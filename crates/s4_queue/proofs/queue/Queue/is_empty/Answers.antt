use Rattle.std.proofs.Common.{sym, ◌∙◌, ap, length, eqb, ℕ}
use Rattle.s4_queue.specs.Contents.{Contents}
use Rattle.s4_queue.proofs.Filling.{length_of}
use Rattle.s4_queue.proofs.queue.Queue.is_empty.Goals as goal

pub returns : goal.returns
returns g c =
    let q = c.self.inside in
    ap (λ (n : ℕ). eqb n 0) (sym (length_of q.taken q.len q.blocks.items c.self.invariant.filled) ∙ ap (λ (d : Contents g.row.T.Denot). length d.items) c.self.view_is)
