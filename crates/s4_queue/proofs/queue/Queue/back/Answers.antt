use Rattle.std.proofs.Common.{◌-◌, ℕ, ◌∙◌, ap, sym, arith, length}
use Rattle.std.specs.Prelude.{slice_get}
use Rattle.std.proofs.lemmas.Option.{slice_get_past}
use Rattle.s4_queue.proofs.Laying.{len_seen}
use Rattle.s4_queue.proofs.queue.Queue.back.Goals as goal

pub returns-then-self-eq0 : goal.returns-then-self-eq0
returns-then-self-eq0 g c =
    let long = len_seen c.self.invariant _ c.self.view_is in
    sym (slice_get_past c.args.self.now.items (length c.args.self.now.items - 1) (omega arith))

pub returns : goal.returns
returns g c = c.get.ensures ∙ ap (λ (n : ℕ). slice_get c.args.self.now.items (n - 1)) (len_seen c.self.invariant _ c.self.view_is)
