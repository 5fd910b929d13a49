use Rattle.std.proofs.Common.{◌≡◌, ◌+◌, ◌-◌, ◌/◌, true, false, refl, sym, arith}
use Rattle.std.proofs.lemmas.Fn.{called}
use Rattle.s4_queue.proofs.Searching.{failed, passed, after_passing, at_failing, answers_next, holds_read, some_read}
use borrow.Author.Rules.{of_calls}
use Rattle.s4_queue.proofs.queue.Queue.partition_point.Goals as goal

pub loop-size-preserved-then-pred : goal.loop-size-preserved-then-pred
loop-size-preserved-then-pred g c =
    let xs = c.args.self.now.items in let base = c.loop-size.base in let size = c.loop-size.size in let mid = base + size / 2 in
    let call = called g.P.FnMut c.if-pred.ensures refl in
    record {
      some = omega arith;
      within = omega arith;
      callable = search of_calls;
      halved = λ p computes.
          let so_far = c.loop-size.invariant.halved p computes in
          let next = answers_next g.P.FnMut _ _ _ _ _ call so_far.0 in
          (next.1, passed p xs base size mid (size - size / 2) (omega arith) so_far.1 (holds_read (λ y. p y ≡ true) xs mid c.get.result c.unwrap.result c.get.ensures c.unwrap.ensures (sym next.0)));
    }

pub loop-size-preserved : goal.loop-size-preserved
loop-size-preserved g c =
    let xs = c.args.self.now.items in let base = c.loop-size.base in let size = c.loop-size.size in let mid = base + size / 2 in
    let call = called g.P.FnMut c.if-pred.ensures refl in
    record {
      some = omega arith;
      within = omega arith;
      callable = search of_calls;
      halved = λ p computes.
          let so_far = c.loop-size.invariant.halved p computes in
          let next = answers_next g.P.FnMut _ _ _ _ _ call so_far.0 in
          (next.1, failed p xs base size mid (size - size / 2) (omega arith) so_far.1 (holds_read (λ y. p y ≡ false) xs mid c.get.result c.unwrap.result c.get.ensures c.unwrap.ensures (sym next.0)));
    }

pub unwrap-requires-2 : goal.unwrap-requires-2
unwrap-requires-2 g c = some_read c.args.self.now.items c.loop-size.base c.get-2.result c.get-2.ensures (omega arith)

pub returns-then-pred-2-clause-partitioned : goal.returns-then-pred-2-clause-partitioned
returns-then-pred-2-clause-partitioned g c =
    let xs = c.args.self.now.items in let base = c.loop-size.base in
    let call = called g.P.FnMut c.if-pred-2.ensures refl in
    λ p computes.
    let so_far = c.loop-size.invariant.halved p computes in
    let next = answers_next g.P.FnMut _ _ _ _ _ call so_far.0 in
    after_passing p xs base c.loop-size.size (omega arith) (omega arith) so_far.1 (holds_read (λ y. p y ≡ true) xs base c.get-2.result c.unwrap-2.result c.get-2.ensures c.unwrap-2.ensures (sym next.0))

pub returns-clause-partitioned : goal.returns-clause-partitioned
returns-clause-partitioned g c =
    let xs = c.args.self.now.items in let base = c.loop-size.base in
    let call = called g.P.FnMut c.if-pred-2.ensures refl in
    λ p computes.
    let so_far = c.loop-size.invariant.halved p computes in
    let next = answers_next g.P.FnMut _ _ _ _ _ call so_far.0 in
    at_failing p xs base c.loop-size.size so_far.1 (holds_read (λ y. p y ≡ false) xs base c.get-2.result c.unwrap-2.result c.get-2.ensures c.unwrap-2.ensures (sym next.0))
