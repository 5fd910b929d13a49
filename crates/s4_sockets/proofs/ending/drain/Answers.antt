use Rattle.std.proofs.Common.{rules, ℕ, ◌+◌, ◌*◌, ◌-◌, ◌<◌, ◌≤◌, arith}
use Rattle.s4_sockets.proofs.Drained.{Drains_both, Drains_within}
use Rattle.s4_sockets.proofs.ending.drain.Goals as goal

-- one read more, of as many as there are
one_more : (done reads : ℕ) → done < reads → 1024 * done + 1024 ≤ 1024 * (reads - 0)
one_more done reads few = omega arith

next : (done : ℕ) → 1024 * done + 1024 ≤ 1024 * (done + 1)
next done = omega arith

pub returns-in-Over-clause-drained : goal.returns-in-Over-clause-drained
returns-in-Over-clause-drained g c =
    let left = g.R.Read.remaining in
    Drains_within (1024 * c.loop-done.done + 1024) (1024 * (c.args.reads - 0)) (left c.args.reader.now) (left c.drain_some.new.reader)
    (one_more c.loop-done.done c.args.reads (search rules))
    (Drains_both (1024 * c.loop-done.done) 1024 (left c.args.reader.now) (left c.loop-done.reader) (left c.drain_some.new.reader) c.loop-done.invariant c.drain_some.ensures.drained)

pub loop-done-preserved : goal.loop-done-preserved
loop-done-preserved g c =
    let left = g.R.Read.remaining in
    Drains_within (1024 * c.loop-done.done + 1024) (1024 * (c.loop-done.done + 1)) (left c.args.reader.now) (left c.drain_some.new.reader)
    (next c.loop-done.done)
    (Drains_both (1024 * c.loop-done.done) 1024 (left c.args.reader.now) (left c.loop-done.reader) (left c.drain_some.new.reader) c.loop-done.invariant c.drain_some.ensures.drained)
