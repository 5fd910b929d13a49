use Rattle.std.proofs.Common.{false, true, length, drop, arith}
use Rattle.s4_stream.specs.Stream.{hear}
use Rattle.s4_stream.specs.Feeding.{HearsOne, heard_so_far}
use Rattle.s4_stream.proofs.Hearing.{ends_heard, goes_on}
use Rattle.s4_stream.proofs.session.hear_all.Goals as goal

pub returns-then-not-branch-clause-heard : goal.returns-then-not-branch-clause-heard
returns-then-not-branch-clause-heard c =
    let bytes = c.args.bytes.now in
    let now = heard_so_far c.loop.hearing.events.items c.loop.hearing.state (drop c.loop.hearing.count bytes) in
    let new = heard_so_far c.hear_frame.new.hearing.events.items c.hear_frame.new.hearing.state (drop c.hear_frame.new.hearing.count bytes) in
    let one : HearsOne false c.args.logins.now now new = rw c.if-not-branch.true at c.in_ok-hear_frame.ensures.heard in
    ends_heard c.args.logins.now (hear c.args.logins.now c.args.state.now bytes) now new (length bytes) c.loop.counter (omega arith) c.loop.invariant.so_far one

pub loop-preserved : goal.loop-preserved
loop-preserved c =
    let bytes = c.args.bytes.now in
    let now = heard_so_far c.loop.hearing.events.items c.loop.hearing.state (drop c.loop.hearing.count bytes) in
    let new = heard_so_far c.hear_frame.new.hearing.events.items c.hear_frame.new.hearing.state (drop c.hear_frame.new.hearing.count bytes) in
    let one : HearsOne true c.args.logins.now now new = rw c.if-not-branch.false at c.in_ok-hear_frame.ensures.heard in
    record {
      live = one.0;
      within = c.in_ok-hear_frame.ensures.within;
      so_far = goes_on c.args.logins.now (hear c.args.logins.now c.args.state.now bytes) now new (length bytes) c.loop.counter (omega arith) c.loop.invariant.so_far one;
    }
