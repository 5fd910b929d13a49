use Rattle.std.proofs.Common.{◌≤◌, [], take}
use Rattle.s4_types.specs.Play.{last_of}
use Rattle.s4_session.specs.Answered.{Answered}
use Rattle.s4_session.proofs.answer.answer_all.Given as goal

abbrev pub invariant-loop-event : goal.invariant-loop-event
invariant-loop-event l = record {
  answered : Answered l.moment (take l.event-index l.events) l.fn.drive l.drive [] l.sent.items;
  last : last_of l.drive.history ≤ l.moment;
}
