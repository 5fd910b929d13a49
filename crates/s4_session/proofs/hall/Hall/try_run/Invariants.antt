use Rattle.std.proofs.Common.{◌≡◌, false, take, drop}
use Rattle.s4_session.specs.Arrivals.{NeverDown}
use Rattle.s4_session.proofs.Sending.{Sends}
use Rattle.s4_session.proofs.hall.Hall.try_run.Given as goal

abbrev pub invariant-loop-step : goal.invariant-loop-step
invariant-loop-step l = record {
  sends : Sends l.fn.self.log.opened l.fn.self.logins (take l.step-index l.steps) l.self l.outbox;
  down : NeverDown l.self.last (drop l.step-index l.steps);
  whole : l.self.failed ≡ false;
}
