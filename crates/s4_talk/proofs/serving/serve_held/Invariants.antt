use Rattle.std.proofs.Common.{◌≡◌, []}
use Rattle.s4_talk.specs.Turning.{FaultIsMet, Takes, told}
use Rattle.s4_talk.proofs.serving.serve_held.Given as goal

abbrev pub invariant-loop-served : goal.invariant-loop-served
invariant-loop-served g l = record {
  met : FaultIsMet l.session l.fault;
  takes : Takes l.logins [] (g.A.Answer.calls l.fn.answer) (g.A.Answer.calls l.answer) (told l.fn.session l.fn.fault l.fn.waiting.items) (told l.session l.fault l.waiting.items);
  none : l.served ≡ 0 → (l.fault ≡ l.fn.fault) × (l.waiting.items ≡ l.fn.waiting.items);
}
