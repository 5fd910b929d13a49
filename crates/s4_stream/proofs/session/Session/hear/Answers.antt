use Rattle.std.proofs.Common.{rules, ◌≡◌, ◌∙◌, sym, ap}
use Rattle.s4_stream.specs.declared.event.SessionState.TheVariants as states
use Rattle.s4_stream.specs.Stream.{Heard}
use Rattle.s4_stream.proofs.Closing.{closed_hears}
use Rattle.s4_stream.proofs.session.Session.hear.Goals as goal
use Rattle.s4_stream.proofs.session.Session.hear.Goals.{in-Ok, in-Err-Closed, in-Err-NoMemory}

pub returns-clause-events : goal.returns-clause-events
returns-clause-events c = elim c.match-feed.branch [
  | in-Ok w ↦ rw w.result-is (ap (λ (h : Heard). h.events) (sym w.in-Ok.ensures.events))
  | in-Err-Closed w ↦
      let closed : c.args.self.now.state ≡ states.Closed = search rules in
      rw w.result-is (w.new.ensures.items ∙ ap (λ (h : Heard). h.events) (sym (closed_hears c.args.logins.now c.args.self.now c.args.piece.now closed)))
  | in-Err-NoMemory w ↦ rw w.result-is tt
]
