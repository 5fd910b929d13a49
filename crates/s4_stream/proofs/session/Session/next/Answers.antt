use Rattle.std.proofs.Common.{rules, ◌≡◌, ℕ, Some, List, [], ◌∷◌, drop, sym, ap, ◌∙◌}
use Rattle.s4_stream.specs.Stream.{hear, state_after}
use Rattle.s4_stream.specs.Feeding.{StandsFirst, after_events}
use Rattle.s4_stream.proofs.Cuts.{next_then}
use Rattle.s4_stream.proofs.session.Session.next.Goals as goal

pub returns-clause-next : goal.returns-clause-next
returns-clause-next c =
    let logins = c.args.logins.now in
    let next = c.in-Some.field-0 in
    let bytes : List ℕ = c.args.self.now.pending in
    let stands : StandsFirst logins c.args.self.now.state bytes (Some next) = search rules in
    let state-is : c.give_back.new.self.state ≡ state_after next.event = search rules in
    let left : c.give_back.new.self.pending ≡ drop next.count bytes = search rules in (
      state-is,
      next_then logins c.args.self.now.state bytes next stands
          ∙ ap (after_events (next.event ∷ [])) (ap (λ (l : List ℕ). hear logins (state_after next.event) l) (sym left) ∙ ap (λ s. hear logins s c.give_back.new.self.pending) (sym state-is)),
    )
