use Rattle.std.proofs.Common.{rules, ◌≡◌, ◌+◌, ◌-◌, ◌++◌, ℕ, Some, List, [], ◌∷◌, length, drop, take, sym, ap, subst, ◌∙◌, arith}
use Rattle.std.proofs.Math.ListN.{drop_of_length-le}
use Rattle.std.proofs.lemmas.List.{take_all, length-drop, drop-drop}
use Rattle.s4_stream.specs.declared.event.SessionState.TheVariants as states
use Rattle.s4_stream.specs.Stream.{state_after}
use Rattle.s4_stream.specs.Feeding.{StandsFirst}
use Rattle.s4_stream.proofs.Hearing.{next_ends, next_goes_on}
use Rattle.s4_stream.proofs.session.hear_frame.Goals as goal
use Rattle.s4_stream.proofs.session.hear_frame.Goals.{in-Closed, in_default-matches}

pub returns-clause-heard : goal.returns-clause-heard
returns-clause-heard c =
    let logins = c.args.logins.now in
    let bytes : List ℕ = c.args.bytes.now in
    let old = c.args.hearing.now in
    let next = c.in-Some.field-0 in
    let left : List ℕ = drop old.count bytes in
    let slice : take (length bytes - old.count) left ≡ left = take_all (length bytes - old.count) left (omega (arith, length-drop old.count bytes)) in
    let stands : StandsFirst logins old.state left (Some next)
    = subst (λ (w : List ℕ). StandsFirst logins old.state w (Some next)) slice (subst (λ o. StandsFirst logins old.state (take (length bytes - old.count) left) o) c.in-Some.is c.in_ok-event.ensures.first) in
    let rest : drop (old.count + next.count) bytes ≡ drop next.count left = sym (drop-drop next.count old.count bytes) in
    let state-is : c.state_after-state.result ≡ state_after next.event = search rules in
    let events-are : c.push.new.self.items ≡ old.events.items ++ next.event ∷ [] = search rules in
    elim c.match-matches.branch [
      | in-Closed w ↦
          let ends : state_after next.event ≡ states.Closed = sym state-is ∙ w.in-Closed.is in
          let all : next.count ≡ length (take (length bytes - old.count) left) = search rules in
          let none : drop next.count left ≡ [] = drop_of_length-le left (omega (arith, all, ap length slice)) in
          rw (w.matches-is, events-are, state-is, rest) (next_ends logins old.events.items old.state left next stands ends none)
      | in_default-matches w ↦
          let goes : state_after next.event ≡ states.Closed → ⊥ = search rules in
          rw (w.matches-is, events-are, state-is, rest) (next_goes_on logins old.events.items old.state left next stands goes)
    ]
