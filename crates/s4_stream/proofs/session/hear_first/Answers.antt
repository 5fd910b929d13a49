use Rattle.std.proofs.Common.{rules, ◌≡◌, ◌-◌, ◌≤◌, ℕ, suc, List, length, drop, sym, ap, ◌∙◌, arith}
use Rattle.s4_codec.specs.Frames.{Whole, BadLength, front_of}
use Rattle.s4_codec.specs.Fronts.{lists_of}
use Rattle.s4_stream.specs.declared.event.Event.{Event}
use Rattle.s4_stream.specs.declared.event.SessionState.TheVariants as states
use Rattle.s4_stream.specs.Stream.{hear_frames, first, said, state_after, limit_at}
use Rattle.s4_codec.proofs.FrontLaws.{behind, behind_at}
use Rattle.s4_stream.proofs.Hearing.{whole_first, fault_first, bad_first}
use Rattle.s4_stream.proofs.session.hear_first.Goals as goal
use Rattle.s4_stream.proofs.session.hear_first.Goals.{in-Fault, in_default}

pub returns-after-event-clause-first : goal.returns-after-event-clause-first
returns-after-event-clause-first c n =
    let logins = c.args.logins.now in
    let state = c.args.state.now in
    let bytes : List ℕ = c.args.bytes.now in
    let body : List ℕ = c.in-Whole.body.now in
    let rest : List ℕ = c.in-Whole.rest.now in
    let event : Event = c.in_ok-event-in-Whole.event in
    let front : front_of (limit_at state) bytes ≡ Whole body rest = ap (λ (k : ℕ). front_of k bytes) (sym c.limit_at.ensures) ∙ sym c.read_frame.ensures ∙ ap lists_of c.in-Whole.is in
    let event-is : event ≡ said logins state body = search rules in
    let heard : hear_frames (suc n) logins state bytes ≡ first event (hear_frames n logins (state_after event) rest)
    = whole_first n logins state bytes body rest c.requires.live front ∙ ap (λ (e : Event). first e (hear_frames n logins (state_after e) rest)) (sym event-is) in
    let none : 0 ≤ length bytes = omega arith in
    let left : drop (length bytes - length rest) bytes ≡ rest = behind_at bytes rest 0 none (behind (limit_at state) bytes body rest front) in
    elim c.match-event.branch [
      | in-Fault w ↦
          let ends : state_after event ≡ states.Closed = ap state_after w.in-Fault.is in
          rw w.count-is (heard ∙ fault_first n logins event rest (drop (length bytes) bytes) ends)
      | in_default w ↦ rw w.count-is (heard ∙ ap (λ (l : List ℕ). first event (hear_frames n logins (state_after event) l)) (sym left))
    ]

pub returns-in-BadLength-clause-first : goal.returns-in-BadLength-clause-first
returns-in-BadLength-clause-first c n =
    let bytes : List ℕ = c.args.bytes.now in
    let front : front_of (limit_at c.args.state.now) bytes ≡ BadLength = ap (λ (k : ℕ). front_of k bytes) (sym c.limit_at.ensures) ∙ sym c.read_frame.ensures ∙ ap lists_of c.in-BadLength.is in
    bad_first n c.args.logins.now c.args.state.now bytes (drop (length bytes) bytes) c.requires.live front
