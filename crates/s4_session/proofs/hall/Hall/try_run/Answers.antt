use Rattle.std.proofs.Common.{◌≡◌, ◌<◌, ◌≤◌, ◌+◌, ◌++◌, ◌∷◌, [], ℕ, List, length, take, drop, sym, subst, arith}
use Rattle.std.proofs.lemmas.List.{take_all}
use Rattle.s4_session.specs.declared.hall_step.HallStep.{HallStep}
use Rattle.s4_session.specs.declared.hall_step.HallStep.TheVariants.{Arrive, Sweep}
use Rattle.s4_session.specs.Arrivals.{NeverDown}
use Rattle.s4_session.specs.Halls.{Hall, Takes}
use Rattle.s4_session.proofs.Sending.{Sends, sends_more, sends_swept, item_at, front_more, on_left, on_sent}
use Rattle.s4_session.proofs.hall.Hall.try_run.Goals as goal
use Rattle.s4_session.proofs.hall.Hall.try_run.Goals.{in-Arrive+in_ok-sent-in-Arrive+in_ok-add-in-Arrive, in-Sweep}

pub loop-step-preserved : goal.loop-step-preserved
loop-step-preserved c =
    let window : ℕ = c.args.self.now.log.opened in
    let logins = c.args.self.now.logins in
    let i : ℕ = c.loop-step.step-index in
    let all : List HallStep = c.args.steps.now in
    let within : i < length all = omega arith in
    let now : Hall = c.loop-step.self in
    let s = c.loop-step.invariant.sends in
    elim c.match-step.branch [
      | in-Arrive+in_ok-sent-in-Arrive+in_ok-add-in-Arrive w ↦
          let conn : ℕ = w.in-Arrive.conn in
          let t : ℕ = w.in-Arrive.moment in
          let piece : List ℕ = w.in-Arrive.piece in
          let x : HallStep = Arrive conn t piece in
          let front : take (i + 1) all ≡ take i all ++ x ∷ [] = front_more all i x c.step-item.result within c.step-item.is w.in-Arrive.is in
          let rest : drop i all ≡ x ∷ drop (i + 1) all = item_at all i x c.step-item.result within c.step-item.is w.in-Arrive.is in
          let takes : Takes conn t piece now w.arrive.new.self w.in_ok-sent-in-Arrive.sent.items = rw (← w.as_slice.ensures) w.in_ok-sent-in-Arrive.ensures.takes in
          let down : (now.last ≤ t) × NeverDown t (drop (i + 1) all) = subst (NeverDown now.last) rest c.loop-step.invariant.down in
          record {
            sends = rw (w.self-is, w.outbox-is, front) (sends_more window logins (take i all) now w.arrive.new.self c.loop-step.outbox w.add.new.self conn t piece w.in_ok-sent-in-Arrive.sent.items s takes w.in_ok-add-in-Arrive.ensures);
            down = rw w.self-is (subst (λ (m : ℕ). NeverDown m (drop (i + 1) all)) (sym takes.last) down.1);
            whole = rw w.self-is takes.not_failed;
          }
      | in-Sweep w ↦
          let n : ℕ = w.in-Sweep.n in
          let x : HallStep = Sweep n in
          let front : take (i + 1) all ≡ take i all ++ x ∷ [] = front_more all i x c.step-item.result within c.step-item.is w.in-Sweep.is in
          let rest : drop i all ≡ x ∷ drop (i + 1) all = item_at all i x c.step-item.result within c.step-item.is w.in-Sweep.is in
          let down : NeverDown now.last (drop (i + 1) all) = subst (NeverDown now.last) rest c.loop-step.invariant.down in
          record {
            sends = rw (w.self-is, w.outbox-is, w.sweep.ensures.swept, front) (sends_swept window logins (take i all) now c.loop-step.outbox n s);
            down = rw (w.self-is, w.sweep.ensures.swept) down;
            whole = rw (w.self-is, w.sweep.ensures.swept) c.loop-step.invariant.whole;
          }
    ]

pub returns-clause-leaves : goal.returns-clause-leaves
returns-clause-leaves c =
    let window : ℕ = c.args.self.now.log.opened in
    let logins = c.args.self.now.logins in
    let i : ℕ = c.loop-step.step-index in
    let all : List HallStep = c.args.steps.now in
    let front : take i all ≡ all = take_all i all (omega arith) in
    let sends : Sends window logins all c.loop-step.self c.loop-step.outbox = subst (λ (xs : List HallStep). Sends window logins xs c.loop-step.self c.loop-step.outbox) front c.loop-step.invariant.sends in
    on_left window logins all c.loop-step.self c.loop-step.outbox c.into_list.result c.into_list.ensures.list c.into_list.ensures.rising sends c.loop-step.invariant.whole

pub returns-clause-sent : goal.returns-clause-sent
returns-clause-sent c = on_sent c.args.self.now.log.opened c.args.self.now.logins c.args.steps.now c.loop-step.self c.into_list.result (returns-clause-leaves c)
