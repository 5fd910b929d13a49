use Rattle.std.proofs.Common.{arith, ◌≡◌, ◌+◌, ◌-◌, ◌∷◌, sym, ap, ◌∙◌, length, ℕ}
use Rattle.std.proofs.lemmas.Grind.{common_steps}
use Rattle.s4_jobs.specs.Seats.{beginner}
use Rattle.s4_jobs.proofs.Openings.{opened, opened_fresh}
use Rattle.s4_jobs.proofs.queue.Jobs.open.Goals as goal

pub returns-clause-all : goal.returns-clause-all
returns-clause-all g c =
    let jobs = c.in_ok-jobs.jobs in
    let first = c.add_seats.new.first in
    let rest = c.in_ok-rest.rest.items in
    let items : c.append.new.self.items ≡ first ∷ rest = grind (arith, common_steps) in
    let count : (c.args.seats - 1) + 1 ≡ length rest + 1 = ap (λ (n : ℕ). n + 1) (sym c.in_ok-rest.ensures.count) in
    rw items (opened jobs first rest (c.in_ok-rest.ensures.first ∙ ap (beginner jobs.queue 0) count) c.in_ok-rest.ensures.rest)

pub returns-clause-fresh : goal.returns-clause-fresh
returns-clause-fresh g c =
    let jobs = c.in_ok-jobs.jobs in
    let first = c.add_seats.new.first in
    let rest = c.in_ok-rest.rest.items in
    let items : c.append.new.self.items ≡ first ∷ rest = grind (arith, common_steps) in
    rw items (opened_fresh jobs first rest ((c.args.seats - 1) + 1) c.in_ok-rest.ensures.first c.in_ok-rest.ensures.rest)
