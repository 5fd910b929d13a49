use Rattle.std.proofs.Common.{◌≡◌, [], ◌∷◌, ◌++◌, rules}
use Rattle.s4_server.proofs.Seating.{taken}
use Rattle.s4_server.proofs.workers.staff.Goals as goal

pub invariant_of-push : goal.invariant_of-push
invariant_of-push g c =
    let is : c.loop-pass.seats.items ≡ c.pop.new.self.items ++ c.in-Some-pop.seat ∷ [] = search rules in
    record { same = (taken c.args.jobs.now.queue c.loop-pass.seats.items c.pop.new.self.items c.in-Some-pop.seat is c.loop-pass.invariant).0 }

pub loop-pass-preserved-in-Continue-1 : goal.loop-pass-preserved-in-Continue-1
loop-pass-preserved-in-Continue-1 g c =
    let is : c.loop-pass.seats.items ≡ c.pop.new.self.items ++ c.in-Some-pop.seat ∷ [] = search rules in
    (taken c.args.jobs.now.queue c.loop-pass.seats.items c.pop.new.self.items c.in-Some-pop.seat is c.loop-pass.invariant).1
