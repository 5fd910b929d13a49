use Rattle.std.proofs.Common.{rules, ◌≡◌, Global}
use Rattle.std_alloc.specs.Arc.{arc_value}
use Rattle.std_alloc.specs.declared.arc.Arc.{Arc}
use Rattle.s4_sockets.specs.declared.trail.Trail.{Trail}
use Rattle.s4_sockets.proofs.Owned.{owned_put}
use Rattle.s4_sockets.proofs.trails.TrailTable.add.Goals as goal

-- it is put under its own number
pub invariant_of-self : goal.invariant_of-self
invariant_of-self c =
    let own : (arc_value c.args.trail).who ≡ c.number.result = search rules in
    record {
      own = owned_put (λ (trail : Arc Trail Global). (arc_value trail).who) c.insert.result c.args.self.now.each c.insert.new.self c.number.result c.args.trail own c.insert.ensures.updates c.insert.ensures.err c.args.self.now.own;
    }
