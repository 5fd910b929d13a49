use Rattle.s4_types.specs.Play.{is_no_memory}
use Rattle.s4_server.proofs.Told.{told_served}
use Rattle.s4_server.proofs.desk.Desk.carry_out.Goals as goal

-- its call is added where it was served
pub returns-clause-called : goal.returns-clause-called
returns-clause-called g c = told_served (is_no_memory c.serve-reply.result) c.args.self.now.pass c.serve-reply.new.pass c.args.caller c.args.moment c.args.request.now c.serve-reply.result c.serve-reply.ensures.pass
