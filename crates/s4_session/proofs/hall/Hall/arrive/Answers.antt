use Rattle.std.proofs.Common.{rules}
use Rattle.s4_session.proofs.Arriving.{adds}
use Rattle.s4_session.proofs.hall.Hall.arrive.Goals as goal

pub returns-clause-adds : goal.returns-clause-adds
returns-clause-adds c window logins arrivals told stands =
    adds window logins arrivals told c.args.self.now _ c.args.conn c.args.moment c.args.piece.now c.in_ok-sent.sent.items stands (search rules)
