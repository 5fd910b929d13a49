use Rattle.std.proofs.Common.{◌≤◌, rules}
use Rattle.s4_base.specs.Lists.{base_of_lists}
use Rattle.s4_drive_tests.proofs.Follows.{next-base}
use Rattle.s4_drive_tests.proofs.following.follow.Goals as goal

pub returns : goal.returns
returns g c =
    let low : c.args.base.now.cut ≤ c.args.added.now.moment = search rules in
    next-base (base_of_lists c.args.base.now) (base_of_lists c.follow.new.self) c.args.added.now c.requires low c.in_ok-follow.ensures.ok
