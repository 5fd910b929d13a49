use Rattle.std.proofs.Common.{sym, ◌∙◌, ap}
use Rattle.std.specs.Option.{option_copied}
use Rattle.s4_objects.proofs.Queueing.{first_gone, none_gone}
use Rattle.s4_objects.proofs.ends.begins_gone.Goals as goal

pub returns-in-Some : goal.returns-in-Some
returns-in-Some c = c.le.ensures ∙ first_gone c.args.horizon c.args.ends.now.items c.in-Some.ended.now (sym c.front.ensures ∙ ap option_copied c.in-Some.is)

pub returns-in-None : goal.returns-in-None
returns-in-None c = none_gone c.args.horizon c.args.ends.now.items (sym c.front.ensures ∙ ap option_copied c.in-None.is)
