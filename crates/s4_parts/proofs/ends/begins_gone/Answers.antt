use Rattle.std.proofs.Common.{sym, ◌∙◌, ap}
use Rattle.std.specs.Prelude.{nat_le}
use Rattle.std.specs.Option.{option_copied}
use Rattle.s4_parts.proofs.Fronts.{first_gone, none_gone}
use Rattle.s4_parts.proofs.ends.begins_gone.Goals as goal

pub returns-in-Some : goal.returns-in-Some
returns-in-Some c =
    ap (λ a. nat_le a c.tick-in-Some.result) c.tick.ensures ∙ ap (λ b. nat_le c.in-Some.ended.now.end b) c.tick-in-Some.ensures
    ∙ first_gone c.args.horizon c.args.entries.now.items c.in-Some.ended.now (sym c.front.ensures ∙ ap option_copied c.in-Some.is)

pub returns-in-None : goal.returns-in-None
returns-in-None c = none_gone c.args.horizon c.args.entries.now.items (sym c.front.ensures ∙ ap option_copied c.in-None.is)
