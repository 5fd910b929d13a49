use Rattle.std.proofs.Common.{◌≡◌}
use Rattle.s4_commands.proofs.setting_up.carry_out.Given as goal

abbrev pub invariant-loop-number : goal.invariant-loop-number
invariant-loop-number g l = l.server.settings ≡ l.initial.server.settings
