use Rattle.std.proofs.Common.{ap}
use Rattle.s4_types.specs.Play.{replies}
use Rattle.s4_types.specs.Strike.{is_near, stays}
use Rattle.s4_laws.proofs.Isolation.{play-strike, records-strike, never_down-filter}
use Rattle.s4_laws.proofs.principals.strangers_change_nothing.Goals as goal

pub returns : goal.returns
returns c = record {
  records = records-strike;
  replies = λ window who steps z. ap replies (records-strike window who steps z);
  struck = play-strike;
  moments = λ from who steps. never_down-filter (stays who (is_near who steps)) from steps;
}
