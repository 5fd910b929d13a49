-- What a base tells that is kept beside a drive.
use Rattle.std.specs.Prelude.{◌≡◌, ◌≤◌}
use Rattle.s4_types.specs.Play.{last_of}
use Rattle.s4_types.specs.Log.{Log, base_of, horizon_in}
use Rattle.s4_cuts.specs.Cut.{IsHistory}
use Rattle.s4_cuts.specs.CutLog.{base_left}
use Rattle.s4_base.specs.Lists.{Lists, base_of_lists}
use Rattle.s4_base.specs.Changes.{CanFollowAll}

-- the base tells what the records left that went, and can follow those that are left: all that there were can be followed in turn
pub record IsKept (log : Log) (lists : Lists) : Type 0 where
  pub history : IsHistory (base_of log) log.history (last_of log.history)
  -- no cut was above the horizon
  pub told : log.cut ≤ horizon_in log
  pub base : base_of_lists lists ≡ base_left log
  pub follows : CanFollowAll (base_of log) log.history
