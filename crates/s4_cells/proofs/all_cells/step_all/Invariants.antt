use Rattle.std.proofs.Common.{◌≡◌, ◌<◌, ◌≤◌, IsTrue}
use Rattle.s4_types.specs.Limits.{data_asked, data_in, is_within_limits}
use Rattle.s4_cells.specs.Many.{FirstAdd, wide_record}
use Rattle.s4_cells.proofs.all_cells.step_all.Given as goal

-- the first cells have the record, and the last of them told its reply
abbrev pub invariant-loop-place : goal.invariant-loop-place
invariant-loop-place l =
    let r = wide_record l.moment l.caller l.request in
    record {
      adds : FirstAdd r l.place l.initial.cells l.cells;
      told : 0 < l.place → l.told.reply ≡ r.reply;
      copy : l.told.copy ≡ l.told.reply;
      limits : IsTrue (is_within_limits l.caller.version l.told.reply);
      asked : data_in l.told.reply ≤ data_asked l.request;
    }
