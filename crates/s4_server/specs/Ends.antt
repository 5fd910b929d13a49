-- What a server is at its end.
use Rattle.std.specs.Prelude.{◌≡◌, ℕ, List, length}
use Rattle.s4_types.specs.Log.{Log}
use Rattle.s4_types.specs.declared.record.Record.{Record}
use Rattle.s4_passes.specs.Calls.{CallList}
use Rattle.s4_closing.specs.Closing.{IsClosing, NoneUncounted}

-- Cells and so many records are those of a closing: each cell ever had as many records as calls count in it, and so many are of the one history of all cells.
pub record IsEnd (window : ℕ) (cells : List Log) (records : ℕ) : Type 0 where
  pub passes : List CallList
  pub history : List Record
  pub counted : NoneUncounted cells passes
  pub closing : IsClosing window cells passes history
  pub count : records ≡ length history
