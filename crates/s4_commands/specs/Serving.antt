-- What a served drive tells.
use Rattle.std.specs.Prelude.{◌≡◌, ℕ, Bool, true, false, Option, List, [], ◌∷◌, ◌++◌, codes, decimal, flat_map, length, string_bytes}
use Rattle.std.specs.Option.{is_some}
use Rattle.std.specs.Io.KnownBytes.{Appends}
use Rattle.s4_types.specs.Log.{Log}
use Rattle.s4_cells.specs.Counts.{count_of}
use Rattle.s4_command.specs.declared.service.Service.{Service}
use Rattle.s4_server.specs.Ends.{IsEnd}

-- the line of a drive that listens at this address
abbrev pub listening_line : List ℕ → List ℕ
listening_line address = codes "listening " ++ address ++ 10 ∷ []

-- the line of a drive that would listen at this address
abbrev pub checked_line : List ℕ → List ℕ
checked_line address = codes "would listen " ++ address ++ 10 ∷ []

-- how many records each cell ever had, each behind a space
abbrev pub counts_text : List Log → List ℕ
counts_text cells = flat_map (λ cell. 32 ∷ decimal (count_of cell)) cells

-- the line of their counts
abbrev pub counted_line : List Log → List ℕ
counted_line cells = codes "counted" ++ counts_text cells ++ 10 ∷ []

-- the line of a drive whose history has so many records at its end
abbrev pub closed_line : ℕ → List ℕ
closed_line records = codes "closed " ++ decimal records ++ 10 ∷ []

-- the last lines, and whether the counts are among them
abbrev pub end_lines : Bool → List Log → ℕ → List ℕ
end_lines true cells records = counted_line cells ++ closed_line records
end_lines false cells records = closed_line records

-- It is told that it listens at its address, and at the end how many records its closing has; where it has a file for its status, before that the
-- counts of the closing's cells, of which there are as many as it has.
pub record TellsService (service : Service) (held held' : Option (List ℕ)) : Type 0 where
  pub cells : List Log
  pub records : ℕ
  pub count : length cells ≡ service.settings.cells
  pub end : IsEnd service.settings.window cells records
  pub written : Appends held held' (listening_line (string_bytes service.address) ++ end_lines (is_some service.status) cells records)
