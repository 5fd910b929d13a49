-- What reading a text of logins gives, and what is the same in two tables.
use Rattle.std.specs.Prelude.{◌≡◌, ⊤, Bool, ◌==◌, ◌&&◌, Result, Ok, Err, length}
use Rattle.s4_stream.specs.Logins.{Logins, changed_in, missing_in}
use Rattle.s4_stream.specs.declared.logins.LoginFault.{LoginFault}
use Rattle.s4_logins.specs.declared.fault.LoginsFault.{LoginsFault}
use Rattle.s4_logins.specs.declared.fault.LoginsFault.TheVariants as fault
use Rattle.s4_logins.specs.Faults.{fault_of_logins}

-- a table, or the fault of its text as it is told
abbrev pub told : Result Logins LoginFault → Result Logins LoginsFault
told (Ok table) = Ok table
told (Err why) = Err (fault_of_logins why)

-- the result is what was said of the text, unless memory ran out
abbrev pub IsLogins : Result Logins LoginsFault → Result Logins LoginFault → Type 0
IsLogins (Err fault.NoMemory) said = ⊤
IsLogins result said = result ≡ told said

-- whether the newer table adds, changes and removes nobody
abbrev pub is_same_table : Logins → Logins → Bool
is_same_table older newer = length (missing_in newer older) == 0 && length (changed_in older newer) == 0 && length (missing_in older newer) == 0
