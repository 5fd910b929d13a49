-- Which peers stay once their server has a newer login table.
use Rattle.std.specs.Prelude.{Bool, true, false, Option, Some, None, is_some}
use Rattle.s4_types.specs.declared.principal.Caller.{Caller}
use Rattle.s4_stream.specs.declared.event.SessionFault.{SessionFault}
use Rattle.s4_stream.specs.Logins.{Logins, keeps_login}

-- one who is welcomed, where their secret is the same in both tables; else only one who was told a fault
abbrev pub stays : Option Caller → Option SessionFault → Logins → Logins → Bool
stays (Some caller) fault old new = keeps_login old new caller.who
stays None fault old new = is_some fault

-- and one of whom nothing was heard, who goes by the newer table
abbrev pub may_stay : Bool → Option Caller → Option SessionFault → Logins → Logins → Bool
may_stay true caller fault old new = true
may_stay false caller fault old new = stays caller fault old new
