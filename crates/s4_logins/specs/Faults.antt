-- Why there is no table of logins, and what is told of it.
use Rattle.std.specs.Prelude.{ℕ, List, ◌++◌, codes, decimal}
use Rattle.s4_logins.specs.declared.fault.LoginsFault.{LoginsFault}
use Rattle.s4_logins.specs.declared.fault.LoginsFault.TheVariants as fault
use Rattle.s4_script.specs.declared.text.TextFault.{TextFault}
use Rattle.s4_script.specs.declared.text.TextFault.TheVariants as text_fault
use Rattle.s4_stream.specs.declared.logins.LoginFault.{LoginFault}
use Rattle.s4_stream.specs.declared.logins.LoginFault.TheVariants as login_fault

-- the fault of a text that is no table of logins; a bad line and one of a principal that stands above are told alike
abbrev pub fault_of_logins : LoginFault → LoginsFault
fault_of_logins (login_fault.BadLine number) = fault.Line number
fault_of_logins (login_fault.Doubled number) = fault.Line number
fault_of_logins login_fault.NoMemory = fault.NoMemory

-- the fault of a text that doesn't come in
abbrev pub fault_of_text : TextFault → LoginsFault
fault_of_text text_fault.CannotRead = fault.CannotRead
fault_of_text text_fault.NoMemory = fault.NoMemory

abbrev pub fault_text : LoginsFault → List ℕ
fault_text (fault.Line number) = codes "logins line " ++ decimal number
fault_text fault.CannotRead = codes "cannot read logins"
fault_text fault.Unguarded = codes "others may write the logins"
fault_text fault.NoMemory = codes "no memory"
