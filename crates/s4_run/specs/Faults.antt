-- Which fault it is.
use Rattle.std.specs.Prelude.{ℕ}
use Rattle.s4_run.specs.declared.fault.RunFault.{RunFault}
use Rattle.s4_run.specs.declared.fault.RunFault.TheVariants as fault
use Rattle.s4_logins.specs.declared.fault.LoginsFault.{LoginsFault}
use Rattle.s4_logins.specs.declared.fault.LoginsFault.TheVariants as logins_fault
use Rattle.s4_script.specs.declared.error.ParseError.{ParseError}
use Rattle.s4_script.specs.declared.error.ParseError.TheVariants as parse_error
use Rattle.s4_script.specs.declared.text.TextFault.{TextFault}
use Rattle.s4_script.specs.declared.text.TextFault.TheVariants as text_fault

-- the fault of a line, by its number, that isn't taken
abbrev pub fault_of_line : ParseError → ℕ → RunFault
fault_of_line parse_error.Bad number = fault.BadLine number
fault_of_line parse_error.NoMemory number = fault.NoMemory

-- the fault where there is no table of logins
abbrev pub fault_of_logins : LoginsFault → RunFault
fault_of_logins (logins_fault.Line number) = fault.LoginsLine number
fault_of_logins logins_fault.CannotRead = fault.CannotReadLogins
fault_of_logins logins_fault.Unguarded = fault.UnguardedLogins
fault_of_logins logins_fault.NoMemory = fault.NoMemory

-- the fault of a text that doesn't come in
abbrev pub fault_of_text : TextFault → RunFault
fault_of_text text_fault.CannotRead = fault.CannotRead
fault_of_text text_fault.NoMemory = fault.NoMemory
