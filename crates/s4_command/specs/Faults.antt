-- What words that spell no command are told as.
use Rattle.std.specs.Prelude.{◌≡◌, ⊤, ℕ, List, ◌++◌, codes, string_bytes}
use Rattle.s4_client.specs.declared.fault.CallFault.{CallFault}
use Rattle.s4_client.specs.declared.fault.CallFault.TheVariants as call_fault
use Rattle.s4_command.specs.declared.fault.WordsFault.{WordsFault}
use Rattle.s4_command.specs.declared.fault.WordsFault.TheVariants as fault

-- what the program exits with: 2 where the words are wrong, or else 1
abbrev pub exit_status : WordsFault → ℕ
exit_status (fault.Wrong text) = 2
exit_status other = 1

-- why the words spell no command
abbrev pub fault_text : WordsFault → List ℕ
fault_text (fault.Wrong text) = string_bytes text
fault_text (fault.CannotReadFile told) = codes "cannot read " ++ string_bytes told
fault_text (fault.BadRequest cause) = codes "bad request: " ++ string_bytes cause
fault_text fault.TooLong = codes "bad request: it is longer than a frame takes"
fault_text fault.NoMemory = codes "no memory"

-- it is the fault of words that are told by this text, unless memory ran out
abbrev pub IsFaultOf : List ℕ → WordsFault → Type 0
IsFaultOf said (fault.Wrong text) = string_bytes text ≡ said
IsFaultOf said fault.NoMemory = ⊤
IsFaultOf said other = ⊥

-- the fault of a call that can't be made of its request, unless memory ran out
abbrev pub fault_of_call : CallFault → WordsFault
fault_of_call call_fault.NoMemory = fault.NoMemory
fault_of_call other = fault.TooLong
