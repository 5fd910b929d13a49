-- What ends requests of lines, as it is told.
use Rattle.std.specs.Prelude.{ℕ, List, ◌++◌, codes, decimal, string_bytes}
use Rattle.s4_client.specs.Texts.{call_fault_text}
use Rattle.s4_asking.specs.declared.fault.AskFault.{AskFault}
use Rattle.s4_asking.specs.declared.fault.AskFault.TheVariants as fault
use Rattle.s4_asking.specs.declared.line_fault.LineFault.{LineFault}
use Rattle.s4_asking.specs.declared.line_fault.LineFault.TheVariants as line_fault

-- a reply isn't the one that is wanted
abbrev pub unlike_text : List ℕ → List ℕ → List ℕ
unlike_text told wanted = (codes "the reply is '" ++ told ++ codes "'") ++ (codes ", and '" ++ wanted ++ codes "' is wanted")

-- why a line's request isn't asked, or its reply isn't what it has to be
abbrev pub line_fault_text : LineFault → List ℕ
line_fault_text line_fault.CannotRead = codes "cannot read"
line_fault_text line_fault.Cut = codes "bad request: no line feed stands behind it"
line_fault_text line_fault.TooLong = codes "bad request: it has more than 524288 bytes"
line_fault_text line_fault.Empty = codes "bad request: the line is empty"
line_fault_text line_fault.Return = codes "bad request: a carriage return stands behind the reply"
line_fault_text (line_fault.BadRequest cause) = codes "bad request: " ++ string_bytes cause
line_fault_text line_fault.TooBig = codes "bad request: it is longer than a frame takes"
line_fault_text (line_fault.NoLogin who) = codes "the logins have no principal " ++ decimal who
line_fault_text (line_fault.CannotConnect cause) = codes "cannot connect: " ++ string_bytes cause
line_fault_text (line_fault.Call why) = call_fault_text why
line_fault_text (line_fault.Unlike told wanted) = unlike_text (string_bytes told) (string_bytes wanted)
line_fault_text line_fault.NoMemory = codes "no memory"

-- why not all was asked, or not all was granted
abbrev pub ask_fault_text : AskFault → List ℕ
ask_fault_text (fault.Call why) = call_fault_text why
ask_fault_text (fault.Line number why) = codes "line " ++ decimal number ++ codes ": " ++ line_fault_text why
ask_fault_text fault.CannotWrite = codes "cannot write"
ask_fault_text fault.Refused = codes "a request was refused"

-- what the program exits with where a line ended it: 3 where a reply isn't the one that is wanted
abbrev pub line_status : LineFault → ℕ
line_status (line_fault.Unlike told wanted) = 3
line_status other = 1

-- what the program exits with: 3 where a request was refused, or a reply isn't the one that is wanted
abbrev pub exit_status : AskFault → ℕ
exit_status fault.Refused = 3
exit_status (fault.Line number why) = line_status why
exit_status other = 1
