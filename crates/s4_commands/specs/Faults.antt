-- What the program exits with, and what it tells.
use Rattle.std.specs.Prelude.{ℕ, List, ◌++◌, codes, decimal, string_bytes}
use Rattle.s4_commands.specs.declared.fault.Fault.{Fault}
use Rattle.s4_commands.specs.declared.fault.Fault.TheVariants as fault
use Rattle.s4_asking.specs.Faults as asking
use Rattle.s4_client.specs.Texts.{call_fault_text}
use Rattle.s4_command.specs.Faults as words
use Rattle.s4_run.specs.Texts as run
use Rattle.s4_server.specs.Faults as server
use Rattle.s4_starts.specs.Texts as starts

-- what the program exits with: what words that spell no command, lines of requests, or a fault of journals have it exit with, or else 1
abbrev pub exit_status : Fault → ℕ
exit_status (fault.CommandLine why) = words.exit_status why
exit_status (fault.Ask why) = asking.exit_status why
exit_status (fault.History why) = starts.exit_status why
exit_status other = 1

-- a cause behind what is told, and one in a line below
abbrev pub behind : List ℕ → List ℕ
behind cause = codes ": " ++ cause

abbrev pub below : List ℕ → List ℕ
below cause = codes "\ns4d: why: " ++ cause

-- why the program ends without success
abbrev pub fault_text : Fault → List ℕ
fault_text (fault.CommandLine why) = words.fault_text why
fault_text (fault.Run why) = run.fault_text why
fault_text (fault.RunCaused why cause) = run.fault_text why ++ behind (string_bytes cause)
fault_text (fault.Explained why cause) = run.fault_text why ++ below (string_bytes cause)
fault_text (fault.BadFiles bad all) = codes "bad files: " ++ decimal bad ++ codes " of " ++ decimal all
fault_text (fault.CannotReadFile told) = codes "cannot read " ++ string_bytes told
fault_text (fault.Call why) = call_fault_text why
fault_text (fault.CannotConnect cause) = codes "cannot connect" ++ behind (string_bytes cause)
fault_text (fault.Ask why) = asking.ask_fault_text why
fault_text fault.EndIsThere = codes "the file of --until is there already"
fault_text (fault.CannotLook cause) = codes "cannot look for the file of --until" ++ behind (string_bytes cause)
fault_text (fault.SetupLine number cause) = codes "setup line " ++ decimal number ++ behind (string_bytes cause)
fault_text (fault.CannotWriteFile told) = codes "cannot write " ++ string_bytes told
fault_text (fault.CannotListen cause) = codes "cannot listen" ++ behind (string_bytes cause)
fault_text (fault.Serve why) = server.fault_text why
fault_text (fault.History why) = starts.fault_text why
fault_text (fault.HistoryCaused why cause) = starts.fault_text why ++ behind (string_bytes cause)
