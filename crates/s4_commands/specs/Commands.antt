-- What a command writes.
use Rattle.std.specs.Prelude.{ℕ, ⊤, List, Option, string_bytes}
use Rattle.std.specs.Io.KnownBytes.{Appends}
use Rattle.s4_commands.specs.Calling.{TellsSomeReply}
use Rattle.s4_commands.specs.Serving.{TellsService, checked_line}
use Rattle.s4_command.specs.declared.command.Command.{Command}
use Rattle.s4_command.specs.declared.command.Command.TheVariants as command

-- a text that is to be shown, the text of a reply to a call, the lines of a server or that of one that would listen
-- follow what was written before, where that is known; of runs and of files that are looked at nothing is said
abbrev pub IsObeyed : Command → Option (List ℕ) → Option (List ℕ) → Type 0
IsObeyed (command.Show text) before after = Appends before after (string_bytes text)
IsObeyed (command.Call call) before after = TellsSomeReply before after
IsObeyed (command.Serve service) before after = TellsService service before after
IsObeyed (command.Check service) before after = Appends before after (checked_line (string_bytes service.address))
IsObeyed other before after = ⊤
