-- What a desk has answered.
use Rattle.std.specs.Prelude.{List, map}
use Rattle.s4_passes.specs.declared.call.Call as kept
use Rattle.s4_talk.specs.Calls.{Call}

-- a call that a pass keeps, without where its record stands
abbrev pub call_told : kept.Call → Call
call_told call = record { caller = call.asked.caller; request = call.asked.request; reply = call.receipt.reply }

-- the calls that a pass keeps
abbrev pub calls_told : List kept.Call → List Call
calls_told calls = map call_told calls
