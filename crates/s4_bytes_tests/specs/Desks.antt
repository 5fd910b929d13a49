-- The calls of a desk are the records of its drive.
use Rattle.s4_types.specs.declared.record.Record.{Record}
use Rattle.s4_talk.specs.Calls.{Call}

abbrev pub call_of : Record → Call
call_of r = record { caller = r.caller; request = r.request; reply = r.reply }
