-- What is told where a call has no reply.
use Rattle.std.specs.Prelude.{ℕ, List, ◌++◌, codes, decimal}
use Rattle.s4_stream.specs.Talk.{fault_number}
use Rattle.s4_stream.specs.declared.event.SessionFault.{SessionFault}
use Rattle.s4_stream.specs.declared.event.SessionFault.TheVariants as session
use Rattle.s4_client.specs.declared.fault.CallFault.{CallFault}
use Rattle.s4_client.specs.declared.fault.CallFault.TheVariants as fault

-- the name of a fault of a session
abbrev pub fault_name : SessionFault → List ℕ
fault_name session.Malformed = codes "malformed"
fault_name session.BadLogin = codes "bad login"
fault_name session.FrameLength = codes "frame length"

abbrev pub call_fault_text : CallFault → List ℕ
call_fault_text fault.BadRequest = codes "bad request"
call_fault_text fault.ConnectionLost = codes "connection lost"
call_fault_text (fault.Session told) = codes "session fault " ++ decimal (fault_number told) ++ codes ": " ++ fault_name told
call_fault_text fault.NoMemory = codes "no memory"
