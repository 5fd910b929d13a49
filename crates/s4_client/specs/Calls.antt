-- What a call sends and hears.
use Rattle.std.specs.Prelude.{◌⊎◌, ⊤, ℕ, Option, Result, List, ◌++◌, take, IsErrOf}
use Rattle.std.specs.Io.KnownBytes.{Appends, Consumes}
use Rattle.s4_types.specs.declared.request.Request.{Request}
use Rattle.s4_types.specs.declared.principal.WireVersion.{WireVersion}
use Rattle.s4_codec.specs.Frames.{framed}
use Rattle.s4_codec.specs.Requests as requests
use Rattle.s4_stream.specs.declared.hello.Hello.{Hello}
use Rattle.s4_stream.specs.declared.event.SessionFault.{SessionFault}
use Rattle.s4_stream.specs.Hello as hellos
use Rattle.s4_client.specs.declared.fault.CallFault.{CallFault}
use Rattle.s4_client.specs.declared.fault.CallFault.TheVariants as fault
use Rattle.s4_stream.specs.Talk.{welcome, fault_frame}

-- the frame of a Hello
abbrev pub greeting_of : Hello → List ℕ
greeting_of hello = framed (hellos.hello.spell hello)

-- the frame of a request in a version
abbrev pub request_frame : WireVersion → Request → List ℕ
request_frame version request = framed ((requests.request version).spell request)

-- the frame of the Hello, and then that of the request, in the Hello's version
abbrev pub message_of : Hello → Request → List ℕ
message_of hello request = greeting_of hello ++ request_frame hello.caller.version request

-- A beginning of these bytes is written, and nothing else.
abbrev pub Begins : Option (List ℕ) → Option (List ℕ) → List ℕ → Type 0
Begins old new bytes = (n : ℕ) × Appends old new (take n bytes)

-- What is read is the frame of the fault, or the Welcome of the version and then that frame.
abbrev pub HearsFault : WireVersion → Option (List ℕ) → Option (List ℕ) → SessionFault → Type 0
HearsFault version old new fault = Consumes old new (fault_frame fault) ⊎ Consumes old new (welcome version ++ fault_frame fault)

-- That holds of the fault of the session, where one ended the call.
abbrev pub IfFault : {T : Type 0} → Result T CallFault → (SessionFault → Type 0) → Type 0
IfFault result P = (told : SessionFault) → IsErrOf result (fault.Session told) → P told

-- There is no reply, or not enough memory.
abbrev pub IsLoss : CallFault → Type 0
IsLoss fault.ConnectionLost = ⊤
IsLoss fault.NoMemory = ⊤
IsLoss other = ⊥

-- That, or a fault of the session: what a call may meet once it is connected.
abbrev pub IsMet : CallFault → Type 0
IsMet (fault.Session told) = ⊤
IsMet other = IsLoss other
