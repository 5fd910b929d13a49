-- What is sent for a connection's events, and the order in which they stand.
use Rattle.std.specs.Prelude.{◌≡◌, ℕ, ◌+◌, Option, Some, None, List, [], ◌∷◌, ◌++◌, map, flat_map}
use Rattle.s4_types.specs.declared.principal.Caller.{Caller}
use Rattle.s4_types.specs.declared.request.Request as asked
use Rattle.s4_types.specs.declared.reply.Reply.{Reply}
use Rattle.s4_types.specs.declared.principal.WireVersion.{WireVersion}
use Rattle.s4_types.specs.Limits.{data_asked, number_of_version}
use Rattle.s4_codec.specs.Frames.{framed}
use Rattle.s4_codec.specs.Replies.{reply}
use Rattle.s4_codec.specs.Rooms.{reply_room}
use Rattle.s4_stream.specs.declared.event.Event.{Event}
use Rattle.s4_stream.specs.declared.event.Event.TheVariants.{Welcome, Request, Fault}
use Rattle.s4_stream.specs.declared.event.SessionFault as kinds
use Rattle.s4_stream.specs.declared.event.SessionFault.TheVariants.{Malformed, BadLogin, FrameLength}

-- FRAMES

-- the frame that answers a good Hello: kind 16, and its version
abbrev pub welcome : WireVersion → List ℕ
welcome version = framed (16 ∷ number_of_version version ∷ [])

-- a fault's number
abbrev pub fault_number : kinds.SessionFault → ℕ
fault_number Malformed = 1
fault_number BadLogin = 2
fault_number FrameLength = 3

-- the frame that tells a fault: kind 17, and its number
abbrev pub fault_frame : kinds.SessionFault → List ℕ
fault_frame f = framed (17 ∷ fault_number f ∷ [])

-- the frame of a reply, by its caller's version
abbrev pub reply_frame : WireVersion → Reply → List ℕ
reply_frame version r = framed ((reply version).spell r)

-- the most bytes of the frame that answers an event: 6 of a welcome or a fault
abbrev pub room_for : Event → ℕ
room_for (Welcome caller) = 6
room_for (Request caller r) = reply_room caller.version (data_asked r)
room_for (Fault f) = 6

-- EVENTS

-- how many of the events are requests
abbrev pub requests_in : List Event → ℕ
requests_in [] = 0
requests_in (Welcome caller ∷ events) = requests_in events
requests_in (Request caller r ∷ events) = requests_in events + 1
requests_in (Fault f ∷ events) = requests_in events

-- the versions of those who ask, one for each request
abbrev pub versions_in : List Event → List WireVersion
versions_in [] = []
versions_in (Welcome caller ∷ events) = versions_in events
versions_in (Request caller r ∷ events) = caller.version ∷ versions_in events
versions_in (Fault f ∷ events) = versions_in events

-- What is sent for events whose requests have these replies: the welcome for a good Hello, the reply to each request, the fault.
abbrev pub sent_for : List Event → List Reply → List ℕ
sent_for [] replies = []
sent_for (Welcome caller ∷ events) replies = welcome caller.version ++ sent_for events replies
sent_for (Request caller r ∷ events) [] = []
sent_for (Request caller r ∷ events) (x ∷ replies) = reply_frame caller.version x ++ sent_for events replies
sent_for (Fault f ∷ events) replies = fault_frame f ++ sent_for events replies

-- THEIR ORDER

-- the fault, if there is one
abbrev pub ended_by : Option kinds.SessionFault → List Event
ended_by None = []
ended_by (Some fault) = Fault fault ∷ []

-- the requests of a caller, and then the fault, if there is one
abbrev pub asked_until : Caller → List asked.Request → Option kinds.SessionFault → List Event
asked_until caller requests fault = map (Request caller) requests ++ ended_by fault

-- a good Hello of the caller, its requests, and then the fault, if there is one
abbrev pub talk_of : Caller → List asked.Request → Option kinds.SessionFault → List Event
talk_of caller requests fault = Welcome caller ∷ asked_until caller requests fault

-- Nothing but at most a fault; or the talk of the caller whom a good Hello names.
pub data IsTalk : List Event → Type 0 where
  Unwelcome : (fault : Option kinds.SessionFault) → IsTalk (ended_by fault)
  Welcomed : (caller : Caller) (requests : List asked.Request) (fault : Option kinds.SessionFault) → IsTalk (talk_of caller requests fault)

-- the frame of the fault, if there is one
abbrev pub fault_bytes : Option kinds.SessionFault → List ℕ
fault_bytes None = []
fault_bytes (Some fault) = fault_frame fault

-- For events that are at most the fault no more than its frame is sent, whatever the replies.
abbrev pub TellsFaultAlone : Option kinds.SessionFault → Type 0
TellsFaultAlone fault = (replies : List Reply) → sent_for (ended_by fault) replies ≡ fault_bytes fault

-- the Welcome of a version, the replies in order, and the frame of the fault, if there is one
abbrev pub told_in_order : WireVersion → List Reply → Option kinds.SessionFault → List ℕ
told_in_order version replies fault = welcome version ++ flat_map (reply_frame version) replies ++ fault_bytes fault
