-- What turns read, write and ask.
use Rattle.std.specs.Prelude.{◌≡◌, ℕ, Bool, true, false, IsTrue, Option, Some, None, Result, Ok, Err, List, [], ◌∷◌, ◌++◌, length}
use Rattle.std.specs.Io.KnownBytes.{Consumes, Appends, IsAtEnd}
use Rattle.s4_types.specs.declared.reply.Reply.{Reply}
use Rattle.s4_codec.specs.Fits.{fit}
use Rattle.s4_stream.specs.declared.event.Event.{Event}
use Rattle.s4_stream.specs.declared.event.Event.TheVariants.{Welcome, Request, Fault}
use Rattle.s4_stream.specs.declared.event.SessionFault as faults
use Rattle.s4_stream.specs.declared.event.SessionState.TheVariants.{Greeting, Closed}
use Rattle.s4_stream.specs.Logins.{Logins}
use Rattle.s4_stream.specs.Stream.{Heard, hear, events_of}
use Rattle.s4_stream.specs.Feeding.{Listening, after_events, hear_piece}
use Rattle.s4_stream.specs.Talk.{sent_for, requests_in, versions_in}
use Rattle.s4_talk.specs.declared.serving.Service.{Service}
use Rattle.s4_talk.specs.declared.serving.Service.TheVariants as service
use Rattle.s4_talk.specs.declared.turns.Intake.{Intake}
use Rattle.s4_talk.specs.declared.turns.Intake.TheVariants as intake
use Rattle.s4_talk.specs.declared.turns.TalkEnd.{TalkEnd}
use Rattle.s4_talk.specs.declared.turns.TalkEnd.TheVariants as ends
use Rattle.s4_talk.specs.declared.turns.TurnEnd.{TurnEnd}
use Rattle.s4_talk.specs.declared.turns.TurnEnd.TheVariants as turn
use Rattle.s4_talk.specs.Calls.{Call, calls_for}

-- SERVING

-- the last fault of the events, or this one where there is none
abbrev pub fault_after : Option faults.SessionFault → List Event → Option faults.SessionFault
fault_after fault [] = fault
fault_after fault (Welcome caller ∷ events) = fault_after fault events
fault_after fault (Request caller r ∷ events) = fault_after fault events
fault_after fault (Fault f ∷ events) = fault_after (Some f) events

-- The events are served, each once and in order: their requests have one reply each and are called, each reply has a
-- spelling within a frame of its caller's version, and what is sent for the events is added to the bytes.
pub record Serves (events : List Event) (calls calls' : List Call) (fault fault' : Option faults.SessionFault)
    (before after : List ℕ) : Type 0 where
  pub replies : List Reply
  pub each : length replies ≡ requests_in events
  pub bodies : IsTrue (fit (versions_in events) replies)
  pub called : calls' ≡ calls ++ calls_for events replies
  pub faulted : fault' ≡ fault_after fault events
  pub sent : after ≡ before ++ sent_for events replies

-- HEARING

-- what is heard of all that a session holds
abbrev pub heard_in : Logins → Listening → Heard
heard_in logins s = hear logins s.state s.pending

-- The bytes that are read, behind what the session held, say the events, and then what it holds now.
abbrev pub Hears : Logins → Listening → Listening → List ℕ → List Event → Type 0
Hears logins old new read events = hear_piece logins old read ≡ after_events events (heard_in logins new)

-- what the session holds says nothing more
abbrev pub IsDry : Logins → Listening → Type 0
IsDry logins s = (heard_in logins s).events ≡ []

-- the fault is there that closed the session, where one did
abbrev pub FaultIsMet : Listening → Option faults.SessionFault → Type 0
FaultIsMet s None = s.state ≡ Closed → ⊥
FaultIsMet s (Some f) = s.state ≡ Closed

-- TURNS

-- What callers see of a talk: its session, the fault that ended that, and the bytes that wait to be written.
pub record Told : Type 0 where
  pub session : Listening
  pub fault : Option faults.SessionFault
  pub waiting : List ℕ

abbrev pub told : Listening → Option faults.SessionFault → List ℕ → Told
told s f w = record { session = s; fault = f; waiting = w }

-- a talk in which nothing was said
abbrev pub fresh_talk : Told
fresh_talk = told (record { state = Greeting; pending = [] }) None []

-- Bytes are read, and a beginning of what they and those before say is served.
pub record Takes (logins : Logins) (read : List ℕ) (calls calls' : List Call) (old new : Told) : Type 0 where
  pub events : List Event
  pub hears : Hears logins old.session new.session read events
  pub serves : Serves events calls calls' old.fault new.fault old.waiting new.waiting

-- A talk with the world: what its reader has left and its writer holds, where these tell it, the calls of its answer, and the talk.
pub record Scene : Type 0 where
  pub left : Option (List ℕ)
  pub held : Option (List ℕ)
  pub calls : List Call
  pub talk : Told

abbrev pub scene : Option (List ℕ) → Option (List ℕ) → List Call → Told → Scene
scene l h c t = record { left = l; held = h; calls = c; talk = t }

-- From one scene to another: bytes are read, a beginning of what they and those before say is served, and of what
-- waited and what is sent for that a beginning is written, and the rest waits.
pub record Turns (logins : Logins) (old new : Scene) : Type 0 where
  pub read : List ℕ
  pub written : List ℕ
  pub events : List Event
  pub consumes : Consumes old.left new.left read
  pub appends : Appends old.held new.held written
  pub hears : Hears logins old.talk.session new.talk.session read events
  pub serves : Serves events old.calls new.calls old.talk.fault new.talk.fault old.talk.waiting (written ++ new.talk.waiting)

-- bytes are read, and a beginning is served
pub record Intakes (logins : Logins) (left left' : Option (List ℕ)) (calls calls' : List Call) (old new : Told) : Type 0 where
  pub read : List ℕ
  pub consumes : Consumes left left' read
  pub takes : Takes logins read calls calls' old new

-- a beginning of what waits is written
pub record Sends (held held' : Option (List ℕ)) (waiting waiting' : List ℕ) : Type 0 where
  pub written : List ℕ
  pub appends : Appends held held' written
  pub sent : written ++ waiting' ≡ waiting

-- ENDS

-- What is known where so much of what a session holds was served: none of it where it held no whole frame.
abbrev pub ServesSo : {E : Type 0} → Result Service E → Logins → Told → Told → Type 0
ServesSo (Ok service.Nothing) logins old new = (new.fault ≡ old.fault) × (new.waiting ≡ old.waiting) × IsDry logins new.session
ServesSo (Ok service.All) logins old new = IsDry logins new.session
ServesSo (Ok service.Enough) logins old new = Unit {0}
ServesSo (Err e) logins old new = Unit {0}

-- What is known where a read came to this.
abbrev pub IntakesSo : Intake → Logins → Option (List ℕ) → Told → Told → Type 0
IntakesSo intake.Served logins left old new = IsDry logins new.session
IntakesSo intake.Enough logins left old new = Unit {0}
IntakesSo intake.Waits logins left old new = (new.fault ≡ old.fault) × (new.waiting ≡ old.waiting) × IsDry logins new.session
IntakesSo intake.AtEnd logins left old new = IsAtEnd left × (new.fault ≡ old.fault) × (new.waiting ≡ old.waiting) × IsDry logins new.session
IntakesSo intake.Failed logins left old new = (new.fault ≡ old.fault) × (new.waiting ≡ old.waiting) × IsDry logins new.session
IntakesSo intake.NoMemory logins left old new = Unit {0}

-- whether the peer was told all
abbrev pub tells_all : TalkEnd → Bool
tells_all ends.PeerClosed = true
tells_all (ends.Faulted f) = true
tells_all ends.ReadFailed = false
tells_all ends.WriteFailed = false
tells_all ends.NoMemory = false

-- What is known where a talk ends so. At the peer's end all is written and there was no fault; a fault that is told is
-- the one that was met, and all is written. But where a write failed or memory was refused, all that was read is served.
abbrev pub EndsSo : TalkEnd → Logins → Option (List ℕ) → Told → Type 0
EndsSo ends.PeerClosed logins left t = IsAtEnd left × (t.fault ≡ None) × (t.waiting ≡ []) × IsDry logins t.session
EndsSo (ends.Faulted f) logins left t = (t.fault ≡ Some f) × (t.waiting ≡ []) × IsDry logins t.session
EndsSo ends.ReadFailed logins left t = (t.fault ≡ None) × (t.waiting ≡ []) × IsDry logins t.session
EndsSo ends.WriteFailed logins left t = Unit {0}
EndsSo ends.NoMemory logins left t = Unit {0}

-- What is known where a turn ends so. After More, Enough and Waits all is written, and there was no fault; after More and
-- Waits all that was read is served.
abbrev pub TurnsSo : TurnEnd → Logins → Option (List ℕ) → Told → Type 0
TurnsSo turn.More logins left t = (t.fault ≡ None) × (t.waiting ≡ []) × IsDry logins t.session
TurnsSo turn.Enough logins left t = (t.fault ≡ None) × (t.waiting ≡ [])
TurnsSo turn.Waits logins left t = (t.fault ≡ None) × (t.waiting ≡ []) × IsDry logins t.session
TurnsSo turn.Stuck logins left t = Unit {0}
TurnsSo (turn.Ended end) logins left t = EndsSo end logins left t

-- TALKS

-- All that a talk does. Of what the bytes that were read say, from the opening of the connection on, a beginning is
-- served: its requests are called, each once and in order, with one reply each, and of what is sent for it a beginning is
-- written. Where the peer was told all, all that the bytes say is served and written.
pub record Talked (end : TalkEnd) (logins : Logins) (left left' held held' : Option (List ℕ)) (calls calls' : List Call) : Type 0 where
  pub read : List ℕ
  pub written : List ℕ
  pub events : List Event
  pub now : Told
  pub consumes : Consumes left left' read
  pub appends : Appends held held' written
  pub hears : hear logins Greeting read ≡ after_events events (heard_in logins now.session)
  pub serves : Serves events calls calls' None now.fault [] (written ++ now.waiting)
  pub all : tells_all end ≡ true → (events ≡ events_of logins read) × (written ≡ sent_for (events_of logins read) serves.replies)
  pub ended : EndsSo end logins left' now
