-- What the bytes of a connection say.
use Rattle.std.specs.Prelude.{ℕ, zero, suc, Option, Some, None, List, [], ◌∷◌, length}
use Rattle.s4_types.specs.declared.principal.Caller.{Caller}
use Rattle.s4_types.specs.declared.request.Request as asked
use Rattle.s4_types.specs.declared.principal.WireVersion.TheVariants.{One}
use Rattle.s4_codec.specs.Requests.{request_in}
use Rattle.s4_codec.specs.Versions.{frame_limit}
use Rattle.s4_codec.specs.Frames.{Front, Whole, Part, BadLength, front_of}
use Rattle.s4_stream.specs.declared.event.Event.{Event}
use Rattle.s4_stream.specs.declared.event.Event.TheVariants.{Welcome, Request, Fault}
use Rattle.s4_stream.specs.declared.event.SessionFault.TheVariants as fault
use Rattle.s4_stream.specs.declared.event.SessionState.{SessionState}
use Rattle.s4_stream.specs.declared.event.SessionState.TheVariants.{Greeting, Open, Closed}
use Rattle.s4_stream.specs.Logins.{Logins}
use Rattle.s4_stream.specs.Hello.{hello_in, greeted}

-- what a body that came from a caller brings about
abbrev pub asked_by : Caller → Option asked.Request → Event
asked_by caller None = Fault fault.Malformed
asked_by caller (Some r) = Request caller r

-- what a whole body brings about: the first one is a Hello, and those after a good Hello are requests
abbrev pub said : Logins → SessionState → List ℕ → Event
said logins (Open caller) body = asked_by caller (request_in caller.version body)
said logins Greeting body = greeted logins (hello_in body)
said logins Closed body = greeted logins (hello_in body)

-- where the event leaves the connection
abbrev pub state_after : Event → SessionState
state_after (Welcome caller) = Open caller
state_after (Request caller r) = Open caller
state_after (Fault f) = Closed

-- who calls there
abbrev pub caller_at : SessionState → Option Caller
caller_at Greeting = None
caller_at (Open caller) = Some caller
caller_at Closed = None

-- the most bytes that a body has there: those of version 1 up to a good Hello, and then those of the caller's version
abbrev pub limit_at : SessionState → ℕ
limit_at Greeting = frame_limit One
limit_at (Open caller) = frame_limit caller.version
limit_at Closed = frame_limit One

-- What bytes say: the events, where they leave the connection, and the bytes of the frame that isn't whole yet.
pub record Heard : Type 0 where
  pub events : List Event
  pub state : SessionState
  pub left : List ℕ

-- an event, and what is heard after it
abbrev pub first : Event → Heard → Heard
first event heard = record heard { events = event ∷ heard.events }

-- What the front of the bytes says, and then the bytes after it, which more hears.
abbrev pub from_front : Logins → SessionState → List ℕ → (SessionState → List ℕ → Heard) → Front → Heard
from_front logins state bytes more (Whole body rest) = first (said logins state body) (more (state_after (said logins state body)) rest)
from_front logins state bytes more Part = record { events = []; state = state; left = bytes }
from_front logins state bytes more BadLength = record { events = Fault fault.FrameLength ∷ []; state = Closed; left = [] }

-- bytes of which no whole frame is heard; after a fault they are dropped
abbrev pub unheard : SessionState → List ℕ → Heard
unheard Greeting bytes = record { events = []; state = Greeting; left = bytes }
unheard (Open caller) bytes = record { events = []; state = Open caller; left = bytes }
unheard Closed bytes = record { events = []; state = Closed; left = [] }

-- What the bytes say where the connection stands, of so many frames at most. After a fault nothing is heard.
abbrev pub hear_frames : ℕ → Logins → SessionState → List ℕ → Heard
hear_frames zero logins state bytes = unheard state bytes
hear_frames (suc n) logins Greeting bytes = from_front logins Greeting bytes (hear_frames n logins) (front_of (limit_at Greeting) bytes)
hear_frames (suc n) logins (Open caller) bytes = from_front logins (Open caller) bytes (hear_frames n logins) (front_of (limit_at (Open caller)) bytes)
hear_frames (suc n) logins Closed bytes = unheard Closed bytes

-- What the bytes say: there are not more frames than bytes.
abbrev pub hear : Logins → SessionState → List ℕ → Heard
hear logins state bytes = hear_frames (length bytes) logins state bytes

-- what the bytes of a connection say from its opening on
abbrev pub events_of : Logins → List ℕ → List Event
events_of logins stream = (hear logins Greeting stream).events
