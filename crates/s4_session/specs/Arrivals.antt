-- What a list of arrivals asks.
use Rattle.std.specs.Prelude.{ℕ, ◌≤◌, Bool, false, ◌==◌, if◌then◌else◌, Option, Some, None, List, [], ◌∷◌, ◌++◌, length, drop, map, filter_map, flat_map}
use Rattle.std.specs.List.{list_any}
use Rattle.s4_types.specs.declared.principal.Caller.{Caller}
use Rattle.s4_types.specs.declared.principal.WireVersion.{WireVersion}
use Rattle.s4_types.specs.declared.request.Request as asked
use Rattle.s4_types.specs.declared.record.Step.{Step}
use Rattle.s4_types.specs.declared.record.Step.TheVariants as steps
use Rattle.s4_stream.specs.declared.event.Event.{Event}
use Rattle.s4_stream.specs.declared.event.Event.TheVariants.{Welcome, Request, Fault}
use Rattle.s4_session.specs.declared.hall_step.HallStep.{HallStep}
use Rattle.s4_session.specs.declared.hall_step.HallStep.TheVariants.{Arrive, Sweep}
use Rattle.s4_stream.specs.Logins.{Logins}
use Rattle.s4_stream.specs.Stream.{events_of}

-- CONNECTIONS

-- the bytes that the step brings on the connection
abbrev pub piece_on : ℕ → HallStep → List ℕ
piece_on c (Arrive conn moment piece) = if conn == c then piece else []
piece_on c (Sweep n) = []

-- the bytes that came on the connection, its pieces joined
abbrev pub stream_of : ℕ → List HallStep → List ℕ
stream_of c arrivals = flat_map (piece_on c) arrivals

-- whether the step is an arrival on the connection
abbrev pub is_on : ℕ → HallStep → Bool
is_on c (Arrive conn moment piece) = conn == c
is_on c (Sweep n) = false

-- whether the connection occurs
abbrev pub occurs : ℕ → List HallStep → Bool
occurs c arrivals = list_any (is_on c) arrivals

-- whether it is the welcome of the principal
abbrev pub is_welcome_of : ℕ → Event → Bool
is_welcome_of p (Welcome caller) = caller.who == p
is_welcome_of p (Request caller r) = false
is_welcome_of p (Fault f) = false

-- whether the connection's good Hello names p
abbrev pub is_connection_of : ℕ → Logins → List HallStep → ℕ → Bool
is_connection_of p logins arrivals c = list_any (is_welcome_of p) (events_of logins (stream_of c arrivals))

-- the moments of the arrivals never go down, from this moment on
abbrev pub NeverDown : ℕ → List HallStep → Type 0
NeverDown from [] = Unit {0}
NeverDown from (Arrive conn moment piece ∷ arrivals) = (from ≤ moment) × NeverDown moment arrivals
NeverDown from (Sweep n ∷ arrivals) = NeverDown from arrivals

-- the moment of the last arrival, or this one where there is none
abbrev pub moment_after : ℕ → List HallStep → ℕ
moment_after from [] = from
moment_after from (Arrive conn moment piece ∷ arrivals) = moment_after moment arrivals
moment_after from (Sweep n ∷ arrivals) = moment_after from arrivals

-- REQUESTS

-- What is asked of the drive: a request of a connection at a moment, or a sweep.
pub data Asked : Type 0 where
  Asks : ℕ → ℕ → Caller → asked.Request → Asked
  Sweeps : ℕ → Asked

-- the step of the drive
abbrev pub step_of : Asked → Step
step_of (Asks c t caller r) = steps.Request t caller r
step_of (Sweeps n) = steps.Sweep n

-- what an event on the connection asks at the moment
abbrev pub asked_by_event : ℕ → ℕ → Event → Option Asked
asked_by_event c t (Request caller r) = Some (Asks c t caller r)
asked_by_event c t (Welcome caller) = None
asked_by_event c t (Fault f) = None

-- the events that the piece makes whole, after the arrivals so far
abbrev pub events_by : Logins → List HallStep → ℕ → List ℕ → List Event
events_by logins past c piece =
    drop (length (events_of logins (stream_of c past))) (events_of logins (stream_of c past ++ piece))

-- what one step asks, after the arrivals so far
abbrev pub asked_by_step : Logins → List HallStep → HallStep → List Asked
asked_by_step logins past (Arrive conn moment piece) = filter_map (asked_by_event conn moment) (events_by logins past conn piece)
asked_by_step logins past (Sweep n) = Sweeps n ∷ []

-- what the arrivals ask, after those so far
abbrev pub asked_after : Logins → List HallStep → List HallStep → List Asked
asked_after logins past [] = []
asked_after logins past (arrival ∷ arrivals) =
    asked_by_step logins past arrival ++ asked_after logins (past ++ arrival ∷ []) arrivals

-- The requests of the arrivals, each at the moment of the piece that holds its last byte, with the sweeps in their places.
abbrev pub asked_in : Logins → List HallStep → List Asked
asked_in logins arrivals = asked_after logins [] arrivals

-- the same, as steps of the drive
abbrev pub requests_of : Logins → List HallStep → List Step
requests_of logins arrivals = map step_of (asked_in logins arrivals)

-- the versions of those who ask, one for each request
abbrev pub versions_of : List Step → List WireVersion
versions_of [] = []
versions_of (steps.Request t caller r ∷ steps) = caller.version ∷ versions_of steps
versions_of (steps.Sweep n ∷ steps) = versions_of steps
