-- What a hall is, and what an arrival makes of it.
use Rattle.std.specs.Prelude.{◌≡◌, ℕ, Bool, false, ◌==◌, IsTrue, Option, Some, None, unwrap_or, cond, List, [], ◌∷◌, ◌++◌, length}
use Rattle.std.specs.Map.{lookup}
use Rattle.std.specs.Ordering.{is_eq, nat_cmp}
use Rattle.s4_types.specs.declared.readiness.Readiness.TheVariants.{ForNone}
use Rattle.s4_types.specs.declared.reply.Reply.{Reply}
use Rattle.s4_types.specs.Base.{opened}
use Rattle.s4_types.specs.Play.{replies as replies_in, carried_out, without_no_memory, request_count}
use Rattle.s4_types.specs.Log.{Log, fresh_log, steps_on}
use Rattle.s4_codec.specs.Fits.{fit}
use Rattle.s4_stream.specs.declared.event.SessionState.TheVariants.{Greeting}
use Rattle.s4_session.specs.declared.hall_step.HallStep.{HallStep}
use Rattle.s4_session.specs.declared.hall_step.HallStep.TheVariants.{Arrive}
use Rattle.s4_stream.specs.Logins.{Logins}
use Rattle.s4_stream.specs.Stream.{Heard, hear}
use Rattle.s4_stream.specs.Feeding.{Listening, hear_piece, left_by}
use Rattle.s4_session.specs.Arrivals.{requests_of, stream_of, occurs, moment_after, versions_of}
use Rattle.s4_session.specs.Sent.{sent_by, IsSent}
use Rattle.s4_session.specs.Answered.{Answered}

-- CONNECTIONS

-- the connections on which something came, each with its session, by rising number
abbrev pub Sessions : Type 0
Sessions = List (ℕ × Listening)

-- the connection's session, if something came on it
abbrev pub session_of : ℕ → Sessions → Option Listening
session_of c sessions = lookup (λ d. is_eq (nat_cmp c d)) sessions

-- a session on which nothing came yet
abbrev pub fresh : Listening
fresh = record { state = Greeting; pending = [] }

-- what is heard where the piece comes on the connection
abbrev pub heard_on : Logins → ℕ → Sessions → List ℕ → Heard
heard_on logins c sessions piece = hear_piece logins (unwrap_or (session_of c sessions) fresh) piece

-- The connection's session goes on by the piece, and no other one.
abbrev pub Feeds : Logins → ℕ → List ℕ → Sessions → Sessions → Type 0
Feeds logins c piece old new =
    (d : ℕ) → session_of d new ≡ cond (c == d) (Some (left_by (heard_on logins c old piece))) (session_of d old)

-- HALLS

-- what callers see of a hall
pub record Hall : Type 0 where
  pub logins : Logins
  pub log : Log
  pub sessions : Sessions
  pub last : ℕ
  pub failed : Bool

-- Nothing came yet, no request was answered, no record went, nothing is held, the drive is made ready for no request, and no growth was refused.
pub record IsFresh (hall : Hall) : Type 0 where
  pub no_records : hall.log.history ≡ []
  pub none_went : hall.log.cut ≡ 0
  pub nothing_held : hall.log.held ≡ 0
  pub not_ready : hall.log.ready ≡ ForNone
  pub no_sessions : hall.sessions ≡ []
  pub no_arrival : hall.last ≡ 0
  pub not_failed : hall.failed ≡ false

-- The piece is heard on its connection, its events are answered at the moment, and this is sent. The hall hasn't failed.
pub record Takes (c t : ℕ) (piece : List ℕ) (old new : Hall) (sent : List ℕ) : Type 0 where
  pub logins : new.logins ≡ old.logins
  pub last : new.last ≡ t
  pub sessions : Feeds old.logins c piece old.sessions new.sessions
  pub answered : Answered t (heard_on old.logins c old.sessions piece).events old.log new.log [] sent
  pub not_failed : new.failed ≡ false

-- the session of a connection after the arrivals
abbrev pub session_after : ℕ → Logins → List HallStep → Listening
session_after c logins arrivals = left_by (hear logins Greeting (stream_of c arrivals))

-- So a hall of these logins stands after the arrivals from its opening on, where their requests, each in its turn, had these replies,
-- and the sweeps among them freed what they free.
pub record StandsAfter (window : ℕ) (logins : Logins) (arrivals : List HallStep) (replies : List Reply) (hall : Hall) : Type 0 where
  pub logins_are : hall.logins ≡ logins
  pub last_is : hall.last ≡ moment_after 0 arrivals
  pub sessions : (c : ℕ) → session_of c hall.sessions ≡ cond (occurs c arrivals) (Some (session_after c logins arrivals)) None
  pub each : length replies ≡ request_count (requests_of logins arrivals)
  pub bodies : IsTrue (fit (versions_of (requests_of logins arrivals)) replies)
  pub log : hall.log ≡ steps_on (fresh_log window) (carried_out (requests_of logins arrivals) replies)
  pub told : replies_in hall.log.history ≡ without_no_memory replies

-- What an arrival adds to the arrivals before it: some replies, and on its connection these bytes, and on no other.
pub record Adds (window : ℕ) (logins : Logins) (arrivals : List HallStep) (replies : List Reply) (c t : ℕ) (piece : List ℕ)
    (new : Hall) (sent : List ℕ) : Type 0 where
  pub more : List Reply
  pub stands : StandsAfter window logins (arrivals ++ Arrive c t piece ∷ []) (replies ++ more) new
  pub bytes : (d : ℕ) → sent_by d logins (arrivals ++ Arrive c t piece ∷ []) (replies ++ more)
      ≡ sent_by d logins arrivals replies ++ cond (c == d) sent []

-- Whatever came before, with whatever replies: the arrival adds these bytes.
abbrev pub Arrives : ℕ → ℕ → List ℕ → Hall → Hall → List ℕ → Type 0
Arrives c t piece old new sent =
    (window : ℕ) (logins : Logins) (arrivals : List HallStep) (replies : List Reply) → StandsAfter window logins arrivals replies old
    → Adds window logins arrivals replies c t piece new sent

-- What a run sends and the hall that it leaves, which hasn't failed: it stands after the steps with the replies that were sent.
pub record Leaves (window : ℕ) (logins : Logins) (arrivals : List HallStep) (sent : List (ℕ × List ℕ)) (hall : Hall) : Type 0 where
  pub sends : IsSent (opened window) logins arrivals sent
  pub stands : StandsAfter window logins arrivals sends.replies hall
  pub not_failed : hall.failed ≡ false
