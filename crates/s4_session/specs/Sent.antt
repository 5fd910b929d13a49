-- What is sent on each connection.
use Rattle.std.specs.Prelude.{◌≡◌, ℕ, Bool, false, ◌==◌, IsTrue, Option, Some, None, List, [], ◌∷◌, length, map, filter, cond}
use Rattle.std.specs.List.Sorted.{IsStrictlySortedBy}
use Rattle.std.specs.Map.{keys_of, lookup}
use Rattle.std.specs.Ordering.{is_eq, nat_cmp}
use Rattle.std.specs.Global.{Vec}
use Rattle.s4_types.specs.declared.reply.Reply.{Reply}
use Rattle.s4_types.specs.Base.{Base}
use Rattle.s4_types.specs.Play.{play, replies as replies_in, carried_out, without_no_memory, request_count}
use Rattle.s4_types.specs.Strike.{records_of, strike}
use Rattle.s4_codec.specs.Fits.{fit}
use Rattle.s4_session.specs.declared.hall_step.HallStep.{HallStep}
use Rattle.s4_stream.specs.Logins.{Logins}
use Rattle.s4_stream.specs.Stream.{events_of}
use Rattle.s4_stream.specs.Talk.{sent_for}
use Rattle.s4_session.specs.Arrivals.{Asked, Asks, Sweeps, asked_in, requests_of, stream_of, occurs, is_connection_of, versions_of}

-- CONNECTIONS

-- of the replies, one to each request that is asked, those to the requests of the connection
abbrev pub replies_on : ℕ → List Asked → List Reply → List Reply
replies_on c [] replies = []
replies_on c (Sweeps n ∷ asked) replies = replies_on c asked replies
replies_on c (Asks d t caller r ∷ asked) [] = []
replies_on c (Asks d t caller r ∷ asked) (x ∷ replies) = cond (d == c) (x ∷ replies_on c asked replies) (replies_on c asked replies)

-- what is sent on the connection where its requests have these replies
abbrev pub sent_on : ℕ → Logins → List HallStep → List Reply → List ℕ
sent_on c logins arrivals replies = sent_for (events_of logins (stream_of c arrivals)) replies

-- what is sent on the connection where all requests have these replies
abbrev pub sent_by : ℕ → Logins → List HallStep → List Reply → List ℕ
sent_by c logins arrivals replies = sent_on c logins arrivals (replies_on c (asked_in logins arrivals) replies)

-- the bytes for the connection, if it is among those that are sent to
abbrev pub bytes_for : ℕ → List (ℕ × List ℕ) → Option (List ℕ)
bytes_for c sent = lookup (λ d. is_eq (nat_cmp c d)) sent

-- the same bytes, as lists
abbrev pub lists_of : List (ℕ × Vec ℕ) → List (ℕ × List ℕ)
lists_of sent = map (λ e. (e.0, e.1.items)) sent

-- the connections rise, so none stands there twice
abbrev pub AreRising : List (ℕ × List ℕ) → Type 0
AreRising sent = IsStrictlySortedBy nat_cmp (keys_of sent)

-- STRANGERS

-- whether the request is the principal's
abbrev pub is_by : ℕ → Asked → Bool
is_by p (Asks c t caller r) = caller.who == p
is_by p (Sweeps n) = false

-- the bytes that p's connection is sent where its requests are answered by the plain log without strangers' requests and sweeps
abbrev pub sent_without_strangers : Base → ℕ → ℕ → Logins → List HallStep → List ℕ
sent_without_strangers base p c logins arrivals =
    sent_on c logins arrivals
    (replies_on c (filter (is_by p) (asked_in logins arrivals))
    (replies_in (records_of p (play base (strike p (requests_of logins arrivals))))))

-- For every principal but the administrator, each of its connections is sent what it would be sent without strangers.
abbrev pub IsIsolated : Base → Logins → List HallStep → List (ℕ × List ℕ) → Type 0
IsIsolated base logins arrivals sent =
    (p c : ℕ) → (p == 0) ≡ false → IsTrue (is_connection_of p logins arrivals c)
    → bytes_for c sent ≡ Some (sent_without_strangers base p c logins arrivals)

-- The replies, one to each request that the arrivals ask, are those of the plain
-- log, where a request that was answered NoMemory counts as not made.
-- Each has a spelling within a frame of its caller's version.
pub record AreReplies (base : Base) (logins : Logins) (arrivals : List HallStep) (replies : List Reply) : Type 0 where
  pub each : length replies ≡ request_count (requests_of logins arrivals)
  pub bodies : IsTrue (fit (versions_of (requests_of logins arrivals)) replies)
  pub log : replies_in (play base (carried_out (requests_of logins arrivals) replies)) ≡ without_no_memory replies

-- What a run sends: exactly on the connections that occur, by rising number, the bytes
-- of the definition; and where no reply is NoMemory, strangers change nothing.
pub record IsSent (base : Base) (logins : Logins) (arrivals : List HallStep) (sent : List (ℕ × List ℕ)) : Type 0 where
  pub replies : List Reply
  pub are_replies : AreReplies base logins arrivals replies
  pub rising : AreRising sent
  pub bytes : (c : ℕ) → bytes_for c sent ≡ cond (occurs c arrivals) (Some (sent_by c logins arrivals replies)) None
  pub isolated : without_no_memory replies ≡ replies → IsIsolated base logins arrivals sent
