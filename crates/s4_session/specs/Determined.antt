-- What the bytes that are sent say of the replies.
use Rattle.std.specs.Prelude.{◌≡◌, ℕ, IsTrue, List, length}
use Rattle.s4_types.specs.declared.reply.Reply.{Reply}
use Rattle.s4_types.specs.Base.{Base}
use Rattle.s4_types.specs.Play.{request_count}
use Rattle.s4_codec.specs.Fits.{fit}
use Rattle.s4_session.specs.declared.hall_step.HallStep.{HallStep}
use Rattle.s4_stream.specs.Logins.{Logins}
use Rattle.s4_stream.specs.Stream.{events_of}
use Rattle.s4_stream.specs.Talk.{requests_in}
use Rattle.s4_session.specs.Arrivals.{stream_of, asked_in, requests_of, versions_of}
use Rattle.s4_session.specs.Sent.{replies_on, sent_by, IsSent}

-- Of replies, one to each request that the arrivals ask, each connection has one to each request that its bytes say.
abbrev pub EachRequestHasOneReply : Type 0
EachRequestHasOneReply =
    (c : ℕ) (logins : Logins) (arrivals : List HallStep) (replies : List Reply)
    → length replies ≡ request_count (requests_of logins arrivals)
    → length (replies_on c (asked_in logins arrivals) replies) ≡ requests_in (events_of logins (stream_of c arrivals))

-- The replies are one to each request that the arrivals ask, and each has a spelling within a frame of its caller's version, as that of want of memory has.
pub record CanBeSent (logins : Logins) (arrivals : List HallStep) (replies : List Reply) : Type 0 where
  pub each : length replies ≡ request_count (requests_of logins arrivals)
  pub bodies : IsTrue (fit (versions_of (requests_of logins arrivals)) replies)

-- Where two such lists of replies have the same bytes sent on each connection, they are the same list.
abbrev pub SentBytesDetermineReplies : Type 0
SentBytesDetermineReplies =
    (logins : Logins) (arrivals : List HallStep) (one two : List Reply) → CanBeSent logins arrivals one → CanBeSent logins arrivals two
    → ((c : ℕ) → sent_by c logins arrivals one ≡ sent_by c logins arrivals two) → one ≡ two

-- What a run sent was sent with one list of replies: whether one of them is NoMemory is said by the bytes.
abbrev pub RunsHaveOneListOfReplies : Type 0
RunsHaveOneListOfReplies =
    (base : Base) (logins : Logins) (arrivals : List HallStep) (sent : List (ℕ × List ℕ)) (one two : IsSent base logins arrivals sent)
    → one.replies ≡ two.replies
