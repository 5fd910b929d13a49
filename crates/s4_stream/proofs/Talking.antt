-- In what order a connection's events stand, and what is sent for them.
use Rattle.std.proofs.Common.{◌≡◌, ℕ, zero, suc, Bool, true, false, Option, Some, None, List, [], ◌∷◌, ◌++◌, length, refl, sym, ap, subst, ◌∙◌, append_assoc, arith}
use Rattle.std.specs.Prelude.{if◌then◌else◌, flat_map}
use Rattle.std.proofs.lemmas.List.{append-nil}
use Rattle.s4_types.specs.declared.principal.Caller.{Caller}
use Rattle.s4_types.specs.declared.request.Request as asked
use Rattle.s4_types.specs.declared.reply.Reply.{Reply}
use Rattle.s4_codec.specs.Requests.{request_in}
use Rattle.s4_codec.specs.Frames.{Front, Whole, Part, BadLength, front_of}
use Rattle.s4_stream.specs.declared.event.Event.{Event}
use Rattle.s4_stream.specs.declared.event.Event.TheVariants.{Welcome, Request, Fault}
use Rattle.s4_stream.specs.declared.event.SessionFault as kinds
use Rattle.s4_stream.specs.declared.event.SessionFault.TheVariants.{FrameLength, Malformed, BadLogin}
use Rattle.s4_stream.specs.declared.event.SessionState.TheVariants.{Greeting, Open, Closed}
use Rattle.s4_stream.specs.Logins.{Logins, is_login}
use Rattle.s4_stream.specs.declared.hello.Hello.{Hello}
use Rattle.s4_stream.specs.Hello.{hello_in, greeted}
use Rattle.s4_stream.specs.Stream.{Heard, hear_frames, from_front, asked_by, state_after, limit_at}
use Rattle.s4_stream.specs.Talk.{sent_for, welcome, reply_frame, fault_frame, ended_by, asked_until, talk_of, IsTalk, Unwelcome, Welcomed, fault_bytes, told_in_order}
use Rattle.s4_stream.proofs.Hearing.{closed_frames}

-- requests of the caller, and then at most a fault
record Asks (caller : Caller) (events : List Event) : Type 0 where
  requests : List asked.Request
  fault : Option kinds.SessionFault
  is : events ≡ asked_until caller requests fault

nothing_after : (n : ℕ) (logins : Logins) (bytes : List ℕ) → (hear_frames n logins Closed bytes).events ≡ []
nothing_after n logins bytes = ap (λ (h : Heard). h.events) (closed_frames n logins bytes)

asks_body : (n : ℕ) (logins : Logins) (caller : Caller) (rest : List ℕ) (o : Option asked.Request) → Asks caller (hear_frames n logins (Open caller) rest).events
    → Asks caller (asked_by caller o ∷ (hear_frames n logins (state_after (asked_by caller o)) rest).events)
asks_body n logins caller rest None more = record { requests = []; fault = Some Malformed; is = ap (λ (w : List Event). Fault Malformed ∷ w) (nothing_after n logins rest) }
asks_body n logins caller rest (Some r) more = record { requests = r ∷ more.requests; fault = more.fault; is = ap (λ (w : List Event). Request caller r ∷ w) more.is }

asks_front : (n : ℕ) (logins : Logins) (caller : Caller) (bytes : List ℕ) (f : Front) → ((rest : List ℕ) → Asks caller (hear_frames n logins (Open caller) rest).events)
    → Asks caller (from_front logins (Open caller) bytes (hear_frames n logins) f).events
asks_front n logins caller bytes (Whole body rest) more = asks_body n logins caller rest (request_in caller.version body) (more rest)
asks_front n logins caller bytes Part more = record { requests = []; fault = None; is = refl }
asks_front n logins caller bytes BadLength more = record { requests = []; fault = Some FrameLength; is = refl }

asks : (n : ℕ) (logins : Logins) (caller : Caller) (bytes : List ℕ) → Asks caller (hear_frames n logins (Open caller) bytes).events
asks zero logins caller bytes = record { requests = []; fault = None; is = refl }
asks (suc n) logins caller bytes = asks_front n logins caller bytes (front_of (limit_at (Open caller)) bytes) (asks n logins caller)

-- what a first body brings about is a welcome or a fault
abbrev IsGreeting : Event → Type 0
IsGreeting (Welcome caller) = Unit {0}
IsGreeting (Request caller r) = ⊥
IsGreeting (Fault f) = Unit {0}

greets_if : (b : Bool) (caller : Caller) → IsGreeting (if b then Welcome caller else Fault BadLogin)
greets_if true caller = tt
greets_if false caller = tt

greets : (logins : Logins) (o : Option Hello) → IsGreeting (greeted logins o)
greets logins None = tt
greets logins (Some h) = greets_if (is_login logins h.caller.who h.secret) h.caller

talks_from : (n : ℕ) (logins : Logins) (rest : List ℕ) (event : Event) → IsGreeting event → IsTalk (event ∷ (hear_frames n logins (state_after event) rest).events)
talks_from n logins rest (Welcome caller) is =
    let a : Asks caller (hear_frames n logins (Open caller) rest).events = asks n logins caller rest in
    subst (λ (w : List Event). IsTalk (Welcome caller ∷ w)) (sym a.is) (Welcomed caller a.requests a.fault)
talks_from n logins rest (Request caller r) is = absurd is
talks_from n logins rest (Fault f) is = subst (λ (w : List Event). IsTalk (Fault f ∷ w)) (sym (nothing_after n logins rest)) (Unwelcome (Some f))

talks_front : (n : ℕ) (logins : Logins) (bytes : List ℕ) (f : Front) → IsTalk (from_front logins Greeting bytes (hear_frames n logins) f).events
talks_front n logins bytes (Whole body rest) = talks_from n logins rest (greeted logins (hello_in body)) (greets logins (hello_in body))
talks_front n logins bytes Part = Unwelcome None
talks_front n logins bytes BadLength = Unwelcome (Some FrameLength)

pub talks_frames : (n : ℕ) (logins : Logins) (bytes : List ℕ) → IsTalk (hear_frames n logins Greeting bytes).events
talks_frames zero logins bytes = Unwelcome None
talks_frames (suc n) logins bytes = talks_front n logins bytes (front_of (limit_at Greeting) bytes)

-- what is sent for a fault, if there is one
pub sent_at_end : (fault : Option kinds.SessionFault) (replies : List Reply) → sent_for (ended_by fault) replies ≡ fault_bytes fault
sent_at_end None replies = refl
sent_at_end (Some f) replies = append-nil (fault_frame f)

sent_for_requests : (caller : Caller) (requests : List asked.Request) (fault : Option kinds.SessionFault) (replies : List Reply) → length replies ≡ length requests
    → sent_for (asked_until caller requests fault) replies ≡ flat_map (reply_frame caller.version) replies ++ fault_bytes fault
sent_for_requests caller [] fault [] e = sent_at_end fault []
sent_for_requests caller [] fault (x ∷ replies) e = absurd cc
sent_for_requests caller (r ∷ requests) fault [] e = absurd cc
sent_for_requests caller (r ∷ requests) fault (x ∷ replies) e =
    ap (λ (w : List ℕ). reply_frame caller.version x ++ w) (sent_for_requests caller requests fault replies (omega (arith, e)))
    ∙ sym (append_assoc (reply_frame caller.version x) (flat_map (reply_frame caller.version) replies) (fault_bytes fault))

pub sent_for_talk : (caller : Caller) (requests : List asked.Request) (fault : Option kinds.SessionFault) (replies : List Reply) → length replies ≡ length requests
    → sent_for (talk_of caller requests fault) replies ≡ told_in_order caller.version replies fault
sent_for_talk caller requests fault replies e = ap (λ (w : List ℕ). welcome caller.version ++ w) (sent_for_requests caller requests fault replies e)
