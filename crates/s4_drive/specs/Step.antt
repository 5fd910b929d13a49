-- What one call of the drive does.
use Rattle.std.specs.Prelude.{◌≡◌, ◌==◌, ℕ, Bool, true, false, cond, MatchBool, Result, Err, List, [], ◌∷◌}
use Rattle.s4_types.specs.declared.principal.Caller.{Caller}
use Rattle.s4_types.specs.declared.request.Request.{Request}
use Rattle.s4_types.specs.declared.reply.Refusal.{Refusal}
use Rattle.s4_types.specs.declared.reply.Refusal.TheVariants.{NoMemory}
use Rattle.s4_types.specs.declared.reply.Reply.{Reply}
use Rattle.s4_types.specs.declared.reply.Reply.TheVariants.{Done, Refused}
use Rattle.s4_types.specs.declared.record.Step as steps
use Rattle.s4_types.specs.declared.record.Step.TheVariants.{Request as Asks, Sweep as Sweeps}
use Rattle.s4_types.specs.Base.{Base}
use Rattle.s4_types.specs.Answer.{answer}
use Rattle.s4_types.specs.Play.{record_of, play, replies as replies_in, is_no_memory}
use Rattle.s4_types.specs.Strike.{records_of, strike}
use Rattle.s4_types.specs.Log.{Log, base_of, with_record}

-- the reply is the definition's answer, and its record is added
pub record Answers (old new : Log) (t : ℕ) (caller : Caller) (request : Request) (reply : Reply) : Type 0 where
  pub answer_is : reply ≡ answer (base_of old) old.history t caller request
  pub grows : new ≡ with_record old (record_of (base_of old) old.history t caller request)

-- a step answers, or it meets want of memory, and nothing changes
abbrev pub Steps : Log → Log → ℕ → Caller → Request → Reply → Type 0
Steps old new t caller request reply = MatchBool (is_no_memory reply) (new ≡ old) (Answers old new t caller request reply)

-- what comes of a request is the definition's outcome, or want of memory
abbrev pub IsOutcome : Result Reply Refusal → Result Reply Refusal → Type 0
IsOutcome (Err NoMemory) outcome = Unit {0}
IsOutcome result outcome = result ≡ outcome

-- whether what comes of a request is want of memory
abbrev pub is_wanting : {A : Type 0} → Result A Refusal → Bool
is_wanting (Err NoMemory) = true
is_wanting result = false

-- whether a copy of the reply takes no memory: it is no more than a word, or a refusal
abbrev pub is_bare : Reply → Bool
is_bare Done = true
is_bare (Refused refusal) = true
is_bare _ = false

-- of the replies, one to each request of the steps, those to the principal's requests
abbrev pub replies_to : ℕ → List steps.Step → List Reply → List Reply
replies_to who [] replies = []
replies_to who (Sweeps n ∷ steps) replies = replies_to who steps replies
replies_to who (Asks t caller request ∷ steps) [] = []
replies_to who (Asks t caller request ∷ steps) (reply ∷ replies) =
    cond (caller.who == who) (reply ∷ replies_to who steps replies) (replies_to who steps replies)

-- the replies to the principal in the plain log of the steps without its strangers' requests and without sweeps
abbrev pub replies_without_strangers : Base → ℕ → List steps.Step → List Reply
replies_without_strangers base who steps = replies_in (records_of who (play base (strike who steps)))
