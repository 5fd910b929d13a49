-- What answering events makes of a drive, and what is sent.
use Rattle.std.specs.Prelude.{◌≡◌, ℕ, IsTrue, Option, Some, None, List, ◌++◌, length, filter_map}
use Rattle.s4_types.specs.declared.reply.Reply.{Reply}
use Rattle.s4_types.specs.declared.record.Step.{Step}
use Rattle.s4_types.specs.declared.record.Step.TheVariants as steps
use Rattle.s4_types.specs.Play.{replies as replies_in, carried_out, without_no_memory, request_count}
use Rattle.s4_types.specs.Log.{Log, steps_on}
use Rattle.s4_codec.specs.Fits.{fit}
use Rattle.s4_stream.specs.declared.event.Event.{Event}
use Rattle.s4_stream.specs.declared.event.Event.TheVariants.{Welcome, Request, Fault}
use Rattle.s4_stream.specs.Talk.{sent_for}
use Rattle.s4_session.specs.Arrivals.{versions_of}

-- the step of the drive that an event asks for at a moment
abbrev pub step_by_event : ℕ → Event → Option Step
step_by_event t (Request caller r) = Some (steps.Request t caller r)
step_by_event t (Welcome caller) = None
step_by_event t (Fault f) = None

-- the steps of the drive that events ask for at a moment
abbrev pub steps_by : ℕ → List Event → List Step
steps_by t events = filter_map (step_by_event t) events

-- The events are answered: their requests by the drive, and by nothing else, one reply each, which has a spelling within a frame of its caller's version,
-- and what is sent for them is added to the bytes.
pub record Answered (t : ℕ) (events : List Event) (old new : Log) (before after : List ℕ) : Type 0 where
  pub replies : List Reply
  pub each : length replies ≡ request_count (steps_by t events)
  pub bodies : IsTrue (fit (versions_of (steps_by t events)) replies)
  pub log : new ≡ steps_on old (carried_out (steps_by t events) replies)
  pub told : replies_in new.history ≡ replies_in old.history ++ without_no_memory replies
  pub sent : after ≡ before ++ sent_for events replies
