-- What a run sends, step by step.
use Rattle.std.proofs.Common.{◌≡◌, ℕ, suc, ◌+◌, ◌<◌, ◌||◌, Bool, true, false, cond, eqb, Option, Some, None, List, [], ◌∷◌, ◌++◌, length, take, drop, get_or, map, refl, sym, ap, subst, ◌∙◌, arith, drop-cons, add-one}
use Rattle.std.specs.Prelude.{unwrap_or, IfOk, Result, Ok, Err}
use Rattle.std.specs.Global.{Vec}
use Rattle.std.proofs.lemmas.Bool.{eqb-true}
use Rattle.std.proofs.lemmas.List.{append-nil, map-append, take_more}
use Rattle.s4_types.specs.declared.principal.WireVersion.{WireVersion}
use Rattle.s4_types.specs.declared.reply.Reply.{Reply}
use Rattle.s4_codec.specs.Fits.{fit}
use Rattle.s4_types.specs.declared.record.Step.{Step}
use Rattle.s4_types.specs.declared.record.Step.TheVariants as steps
use Rattle.s4_types.specs.Base.{opened}
use Rattle.s4_types.specs.Play.{play, replies as replies_in, request_count, carried_out}
use Rattle.s4_types.proofs.Booleans.{by_test, ||-false, ||-true}
use Rattle.s4_types.specs.Log.{Log, fresh_log, swept, steps_on}
use Rattle.s4_state.proofs.Stepped.{steps_on-history}
use Rattle.s4_session.specs.declared.hall_step.HallStep.{HallStep}
use Rattle.s4_session.specs.declared.hall_step.HallStep.TheVariants.{Arrive, Sweep}
use Rattle.s4_stream.specs.declared.event.SessionState.TheVariants.{Greeting}
use Rattle.s4_stream.specs.Logins.{Logins}
use Rattle.s4_session.specs.Arrivals.{stream_of, occurs, asked_in, Asked, Sweeps, step_of, requests_of, versions_of}
use Rattle.s4_stream.specs.Stream.{hear, events_of}
use Rattle.s4_stream.specs.Feeding.{left_by}
use Rattle.s4_stream.specs.Talk.{sent_for}
use Rattle.s4_session.specs.Sent.{AreRising, lists_of, bytes_for, sent_by, replies_on, AreReplies, IsSent}
use Rattle.s4_session.specs.Halls.{Hall, IsFresh, session_of, session_after, Takes, StandsAfter, Adds, Leaves}
use Rattle.s4_session.proofs.Answering.{steps_on-append, request_count-append, carried_out-append, versions_of-append}
use Rattle.s4_session.proofs.Arriving.{stream_more, occurs_more, moment_swept, asked_more, adds, no_stream, replies_more}
use Rattle.s4_session.proofs.Isolating.{isolates}

-- a fresh hall stands after nothing
pub stands_fresh : (hall : Hall) → IsFresh hall → StandsAfter hall.log.opened hall.logins [] [] hall
stands_fresh hall fresh = record {
  logins_are = refl;
  last_is = fresh.no_arrival;
  sessions = λ c. ap (session_of c) fresh.no_sessions;
  each = refl;
  bodies = refl;
  log = λ i. record { opened = hall.log.opened; cut = fresh.none_went i; history = fresh.no_records i; held = fresh.nothing_held i; ready = fresh.not_ready i };
  told = ap replies_in fresh.no_records;
}

-- ---- a sweep

-- the hall where at most so much of what is expired is freed
abbrev pub swept_hall : Hall → ℕ → Hall
swept_hall hall n = record hall { log = swept n hall.log }

module _ (window : ℕ) (logins : Logins) (arrivals : List HallStep) (told : List Reply) (hall : Hall) (n : ℕ) where
  swept_stream : (d : ℕ) → stream_of d (arrivals ++ Sweep n ∷ []) ≡ stream_of d arrivals
  swept_stream d = stream_more d arrivals (Sweep n) ∙ append-nil (stream_of d arrivals)

  swept_occurs : (d : ℕ) → occurs d (arrivals ++ Sweep n ∷ []) ≡ occurs d arrivals
  swept_occurs d = occurs_more d arrivals (Sweep n) ∙ ||-false (occurs d arrivals)

  swept_asked : asked_in logins (arrivals ++ Sweep n ∷ []) ≡ asked_in logins arrivals ++ Sweeps n ∷ []
  swept_asked = asked_more logins arrivals (Sweep n)

  swept_requests : requests_of logins (arrivals ++ Sweep n ∷ []) ≡ requests_of logins arrivals ++ steps.Sweep n ∷ []
  swept_requests = ap (map step_of) swept_asked ∙ map-append step_of (asked_in logins arrivals) (Sweeps n ∷ [])

  pub stands_swept : StandsAfter window logins arrivals told hall → StandsAfter window logins (arrivals ++ Sweep n ∷ []) told (swept_hall hall n)
  stands_swept st =
      let reqs : List Step = requests_of logins arrivals in
      record {
        logins_are = st.logins_are;
        last_is = st.last_is ∙ sym (moment_swept 0 arrivals n);
        sessions = λ c. st.sessions c ∙ ap (λ (b : Bool). cond b (Some (session_after c logins arrivals)) None) (sym (swept_occurs c))
            ∙ ap (λ (w : List ℕ). cond (occurs c (arrivals ++ Sweep n ∷ [])) (Some (left_by (hear logins Greeting w))) None) (sym (swept_stream c));
        each = rw swept_requests (omega (arith, st.each, request_count-append reqs (steps.Sweep n ∷ [])));
        bodies = ap (λ (w : List Step). fit (versions_of w) told) swept_requests
            ∙ ap (λ (w : List WireVersion). fit w told) (versions_of-append reqs (steps.Sweep n ∷ []) ∙ append-nil (versions_of reqs)) ∙ st.bodies;
        log = ap (swept n) st.log ∙ sym (steps_on-append (fresh_log window) (carried_out reqs told) (steps.Sweep n ∷ []))
            ∙ ap (steps_on (fresh_log window)) (sym (carried_out-append reqs (steps.Sweep n ∷ []) told [] st.each))
            ∙ ap (λ (w : List Reply). steps_on (fresh_log window) (carried_out (reqs ++ steps.Sweep n ∷ []) w)) (append-nil told)
            ∙ ap (λ (w : List Step). steps_on (fresh_log window) (carried_out w told)) (sym swept_requests);
        told = st.told;
      }

  pub bytes_swept : (d : ℕ) → length told ≡ request_count (requests_of logins arrivals) → sent_by d logins (arrivals ++ Sweep n ∷ []) told ≡ sent_by d logins arrivals told
  bytes_swept d each =
      let mine : List Reply = replies_on d (asked_in logins arrivals) told in
      ap (λ (w : List ℕ). sent_for (events_of logins w) (replies_on d (asked_in logins (arrivals ++ Sweep n ∷ [])) told)) (swept_stream d)
      ∙ ap (sent_for (events_of logins (stream_of d arrivals)))
      (ap (λ (w : List Asked). replies_on d w told) swept_asked
      ∙ ap (replies_on d (asked_in logins arrivals ++ Sweeps n ∷ [])) (sym (append-nil told))
      ∙ replies_more d (asked_in logins arrivals) (Sweeps n ∷ []) told [] each
      ∙ append-nil mine)

-- ---- a run

-- What was sent of the first steps.
pub record Sends (window : ℕ) (logins : Logins) (arrivals : List HallStep) (hall : Hall) (sent : List (ℕ × List ℕ)) : Type 0 where
  pub told : List Reply
  pub stands : StandsAfter window logins arrivals told hall
  pub bytes : (d : ℕ) → bytes_for d sent ≡ cond (occurs d arrivals) (Some (sent_by d logins arrivals told)) None

pub sends_nothing : (hall : Hall) (sent : List (ℕ × List ℕ)) → sent ≡ [] → IsFresh hall → Sends hall.log.opened hall.logins [] hall sent
sends_nothing hall sent e fresh = record { told = []; stands = stands_fresh hall fresh; bytes = λ d. ap (bytes_for d) e }

pub sends_swept : (window : ℕ) (logins : Logins) (arrivals : List HallStep) (hall : Hall) (sent : List (ℕ × List ℕ)) (n : ℕ) → Sends window logins arrivals hall sent
    → Sends window logins (arrivals ++ Sweep n ∷ []) (swept_hall hall n) sent
sends_swept window logins arrivals hall sent n s = record {
  told = s.told;
  stands = stands_swept window logins arrivals s.told hall n s.stands;
  bytes = λ d. s.bytes d ∙ ap (λ (b : Bool). cond b (Some (sent_by d logins arrivals s.told)) None) (sym (swept_occurs window logins arrivals s.told hall n d))
      ∙ ap (λ (w : List ℕ). cond (occurs d (arrivals ++ Sweep n ∷ [])) (Some w) None) (sym (bytes_swept window logins arrivals s.told hall n d s.stands.each));
}

-- on a connection that doesn't occur nothing was sent
pub sent_none : (d : ℕ) (logins : Logins) (arrivals : List HallStep) (told : List Reply) → occurs d arrivals ≡ false → sent_by d logins arrivals told ≡ []
sent_none d logins arrivals told e = ap (λ (w : List ℕ). sent_for (events_of logins w) (replies_on d (asked_in logins arrivals) told)) (no_stream d arrivals e)

module _ (window : ℕ) (logins : Logins) (arrivals : List HallStep) (hall new : Hall) (sent after : List (ℕ × List ℕ)) (c t : ℕ) (piece bytes : List ℕ)
    (s : Sends window logins arrivals hall sent) (tk : Takes c t piece hall new bytes)
    (added : (d : ℕ) → bytes_for d after ≡ cond (eqb c d) (Some (unwrap_or (bytes_for c sent) [] ++ bytes)) (bytes_for d sent)) where
  step : Adds window logins arrivals s.told c t piece new bytes
  step = adds window logins arrivals s.told hall new c t piece bytes s.stands tk

  -- the bytes so far
  so_far : unwrap_or (bytes_for c sent) [] ≡ sent_by c logins arrivals s.told
  so_far = ap (λ (o : Option (List ℕ)). unwrap_or o []) (s.bytes c) ∙ by_test (occurs c arrivals)
      (λ e. ap (λ (b : Bool). unwrap_or (cond b (Some (sent_by c logins arrivals s.told)) None) []) e)
      (λ e. ap (λ (b : Bool). unwrap_or (cond b (Some (sent_by c logins arrivals s.told)) None) []) e ∙ sym (sent_none c logins arrivals s.told e))

  pub sends_more : Sends window logins (arrivals ++ Arrive c t piece ∷ []) new after
  unfolding step
  sends_more =
      let now : List HallStep = arrivals ++ Arrive c t piece ∷ [] in
      let all : List Reply = s.told ++ step.more in
      record {
        told = all;
        stands = step.stands;
        bytes = λ d. added d ∙ by_test (eqb c d)
            (λ e. let same : c ≡ d = eqb-true c d e in
            let found : occurs d now ≡ true = occurs_more d arrivals (Arrive c t piece) ∙ ap (λ (b : Bool). occurs d arrivals || b) e ∙ ||-true (occurs d arrivals) in
            let told_here : unwrap_or (bytes_for c sent) [] ++ bytes ≡ sent_by d logins now all
            = ap (λ (w : List ℕ). w ++ bytes) (so_far ∙ ap (λ (k : ℕ). sent_by k logins arrivals s.told) same)
            ∙ ap (λ (b : Bool). sent_by d logins arrivals s.told ++ cond b bytes []) (sym e) ∙ sym (step.bytes d) in
            ap (λ (b : Bool). cond b (Some (unwrap_or (bytes_for c sent) [] ++ bytes)) (bytes_for d sent)) e
            ∙ ap (λ (w : List ℕ). Some w) told_here ∙ ap (λ (b : Bool). cond b (Some (sent_by d logins now all)) None) (sym found))
            (λ e. let found : occurs d now ≡ occurs d arrivals = occurs_more d arrivals (Arrive c t piece) ∙ ap (λ (b : Bool). occurs d arrivals || b) e ∙ ||-false (occurs d arrivals) in
            let same : sent_by d logins now all ≡ sent_by d logins arrivals s.told
            = step.bytes d ∙ ap (λ (b : Bool). sent_by d logins arrivals s.told ++ cond b bytes []) e ∙ append-nil (sent_by d logins arrivals s.told) in
            ap (λ (b : Bool). cond b (Some (unwrap_or (bytes_for c sent) [] ++ bytes)) (bytes_for d sent)) e
            ∙ s.bytes d ∙ ap (λ (b : Bool). cond b (Some (sent_by d logins arrivals s.told)) None) (sym found)
            ∙ ap (λ (w : List ℕ). cond (occurs d now) (Some w) None) (sym same));
      }

-- where all steps were taken, that is what the run sends, and so it leaves the hall
pub leaves_all : (window : ℕ) (logins : Logins) (arrivals : List HallStep) (hall : Hall) (sent : List (ℕ × List ℕ)) → Sends window logins arrivals hall sent → hall.failed ≡ false → AreRising sent
    → Leaves window logins arrivals sent hall
leaves_all window logins arrivals hall sent s whole rising =
    let made : List Step = carried_out (requests_of logins arrivals) s.told in
    let records : hall.log.history ≡ play (opened window) made = ap (λ (l : Log). l.history) s.stands.log ∙ steps_on-history (fresh_log window) made in
    let are : AreReplies (opened window) logins arrivals s.told = record { each = s.stands.each; bodies = s.stands.bodies; log = ap replies_in (sym records) ∙ s.stands.told } in
    record {
      sends = record {
        replies = s.told;
        are_replies = are;
        rising = rising;
        bytes = s.bytes;
        isolated = isolates window logins arrivals s.told sent are s.bytes;
      };
      stands = s.stands;
      not_failed = whole;
    }

-- ---- one step of the list

pub item_at : (arrivals : List HallStep) (i : ℕ) (x d : HallStep) → i < length arrivals → d ≡ get_or arrivals i d → d ≡ x → drop i arrivals ≡ x ∷ drop (i + 1) arrivals
item_at arrivals i x d h at is = rw add-one (drop-cons arrivals i d h ∙ ap (λ w. w ∷ drop (suc i) arrivals) (sym at ∙ is))

pub front_more : (arrivals : List HallStep) (i : ℕ) (x d : HallStep) → i < length arrivals → d ≡ get_or arrivals i d → d ≡ x → take (i + 1) arrivals ≡ take i arrivals ++ x ∷ []
front_more arrivals i x d h at is = take_more arrivals i d h ∙ ap (λ w. take i arrivals ++ w ∷ []) (sym at ∙ is)

pub on_left : {E : Type 0} (window : ℕ) (logins : Logins) (arrivals : List HallStep) (hall : Hall) (sent : List (ℕ × List ℕ)) (result : Result (Vec (ℕ × Vec ℕ)) E)
    → IfOk result (λ list. lists_of list.items ≡ sent) → IfOk result (λ list. AreRising (lists_of list.items)) → Sends window logins arrivals hall sent → hall.failed ≡ false
    → IfOk result (λ list. Leaves window logins arrivals (lists_of list.items) hall)
on_left window logins arrivals hall sent (Ok list) same rising s whole =
    leaves_all window logins arrivals hall (lists_of list.items) (subst (Sends window logins arrivals hall) (sym same) s) whole rising
on_left window logins arrivals hall sent (Err e) same rising s whole = tt

-- what it leaves says what it sends
pub on_sent : {E : Type 0} (window : ℕ) (logins : Logins) (arrivals : List HallStep) (hall : Hall) (result : Result (Vec (ℕ × Vec ℕ)) E)
    → IfOk result (λ list. Leaves window logins arrivals (lists_of list.items) hall) → IfOk result (λ list. IsSent (opened window) logins arrivals (lists_of list.items))
on_sent window logins arrivals hall (Ok list) left = left.sends
on_sent window logins arrivals hall (Err e) left = tt
