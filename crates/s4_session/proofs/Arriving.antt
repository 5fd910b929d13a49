-- What one more arrival changes.
use Rattle.std.proofs.Common.{◌≡◌, ℕ, ◌||◌, Bool, true, false, cond, eqb, Option, Some, None, List, [], ◌∷◌, ◌++◌, length, drop, map, refl, sym, ap, subst, ◌∙◌, append_assoc, arith}
use Rattle.std.specs.Prelude.{filter_map, unwrap_or, if◌then◌else◌}
use Rattle.std.proofs.lemmas.Bool.{eqb-true, eq-eqb}
use Rattle.std.proofs.lemmas.List.{append-nil, length-append, map-append, drop_at}
use Rattle.std.proofs.lemmas.List.Concat.{flat_map-append, flat_map-cons}
use Rattle.std.proofs.lemmas.List.Folds.{list_any-append}
use Rattle.s4_types.specs.declared.reply.Reply.{Reply}
use Rattle.s4_types.specs.declared.record.Step.{Step}
use Rattle.s4_types.specs.declared.record.Step.TheVariants as steps
use Rattle.s4_types.specs.Play.{request_count, carried_out, without_no_memory}
use Rattle.s4_types.proofs.Booleans.{by_test, ||-false, ||-true}
use Rattle.s4_types.specs.Log.{Log, fresh_log, steps_on}
use Rattle.s4_types.specs.declared.principal.WireVersion.{WireVersion}
use Rattle.s4_codec.specs.Fits.{fit}
use Rattle.s4_stream.specs.declared.event.Event.{Event}
use Rattle.s4_stream.specs.declared.event.Event.TheVariants.{Welcome, Request, Fault}
use Rattle.s4_stream.specs.declared.event.SessionState.TheVariants.{Greeting}
use Rattle.s4_session.specs.declared.hall_step.HallStep.{HallStep}
use Rattle.s4_session.specs.declared.hall_step.HallStep.TheVariants.{Arrive, Sweep}
use Rattle.s4_stream.specs.Logins.{Logins}
use Rattle.s4_stream.specs.Stream.{Heard, hear, events_of}
use Rattle.s4_stream.specs.Feeding.{Listening, after_events, left_by}
use Rattle.s4_session.specs.Arrivals.{piece_on, stream_of, is_on, occurs, moment_after, Asked, Asks, Sweeps, step_of, asked_by_event, events_by, asked_by_step, asked_after, asked_in, requests_of, versions_of}
use Rattle.s4_stream.specs.Talk.{sent_for, requests_in, versions_in}
use Rattle.s4_session.specs.Sent.{replies_on, sent_by}
use Rattle.s4_session.specs.Answered.{steps_by, Answered}
use Rattle.s4_session.specs.Halls.{Hall, fresh, session_of, session_after, heard_on, Takes, StandsAfter, Adds}
use Rattle.s4_stream.proofs.Cuts.{hear_cut}
use Rattle.s4_stream.proofs.Joined.{versions_in-append, versions_count, sent_for-append}
use Rattle.s4_session.proofs.Answering.{steps_on-append, request_count-append, carried_out-append, without-append, count_steps, fit_joined}

same_number : (c : ℕ) → eqb c c ≡ true
same_number c = eq-eqb c c refl

neither : (a b : Bool) → (a || b) ≡ false → (a ≡ false) × (b ≡ false)
neither true b e = absurd cc
neither false b e = (refl, e)

-- ---- streams

pub stream_more : (d : ℕ) (arrivals : List HallStep) (x : HallStep) → stream_of d (arrivals ++ x ∷ []) ≡ stream_of d arrivals ++ piece_on d x
stream_more d arrivals x =
    flat_map-append (piece_on d) arrivals (x ∷ []) ∙ ap (λ (w : List ℕ). stream_of d arrivals ++ w) (flat_map-cons (piece_on d) x [] ∙ append-nil (piece_on d x))

pub occurs_more : (d : ℕ) (arrivals : List HallStep) (x : HallStep) → occurs d (arrivals ++ x ∷ []) ≡ (occurs d arrivals || is_on d x)
occurs_more d arrivals x = list_any-append (is_on d) arrivals (x ∷ []) ∙ ap (λ (b : Bool). occurs d arrivals || b) (||-false (is_on d x))

-- on a connection that doesn't occur nothing came
pub no_stream : (d : ℕ) (arrivals : List HallStep) → occurs d arrivals ≡ false → stream_of d arrivals ≡ []
no_stream d [] e = refl
no_stream d (Sweep n ∷ arrivals) e = flat_map-cons (piece_on d) (Sweep n) arrivals ∙ no_stream d arrivals e
no_stream d (Arrive c t piece ∷ arrivals) e =
    let parts = neither (eqb c d) (occurs d arrivals) e in
    flat_map-cons (piece_on d) (Arrive c t piece) arrivals ∙ ap (λ (b : Bool). (if b then piece else []) ++ stream_of d arrivals) parts.0 ∙ no_stream d arrivals parts.1

module _ (c t : ℕ) (piece : List ℕ) (arrivals : List HallStep) where
  stream_here : stream_of c (arrivals ++ Arrive c t piece ∷ []) ≡ stream_of c arrivals ++ piece
  stream_here = stream_more c arrivals (Arrive c t piece) ∙ ap (λ (b : Bool). stream_of c arrivals ++ (if b then piece else [])) (same_number c)

  stream_there : (d : ℕ) → eqb c d ≡ false → stream_of d (arrivals ++ Arrive c t piece ∷ []) ≡ stream_of d arrivals
  stream_there d e = stream_more d arrivals (Arrive c t piece) ∙ ap (λ (b : Bool). stream_of d arrivals ++ (if b then piece else [])) e ∙ append-nil (stream_of d arrivals)

-- the moment of the last arrival
pub moment_more : (from : ℕ) (arrivals : List HallStep) (c t : ℕ) (piece : List ℕ) → moment_after from (arrivals ++ Arrive c t piece ∷ []) ≡ t
moment_more from [] c t piece = refl
moment_more from (Sweep n ∷ arrivals) c t piece = moment_more from arrivals c t piece
moment_more from (Arrive d m first ∷ arrivals) c t piece = moment_more m arrivals c t piece

pub moment_swept : (from : ℕ) (arrivals : List HallStep) (n : ℕ) → moment_after from (arrivals ++ Sweep n ∷ []) ≡ moment_after from arrivals
moment_swept from [] n = refl
moment_swept from (Sweep k ∷ arrivals) n = moment_swept from arrivals n
moment_swept from (Arrive d m first ∷ arrivals) n = moment_swept m arrivals n

-- ---- events

-- what the events ask on the connection
abbrev pub asked_of : ℕ → ℕ → List Event → List Asked
asked_of c t events = filter_map (asked_by_event c t) events

asked_steps : (c t : ℕ) (events : List Event) → map step_of (asked_of c t events) ≡ steps_by t events
asked_steps c t [] = refl
asked_steps c t (Welcome caller ∷ events) = asked_steps c t events
asked_steps c t (Request caller r ∷ events) = ap (λ (w : List Step). steps.Request t caller r ∷ w) (asked_steps c t events)
asked_steps c t (Fault f ∷ events) = asked_steps c t events

-- what is heard where the piece comes after the arrivals
abbrev pub heard_then : Logins → List HallStep → ℕ → List ℕ → Heard
heard_then logins past c piece = hear logins (session_after c logins past).state ((session_after c logins past).pending ++ piece)

heard_more : (logins : Logins) (past : List HallStep) (c : ℕ) (piece : List ℕ)
    → hear logins Greeting (stream_of c past ++ piece) ≡ after_events (events_of logins (stream_of c past)) (heard_then logins past c piece)
heard_more logins past c piece = hear_cut logins Greeting (stream_of c past) piece

pub events_more : (logins : Logins) (past : List HallStep) (c : ℕ) (piece : List ℕ)
    → events_of logins (stream_of c past ++ piece) ≡ events_of logins (stream_of c past) ++ (heard_then logins past c piece).events
events_more logins past c piece = ap (λ (h : Heard). h.events) (heard_more logins past c piece)

pub events_by_is : (logins : Logins) (past : List HallStep) (c : ℕ) (piece : List ℕ) → events_by logins past c piece ≡ (heard_then logins past c piece).events
events_by_is logins past c piece =
    let old : List Event = events_of logins (stream_of c past) in
    ap (drop (length old)) (events_more logins past c piece) ∙ drop_at old (heard_then logins past c piece).events (length old) refl

-- ---- what is asked

asked_after_more : (logins : Logins) (past arrivals : List HallStep) (x : HallStep)
    → asked_after logins past (arrivals ++ x ∷ []) ≡ asked_after logins past arrivals ++ asked_by_step logins (past ++ arrivals) x
asked_after_more logins past [] x = append-nil (asked_by_step logins past x) ∙ ap (λ (w : List HallStep). asked_by_step logins w x) (sym (append-nil past))
asked_after_more logins past (y ∷ arrivals) x =
    ap (λ (w : List Asked). asked_by_step logins past y ++ w)
    (asked_after_more logins (past ++ y ∷ []) arrivals x ∙ ap (λ (w : List HallStep). asked_after logins (past ++ y ∷ []) arrivals ++ asked_by_step logins w x) (append_assoc past (y ∷ []) arrivals))
    ∙ sym (append_assoc (asked_by_step logins past y) (asked_after logins (past ++ y ∷ []) arrivals) (asked_by_step logins (past ++ y ∷ arrivals) x))

pub asked_more : (logins : Logins) (arrivals : List HallStep) (x : HallStep) → asked_in logins (arrivals ++ x ∷ []) ≡ asked_in logins arrivals ++ asked_by_step logins arrivals x
asked_more logins arrivals x = asked_after_more logins [] arrivals x

asked_arrival : (logins : Logins) (arrivals : List HallStep) (c t : ℕ) (piece : List ℕ)
    → asked_in logins (arrivals ++ Arrive c t piece ∷ []) ≡ asked_in logins arrivals ++ asked_of c t (heard_then logins arrivals c piece).events
asked_arrival logins arrivals c t piece =
    asked_more logins arrivals (Arrive c t piece) ∙ ap (λ (w : List Event). asked_in logins arrivals ++ asked_of c t w) (events_by_is logins arrivals c piece)

pub requests_more : (logins : Logins) (arrivals : List HallStep) (c t : ℕ) (piece : List ℕ)
    → requests_of logins (arrivals ++ Arrive c t piece ∷ []) ≡ requests_of logins arrivals ++ steps_by t (heard_then logins arrivals c piece).events
requests_more logins arrivals c t piece =
    let events : List Event = (heard_then logins arrivals c piece).events in
    ap (map step_of) (asked_arrival logins arrivals c t piece) ∙ map-append step_of (asked_in logins arrivals) (asked_of c t events)
    ∙ ap (λ (w : List Step). requests_of logins arrivals ++ w) (asked_steps c t events)

-- ---- whose replies

-- the versions of those who ask on the connection
abbrev pub versions_on : ℕ → List Asked → List WireVersion
versions_on d [] = []
versions_on d (Sweeps n ∷ asked) = versions_on d asked
versions_on d (Asks c t caller r ∷ asked) = cond (eqb c d) (caller.version ∷ versions_on d asked) (versions_on d asked)

chosen_length : (b : Bool) (x : Reply) (w : WireVersion) (xs : List Reply) (ws : List WireVersion) → length xs ≡ length ws → length (cond b (x ∷ xs) xs) ≡ length (cond b (w ∷ ws) ws)
chosen_length true x w xs ws e = omega (arith, e)
chosen_length false x w xs ws e = e

pub replies_length : (d : ℕ) (asked : List Asked) (told : List Reply) → length told ≡ request_count (map step_of asked) → length (replies_on d asked told) ≡ length (versions_on d asked)
replies_length d [] [] e = refl
replies_length d [] (x ∷ told) e = absurd (omega (arith, e))
replies_length d (Sweeps n ∷ asked) told e = replies_length d asked told e
replies_length d (Asks c t caller r ∷ asked) [] e = absurd (omega (arith, e))
replies_length d (Asks c t caller r ∷ asked) (x ∷ told) e =
    chosen_length (eqb c d) x caller.version (replies_on d asked told) (versions_on d asked) (replies_length d asked told (omega (arith, e)))

chosen_more : {A : Type 0} (b : Bool) (x : A) (xs ys : List A) → cond b (x ∷ (xs ++ ys)) (xs ++ ys) ≡ cond b (x ∷ xs) xs ++ ys
chosen_more true x xs ys = refl
chosen_more false x xs ys = refl

pub replies_more : (d : ℕ) (xs ys : List Asked) (told more : List Reply) → length told ≡ request_count (map step_of xs) → replies_on d (xs ++ ys) (told ++ more) ≡ replies_on d xs told ++ replies_on d ys more
replies_more d [] ys [] more e = refl
replies_more d [] ys (x ∷ told) more e = absurd (omega (arith, e))
replies_more d (Sweeps n ∷ xs) ys told more e = replies_more d xs ys told more e
replies_more d (Asks c t caller r ∷ xs) ys [] more e = absurd (omega (arith, e))
replies_more d (Asks c t caller r ∷ xs) ys (x ∷ told) more e =
    ap (λ (w : List Reply). cond (eqb c d) (x ∷ w) w) (replies_more d xs ys told more (omega (arith, e)))
    ∙ chosen_more (eqb c d) x (replies_on d xs told) (replies_on d ys more)

-- all replies are those of the connection
replies_here : (c t : ℕ) (events : List Event) (told : List Reply) → length told ≡ requests_in events → replies_on c (asked_of c t events) told ≡ told
replies_here c t [] [] e = refl
replies_here c t [] (x ∷ told) e = absurd (omega (arith, e))
replies_here c t (Welcome caller ∷ events) told e = replies_here c t events told e
replies_here c t (Fault f ∷ events) told e = replies_here c t events told e
replies_here c t (Request caller r ∷ events) [] e = absurd (omega (arith, e))
replies_here c t (Request caller r ∷ events) (x ∷ told) e =
    let rest : List Reply = replies_on c (asked_of c t events) told in
    ap (λ (b : Bool). cond b (x ∷ rest) rest) (same_number c) ∙ ap (λ (w : List Reply). x ∷ w) (replies_here c t events told (omega (arith, e)))

-- none is
replies_there : (c d t : ℕ) (events : List Event) (told : List Reply) → eqb c d ≡ false → replies_on d (asked_of c t events) told ≡ []
replies_there c d t [] told e = refl
replies_there c d t (Welcome caller ∷ events) told e = replies_there c d t events told e
replies_there c d t (Fault f ∷ events) told e = replies_there c d t events told e
replies_there c d t (Request caller r ∷ events) [] e = refl
replies_there c d t (Request caller r ∷ events) (x ∷ told) e =
    let rest : List Reply = replies_on d (asked_of c t events) told in
    ap (λ (b : Bool). cond b (x ∷ rest) rest) e ∙ replies_there c d t events told e

versions_on-append : (d : ℕ) (xs ys : List Asked) → versions_on d (xs ++ ys) ≡ versions_on d xs ++ versions_on d ys
versions_on-append d [] ys = refl
versions_on-append d (Sweeps n ∷ xs) ys = versions_on-append d xs ys
versions_on-append d (Asks c t caller r ∷ xs) ys =
    ap (λ (w : List WireVersion). cond (eqb c d) (caller.version ∷ w) w) (versions_on-append d xs ys)
    ∙ chosen_more (eqb c d) caller.version (versions_on d xs) (versions_on d ys)

versions_here : (c t : ℕ) (events : List Event) → versions_on c (asked_of c t events) ≡ versions_in events
versions_here c t [] = refl
versions_here c t (Welcome caller ∷ events) = versions_here c t events
versions_here c t (Fault f ∷ events) = versions_here c t events
versions_here c t (Request caller r ∷ events) =
    let rest : List WireVersion = versions_on c (asked_of c t events) in
    ap (λ (b : Bool). cond b (caller.version ∷ rest) rest) (same_number c) ∙ ap (λ (w : List WireVersion). caller.version ∷ w) (versions_here c t events)

versions_there : (c d t : ℕ) (events : List Event) → eqb c d ≡ false → versions_on d (asked_of c t events) ≡ []
versions_there c d t [] e = refl
versions_there c d t (Welcome caller ∷ events) e = versions_there c d t events e
versions_there c d t (Fault f ∷ events) e = versions_there c d t events e
versions_there c d t (Request caller r ∷ events) e =
    let rest : List WireVersion = versions_on d (asked_of c t events) in
    ap (λ (b : Bool). cond b (caller.version ∷ rest) rest) e ∙ versions_there c d t events e

-- ---- those who ask on a connection are those whom its stream says

abbrev told_versions : ℕ → Logins → List HallStep → List WireVersion
told_versions d logins past = versions_in (events_of logins (stream_of d past))

versions_arrival : (d : ℕ) (logins : Logins) (past : List HallStep) (c t : ℕ) (piece : List ℕ)
    → told_versions d logins past ++ versions_on d (asked_by_step logins past (Arrive c t piece)) ≡ told_versions d logins (past ++ Arrive c t piece ∷ [])
versions_arrival d logins past c t piece =
    let events : List Event = (heard_then logins past c piece).events in
    let asked-is : versions_on d (asked_by_step logins past (Arrive c t piece)) ≡ versions_on d (asked_of c t events) = ap (λ (w : List Event). versions_on d (asked_of c t w)) (events_by_is logins past c piece) in
    by_test (eqb c d)
    (λ e. let same : c ≡ d = eqb-true c d e in
    let here : versions_on d (asked_of c t events) ≡ versions_in events = subst (λ (k : ℕ). versions_on k (asked_of c t events) ≡ versions_in events) same (versions_here c t events) in
    let more : told_versions d logins (past ++ Arrive c t piece ∷ []) ≡ told_versions d logins past ++ versions_in events
    = subst (λ (k : ℕ). told_versions k logins (past ++ Arrive c t piece ∷ []) ≡ told_versions k logins past ++ versions_in events) same
    (ap (λ (w : List ℕ). versions_in (events_of logins w)) (stream_here c t piece past) ∙ ap versions_in (events_more logins past c piece) ∙ versions_in-append (events_of logins (stream_of c past)) events) in
    ap (λ (w : List WireVersion). told_versions d logins past ++ w) (asked-is ∙ here) ∙ sym more)
    (λ e. ap (λ (w : List WireVersion). told_versions d logins past ++ w) (asked-is ∙ versions_there c d t events e) ∙ append-nil (told_versions d logins past)
    ∙ sym (ap (λ (w : List ℕ). versions_in (events_of logins w)) (stream_there c t piece past d e)))

versions_after : (d : ℕ) (logins : Logins) (past arrivals : List HallStep) → told_versions d logins past ++ versions_on d (asked_after logins past arrivals) ≡ told_versions d logins (past ++ arrivals)
versions_after d logins past [] = append-nil (told_versions d logins past) ∙ ap (told_versions d logins) (sym (append-nil past))
versions_after d logins past (Arrive c t piece ∷ arrivals) =
    let x : HallStep = Arrive c t piece in
    let rest : List Asked = asked_after logins (past ++ x ∷ []) arrivals in
    ap (λ (w : List WireVersion). told_versions d logins past ++ w) (versions_on-append d (asked_by_step logins past x) rest)
    ∙ sym (append_assoc (told_versions d logins past) (versions_on d (asked_by_step logins past x)) (versions_on d rest))
    ∙ ap (λ (w : List WireVersion). w ++ versions_on d rest) (versions_arrival d logins past c t piece)
    ∙ versions_after d logins (past ++ x ∷ []) arrivals
    ∙ ap (told_versions d logins) (append_assoc past (x ∷ []) arrivals)
versions_after d logins past (Sweep n ∷ arrivals) =
    let rest : List Asked = asked_after logins (past ++ Sweep n ∷ []) arrivals in
    let same : told_versions d logins (past ++ Sweep n ∷ []) ≡ told_versions d logins past = ap (λ (w : List ℕ). versions_in (events_of logins w)) (stream_more d past (Sweep n) ∙ append-nil (stream_of d past)) in
    ap (λ (w : List WireVersion). w ++ versions_on d rest) (sym same)
    ∙ versions_after d logins (past ++ Sweep n ∷ []) arrivals
    ∙ ap (told_versions d logins) (append_assoc past (Sweep n ∷ []) arrivals)

pub versions_told : (d : ℕ) (logins : Logins) (arrivals : List HallStep) → versions_on d (asked_in logins arrivals) ≡ versions_in (events_of logins (stream_of d arrivals))
versions_told d logins arrivals = versions_after d logins [] arrivals

pub count_in : (d : ℕ) (logins : Logins) (arrivals : List HallStep) → length (versions_on d (asked_in logins arrivals)) ≡ requests_in (events_of logins (stream_of d arrivals))
count_in d logins arrivals = ap length (versions_told d logins arrivals) ∙ versions_count (events_of logins (stream_of d arrivals))

-- ---- an arrival

module _ (window : ℕ) (logins : Logins) (arrivals : List HallStep) (told : List Reply) (hall new : Hall) (c t : ℕ) (piece sent : List ℕ)
    (st : StandsAfter window logins arrivals told hall) (tk : Takes c t piece hall new sent) where
  now : List HallStep
  now = arrivals ++ Arrive c t piece ∷ []

  heard : Heard
  heard = heard_then logins arrivals c piece

  -- the session before
  listening : unwrap_or (session_of c hall.sessions) fresh ≡ session_after c logins arrivals
  listening = by_test (occurs c arrivals)
      (λ e. ap (λ (o : Option Listening). unwrap_or o fresh) (st.sessions c) ∙ ap (λ (b : Bool). unwrap_or (cond b (Some (session_after c logins arrivals)) None) fresh) e)
      (λ e. ap (λ (o : Option Listening). unwrap_or o fresh) (st.sessions c) ∙ ap (λ (b : Bool). unwrap_or (cond b (Some (session_after c logins arrivals)) None) fresh) e
      ∙ ap (λ (w : List ℕ). left_by (hear logins Greeting w)) (sym (no_stream c arrivals e)))

  heard_is : heard_on hall.logins c hall.sessions piece ≡ heard
  unfolding heard
  heard_is = ap (λ (l : Logins). heard_on l c hall.sessions piece) st.logins_are ∙ ap (λ (s : Listening). hear logins s.state (s.pending ++ piece)) listening

  answered : Answered t heard.events hall.log new.log [] sent
  answered = subst (λ (h : Heard). Answered t h.events hall.log new.log [] sent) heard_is tk.answered

  sessions_now : (d : ℕ) → session_of d new.sessions ≡ cond (occurs d now) (Some (session_after d logins now)) None
  unfolding now heard
  sessions_now d = by_test (eqb c d)
      (λ e. let same : c ≡ d = eqb-true c d e in
      let found : occurs d now ≡ true = occurs_more d arrivals (Arrive c t piece) ∙ ap (λ (b : Bool). occurs d arrivals || b) e ∙ ||-true (occurs d arrivals) in
      let after : left_by heard ≡ session_after d logins now
      = ap left_by (sym (heard_more logins arrivals c piece)) ∙ ap (λ (w : List ℕ). left_by (hear logins Greeting w)) (sym (stream_here c t piece arrivals)) ∙ ap (λ (k : ℕ). session_after k logins now) same in
      tk.sessions d ∙ ap (λ (b : Bool). cond b (Some (left_by (heard_on hall.logins c hall.sessions piece))) (session_of d hall.sessions)) e
      ∙ ap (λ (h : Heard). Some (left_by h)) heard_is ∙ ap (λ (s : Listening). Some s) after
      ∙ ap (λ (b : Bool). cond b (Some (session_after d logins now)) None) (sym found))
      (λ e. let found : occurs d now ≡ occurs d arrivals = occurs_more d arrivals (Arrive c t piece) ∙ ap (λ (b : Bool). occurs d arrivals || b) e ∙ ||-false (occurs d arrivals) in
      let same : session_after d logins arrivals ≡ session_after d logins now = ap (λ (w : List ℕ). left_by (hear logins Greeting w)) (sym (stream_there c t piece arrivals d e)) in
      tk.sessions d ∙ ap (λ (b : Bool). cond b (Some (left_by (heard_on hall.logins c hall.sessions piece))) (session_of d hall.sessions)) e
      ∙ st.sessions d ∙ ap (λ (b : Bool). cond b (Some (session_after d logins arrivals)) None) (sym found)
      ∙ ap (λ (s : Listening). cond (occurs d now) (Some s) None) same)

  requests_now : requests_of logins now ≡ requests_of logins arrivals ++ steps_by t heard.events
  unfolding now heard
  requests_now = requests_more logins arrivals c t piece

  more : List Reply
  more = answered.replies

  stands_now : StandsAfter window logins now (told ++ more) new
  unfolding now more
  stands_now = record {
    logins_are = tk.logins ∙ st.logins_are;
    last_is = tk.last ∙ sym (moment_more 0 arrivals c t piece);
    sessions = sessions_now;
    each = rw requests_now (omega (arith, length-append told more, request_count-append (requests_of logins arrivals) (steps_by t heard.events), st.each, answered.each));
    bodies = ap (λ (w : List Step). fit (versions_of w) (told ++ more)) requests_now ∙ fit_joined (requests_of logins arrivals) (steps_by t heard.events) told more st.each st.bodies answered.bodies;
    log = answered.log
        ∙ ap (λ (l : Log). steps_on l (carried_out (steps_by t heard.events) more)) st.log
        ∙ sym (steps_on-append (fresh_log window) (carried_out (requests_of logins arrivals) told) (carried_out (steps_by t heard.events) more))
        ∙ ap (steps_on (fresh_log window)) (sym (carried_out-append (requests_of logins arrivals) (steps_by t heard.events) told more st.each))
        ∙ ap (λ (w : List Step). steps_on (fresh_log window) (carried_out w (told ++ more))) (sym requests_now);
    told = answered.told ∙ ap (λ (w : List Reply). w ++ without_no_memory more) st.told ∙ sym (without-append told more);
  }

  asked_now : (d : ℕ) → replies_on d (asked_in logins now) (told ++ more) ≡ replies_on d (asked_in logins arrivals) told ++ replies_on d (asked_of c t heard.events) more
  unfolding now heard
  asked_now d = ap (λ (w : List Asked). replies_on d w (told ++ more)) (asked_arrival logins arrivals c t piece)
      ∙ replies_more d (asked_in logins arrivals) (asked_of c t heard.events) told more st.each

  bytes_here : sent_by c logins now (told ++ more) ≡ sent_by c logins arrivals told ++ sent
  unfolding now heard more
  bytes_here =
      let old : List Event = events_of logins (stream_of c arrivals) in
      let mine : List Reply = replies_on c (asked_in logins arrivals) told in
      let count : length mine ≡ requests_in old = replies_length c (asked_in logins arrivals) told st.each ∙ count_in c logins arrivals in
      ap (λ (w : List ℕ). sent_for (events_of logins w) (replies_on c (asked_in logins now) (told ++ more))) (stream_here c t piece arrivals)
      ∙ ap (λ (w : List Event). sent_for w (replies_on c (asked_in logins now) (told ++ more))) (events_more logins arrivals c piece)
      ∙ ap (sent_for (old ++ heard.events)) (asked_now c ∙ ap (λ (w : List Reply). mine ++ w) (replies_here c t heard.events more (answered.each ∙ count_steps t heard.events)))
      ∙ sent_for-append old heard.events mine more count
      ∙ ap (λ (w : List ℕ). sent_for old mine ++ w) (sym answered.sent)

  bytes_there : (d : ℕ) → eqb c d ≡ false → sent_by d logins now (told ++ more) ≡ sent_by d logins arrivals told
  unfolding now heard more
  bytes_there d e =
      let mine : List Reply = replies_on d (asked_in logins arrivals) told in
      ap (λ (w : List ℕ). sent_for (events_of logins w) (replies_on d (asked_in logins now) (told ++ more))) (stream_there c t piece arrivals d e)
      ∙ ap (sent_for (events_of logins (stream_of d arrivals))) (asked_now d ∙ ap (λ (w : List Reply). mine ++ w) (replies_there c d t heard.events more e) ∙ append-nil mine)

  pub adds : Adds window logins arrivals told c t piece new sent
  unfolding now more
  adds = record {
    more = more;
    stands = stands_now;
    bytes = λ d. by_test (eqb c d)
        (λ e. let same : c ≡ d = eqb-true c d e in
        subst (λ (k : ℕ). sent_by k logins now (told ++ more) ≡ sent_by k logins arrivals told ++ sent) same bytes_here
        ∙ ap (λ (b : Bool). sent_by d logins arrivals told ++ cond b sent []) (sym e))
        (λ e. bytes_there d e ∙ sym (append-nil (sent_by d logins arrivals told)) ∙ ap (λ (b : Bool). sent_by d logins arrivals told ++ cond b sent []) (sym e));
  }
