-- What a principal is sent doesn't depend on its strangers.
use Rattle.std.proofs.Common.{◌≡◌, ℕ, zero, suc, ◌||◌, Bool, true, false, cond, eqb, Option, Some, None, List, [], ◌∷◌, ◌++◌, length, map, filter, refl, sym, ap, subst, ◌∙◌, append_assoc}
use Rattle.std.specs.Prelude.{if◌then◌else◌}
use Rattle.std.specs.List.{list_any}
use Rattle.std.proofs.lemmas.Bool.{eqb-true, eq-eqb}
use Rattle.std.proofs.lemmas.List.Concat.{flat_map-append}
use Rattle.s4_types.specs.declared.principal.Caller.{Caller}
use Rattle.s4_types.specs.declared.request.Request as asked
use Rattle.s4_types.specs.declared.reply.Reply.{Reply}
use Rattle.s4_types.specs.declared.record.Record.{Record}
use Rattle.s4_types.specs.declared.record.Step.{Step}
use Rattle.s4_types.specs.Base.{Base, opened}
use Rattle.s4_types.specs.Play.{play, record_of, replies as replies_in, without_no_memory}
use Rattle.s4_types.specs.Strike.{records_of, strike}
use Rattle.s4_types.proofs.Booleans.{by_test, not_both}
use Rattle.s4_laws.proofs.Isolation.{records-strike}
use Rattle.s4_drive.proofs.Carried.{all_carried, records_after, play_is}
use Rattle.s4_codec.specs.Requests.{request_in}
use Rattle.s4_codec.specs.Frames.{Front, Whole, Part, BadLength, front_of}
use Rattle.s4_stream.specs.declared.event.Event.{Event}
use Rattle.s4_stream.specs.declared.event.Event.TheVariants.{Welcome, Request, Fault}
use Rattle.s4_stream.specs.declared.event.SessionState.TheVariants.{Greeting, Open, Closed}
use Rattle.s4_session.specs.declared.hall_step.HallStep.{HallStep}
use Rattle.s4_session.specs.declared.hall_step.HallStep.TheVariants.{Arrive, Sweep}
use Rattle.s4_stream.specs.Logins.{Logins}
use Rattle.s4_stream.specs.Hello.{hello_in, greeted}
use Rattle.s4_stream.specs.Stream.{Heard, hear, hear_frames, from_front, asked_by, state_after, events_of, limit_at}
use Rattle.s4_session.specs.Arrivals.{piece_on, stream_of, occurs, is_welcome_of, Asked, Asks, Sweeps, step_of, asked_by_step, asked_after, asked_in, requests_of}
use Rattle.s4_session.specs.Sent.{replies_on, sent_on, sent_by, bytes_for, is_by, AreReplies, IsIsolated}
use Rattle.s4_stream.proofs.Cuts.{hear_cut}
use Rattle.s4_stream.proofs.Hearing.{closed_frames}
use Rattle.s4_session.proofs.Arriving.{no_stream, stream_more, asked_of, heard_then, events_more, events_by_is}

-- ---- whose requests a stream says

-- each request is the principal's
abbrev AllBy : ℕ → List Event → Type 0
AllBy p [] = Unit {0}
AllBy p (Welcome caller ∷ events) = AllBy p events
AllBy p (Request caller r ∷ events) = (eqb caller.who p ≡ true) × AllBy p events
AllBy p (Fault f ∷ events) = AllBy p events

all_parts : (p : ℕ) (xs ys : List Event) → AllBy p (xs ++ ys) → AllBy p xs × AllBy p ys
all_parts p [] ys all = (tt, all)
all_parts p (Welcome caller ∷ xs) ys all = all_parts p xs ys all
all_parts p (Request caller r ∷ xs) ys all = let rest = all_parts p xs ys all.1 in ((all.0, rest.0), rest.1)
all_parts p (Fault f ∷ xs) ys all = all_parts p xs ys all

-- what is heard of a caller: its requests, and no welcome
record Speaks (p : ℕ) (caller : Caller) (events : List Event) : Type 0 where
  mine : eqb caller.who p ≡ true → AllBy p events
  unwelcome : list_any (is_welcome_of p) events ≡ false

after_closed : (p : ℕ) (n : ℕ) (logins : Logins) (bytes : List ℕ) → (hear_frames n logins Closed bytes).events ≡ []
after_closed p n logins bytes = ap (λ (h : Heard). h.events) (closed_frames n logins bytes)

speaks_body : (p n : ℕ) (logins : Logins) (caller : Caller) (rest : List ℕ) (o : Option asked.Request) → Speaks p caller (hear_frames n logins (Open caller) rest).events
    → Speaks p caller (asked_by caller o ∷ (hear_frames n logins (state_after (asked_by caller o)) rest).events)
speaks_body p n logins caller rest None more = record {
  mine = λ e. subst (AllBy p) (sym (after_closed p n logins rest)) tt;
  unwelcome = ap (list_any (is_welcome_of p)) (after_closed p n logins rest);
}
speaks_body p n logins caller rest (Some r) more = record { mine = λ e. (e, more.mine e); unwelcome = more.unwelcome }

speaks_front : (p n : ℕ) (logins : Logins) (caller : Caller) (bytes : List ℕ) (f : Front) → ((rest : List ℕ) → Speaks p caller (hear_frames n logins (Open caller) rest).events)
    → Speaks p caller (from_front logins (Open caller) bytes (hear_frames n logins) f).events
speaks_front p n logins caller bytes (Whole body rest) more = speaks_body p n logins caller rest (request_in caller.version body) (more rest)
speaks_front p n logins caller bytes Part more = record { mine = λ e. tt; unwelcome = refl }
speaks_front p n logins caller bytes BadLength more = record { mine = λ e. tt; unwelcome = refl }

speaks : (p n : ℕ) (logins : Logins) (caller : Caller) (bytes : List ℕ) → Speaks p caller (hear_frames n logins (Open caller) bytes).events
speaks p zero logins caller bytes = record { mine = λ e. tt; unwelcome = refl }
speaks p (suc n) logins caller bytes = speaks_front p n logins caller bytes (front_of (limit_at (Open caller)) bytes) (speaks p n logins caller)

-- where a stream says the principal's welcome, its requests are the principal's
abbrev Answers : ℕ → List Event → Type 0
Answers p events = list_any (is_welcome_of p) events ≡ true → AllBy p events

left_true : (a b : Bool) → (a || b) ≡ true → b ≡ false → a ≡ true
left_true true b e f = refl
left_true false b e f = absurd (not_both b e f)

welcomed : (p n : ℕ) (logins : Logins) (rest : List ℕ) (event : Event) → Answers p (event ∷ (hear_frames n logins (state_after event) rest).events)
welcomed p n logins rest (Welcome caller) e =
    let s : Speaks p caller (hear_frames n logins (Open caller) rest).events = speaks p n logins caller rest in
    s.mine (left_true (eqb caller.who p) (list_any (is_welcome_of p) (hear_frames n logins (Open caller) rest).events) e s.unwelcome)
welcomed p n logins rest (Request caller r) e =
    let s : Speaks p caller (hear_frames n logins (Open caller) rest).events = speaks p n logins caller rest in
    absurd (not_both (list_any (is_welcome_of p) (hear_frames n logins (Open caller) rest).events) e s.unwelcome)
welcomed p n logins rest (Fault f) e = subst (AllBy p) (sym (after_closed p n logins rest)) tt

answers_front : (p n : ℕ) (logins : Logins) (bytes : List ℕ) (f : Front) → Answers p (from_front logins Greeting bytes (hear_frames n logins) f).events
answers_front p n logins bytes (Whole body rest) e = welcomed p n logins rest (greeted logins (hello_in body)) e
answers_front p n logins bytes Part e = absurd cc
answers_front p n logins bytes BadLength e = absurd cc

answers_frames : (p n : ℕ) (logins : Logins) (bytes : List ℕ) → Answers p (hear_frames n logins Greeting bytes).events
answers_frames p zero logins bytes e = absurd cc
answers_frames p (suc n) logins bytes e = answers_front p n logins bytes (front_of (limit_at Greeting) bytes) e

-- ---- whose requests are asked

-- each request on the connection is the principal's
abbrev AllMine : ℕ → ℕ → List Asked → Type 0
AllMine c p [] = Unit {0}
AllMine c p (Sweeps n ∷ asked) = AllMine c p asked
AllMine c p (Asks d t caller r ∷ asked) = (eqb d c ≡ true → eqb caller.who p ≡ true) × AllMine c p asked

mine-append : (c p : ℕ) (xs ys : List Asked) → AllMine c p xs → AllMine c p ys → AllMine c p (xs ++ ys)
mine-append c p [] ys one two = two
mine-append c p (Sweeps n ∷ xs) ys one two = mine-append c p xs ys one two
mine-append c p (Asks d t caller r ∷ xs) ys one two = (one.0, mine-append c p xs ys one.1 two)

mine_of : (c p d t : ℕ) (events : List Event) → (eqb d c ≡ true → AllBy p events) → AllMine c p (asked_of d t events)
mine_of c p d t [] all = tt
mine_of c p d t (Welcome caller ∷ events) all = mine_of c p d t events all
mine_of c p d t (Request caller r ∷ events) all = (λ e. (all e).0, mine_of c p d t events (λ e. (all e).1))
mine_of c p d t (Fault f ∷ events) all = mine_of c p d t events all

-- the stream of arrivals, and of those after them
stream_parts : (c : ℕ) (xs ys : List HallStep) → stream_of c (xs ++ ys) ≡ stream_of c xs ++ stream_of c ys
stream_parts c xs ys = flat_map-append (piece_on c) xs ys

-- what an earlier stream said
earlier : (p : ℕ) (logins : Logins) (xs ys : List ℕ) → AllBy p (events_of logins (xs ++ ys)) → AllBy p (events_of logins xs)
earlier p logins xs ys all =
    let later : List Event = (hear logins (hear logins Greeting xs).state ((hear logins Greeting xs).left ++ ys)).events in
    (all_parts p (events_of logins xs) later (subst (AllBy p) (ap (λ (h : Heard). h.events) (hear_cut logins Greeting xs ys)) all)).0

mine_arrival : (c p : ℕ) (logins : Logins) (past : List HallStep) (d t : ℕ) (piece : List ℕ) → AllBy p (events_of logins (stream_of c (past ++ Arrive d t piece ∷ [])))
    → AllMine c p (asked_by_step logins past (Arrive d t piece))
mine_arrival c p logins past d t piece all =
    let heard : List Event = (heard_then logins past d piece).events in
    subst (λ (w : List Event). AllMine c p (asked_of d t w)) (sym (events_by_is logins past d piece))
    (mine_of c p d t heard (λ e.
    let same : d ≡ c = eqb-true d c e in
    let here : AllBy p (events_of logins (stream_of d (past ++ Arrive d t piece ∷ []))) = subst (λ (k : ℕ). AllBy p (events_of logins (stream_of k (past ++ Arrive d t piece ∷ [])))) (sym same) all in
    let joined : stream_of d (past ++ Arrive d t piece ∷ []) ≡ stream_of d past ++ piece
    = stream_more d past (Arrive d t piece) ∙ ap (λ (b : Bool). stream_of d past ++ (if b then piece else [])) (eq-eqb d d refl) in
    (all_parts p (events_of logins (stream_of d past)) heard (subst (AllBy p) (ap (events_of logins) joined ∙ events_more logins past d piece) here)).1))

mine_step : (c p : ℕ) (logins : Logins) (past : List HallStep) (x : HallStep) → AllBy p (events_of logins (stream_of c (past ++ x ∷ []))) → AllMine c p (asked_by_step logins past x)
mine_step c p logins past (Arrive d t piece) all = mine_arrival c p logins past d t piece all
mine_step c p logins past (Sweep n) all = tt

mine_after : (c p : ℕ) (logins : Logins) (past arrivals : List HallStep) → AllBy p (events_of logins (stream_of c (past ++ arrivals))) → AllMine c p (asked_after logins past arrivals)
mine_after c p logins past [] all = tt
mine_after c p logins past (x ∷ arrivals) all =
    let regrouped : AllBy p (events_of logins (stream_of c ((past ++ x ∷ []) ++ arrivals))) = subst (λ (w : List HallStep). AllBy p (events_of logins (stream_of c w))) (sym (append_assoc past (x ∷ []) arrivals)) all in
    let so_far : AllBy p (events_of logins (stream_of c (past ++ x ∷ [])))
    = earlier p logins (stream_of c (past ++ x ∷ [])) (stream_of c arrivals) (subst (λ (w : List ℕ). AllBy p (events_of logins w)) (stream_parts c (past ++ x ∷ []) arrivals) regrouped) in
    mine-append c p (asked_by_step logins past x) (asked_after logins (past ++ x ∷ []) arrivals) (mine_step c p logins past x so_far) (mine_after c p logins (past ++ x ∷ []) arrivals regrouped)

-- ---- the plain log's replies

other_way : (a b : Bool) → (a ≡ true → b ≡ true) → b ≡ false → a ≡ false
other_way true b h e = absurd (not_both b (h refl) e)
other_way false b h e = refl

-- the principal's records and those of its connection
mine_alone : (base : Base) (c p : ℕ) (h : List Record) (asked : List Asked) → AllMine c p asked
    → replies_on c asked (replies_in (records_after base h (map step_of asked))) ≡ replies_on c (filter (is_by p) asked) (replies_in (records_of p (records_after base h (map step_of asked))))
mine_alone base c p h [] all = refl
mine_alone base c p h (Sweeps n ∷ asked) all = mine_alone base c p h asked all
mine_alone base c p h (Asks d t caller r ∷ asked) all =
    let new : Record = record_of base h t caller r in
    let later : List Record = records_after base (h ++ new ∷ []) (map step_of asked) in
    let rest = mine_alone base c p (h ++ new ∷ []) asked all.1 in
    by_test (eqb caller.who p)
    (λ e. ap (λ (w : List Reply). cond (eqb d c) (new.reply ∷ w) w) rest
    ∙ ap (λ (b : Bool). replies_on c (if b then Asks d t caller r ∷ filter (is_by p) asked else filter (is_by p) asked) (replies_in (if b then new ∷ records_of p later else records_of p later))) (sym e))
    (λ e. let apart : eqb d c ≡ false = other_way (eqb d c) (eqb caller.who p) all.0 e in
    ap (λ (b : Bool). cond b (new.reply ∷ replies_on c asked (replies_in later)) (replies_on c asked (replies_in later))) apart ∙ rest
    ∙ ap (λ (b : Bool). replies_on c (if b then Asks d t caller r ∷ filter (is_by p) asked else filter (is_by p) asked) (replies_in (if b then new ∷ records_of p later else records_of p later))) (sym e))

-- ---- isolation

no_events : (p : ℕ) (logins : Logins) → list_any (is_welcome_of p) (events_of logins []) ≡ false
no_events p logins = refl

pub isolates : (window : ℕ) (logins : Logins) (arrivals : List HallStep) (told : List Reply) (sent : List (ℕ × List ℕ)) → AreReplies (opened window) logins arrivals told
    → ((c : ℕ) → bytes_for c sent ≡ cond (occurs c arrivals) (Some (sent_by c logins arrivals told)) None)
    → without_no_memory told ≡ told → IsIsolated (opened window) logins arrivals sent
isolates window logins arrivals told sent are bytes all p c other welcome =
    let base : Base = opened window in
    let xs : List Asked = asked_in logins arrivals in
    let reqs : List Step = requests_of logins arrivals in
    let there : occurs c arrivals ≡ true = by_test (occurs c arrivals) (λ e. e)
    (λ e. absurd (not_both (list_any (is_welcome_of p) (events_of logins (stream_of c arrivals))) welcome (ap (λ (w : List ℕ). list_any (is_welcome_of p) (events_of logins w)) (no_stream c arrivals e) ∙ no_events p logins))) in
    let mine : AllMine c p xs = mine_after c p logins [] arrivals (answers_frames p (length (stream_of c arrivals)) logins (stream_of c arrivals) welcome) in
    let played : told ≡ replies_in (records_after base [] reqs)
    = sym all ∙ sym are.log ∙ ap (λ (w : List Step). replies_in (play base w)) (all_carried reqs told are.each all) ∙ ap replies_in (play_is base [] reqs) in
    let struck : replies_in (records_of p (records_after base [] reqs)) ≡ replies_in (records_of p (play base (strike p reqs)))
    = ap (λ (h : List Record). replies_in (records_of p h)) (sym (play_is base [] reqs)) ∙ sym (ap replies_in (records-strike window p reqs other)) in
    bytes c ∙ ap (λ (b : Bool). cond b (Some (sent_by c logins arrivals told)) None) there
    ∙ ap (λ (w : List Reply). Some (sent_on c logins arrivals w))
    (ap (replies_on c xs) played ∙ mine_alone base c p [] xs mine ∙ ap (replies_on c (filter (is_by p) xs)) struck)
