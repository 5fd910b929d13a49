-- The bytes that are sent determine the replies.
use Rattle.std.proofs.Common.{◌≡◌, ℕ, Bool, true, false, cond, eqb, Option, Some, None, List, [], ◌∷◌, length, map, refl, sym, ap, ◌∙◌, arith}
use Rattle.std.proofs.lemmas.Bool.{eq-eqb}
use Rattle.std.proofs.lemmas.List.{append_cancel_left}
use Rattle.s4_types.specs.declared.reply.Reply.{Reply}
use Rattle.s4_types.specs.Play.{request_count}
use Rattle.s4_types.specs.declared.principal.WireVersion.{WireVersion}
use Rattle.s4_codec.specs.Replies.{has_body}
use Rattle.s4_codec.specs.Fits.{fit}
use Rattle.s4_codec.proofs.Lawful.{both_true, some_is}
use Rattle.s4_codec.proofs.FitLaws.{same_frame}
use Rattle.s4_stream.specs.declared.event.Event.{Event}
use Rattle.s4_stream.specs.declared.event.Event.TheVariants.{Welcome, Request, Fault}
use Rattle.s4_session.specs.declared.hall_step.HallStep.{HallStep}
use Rattle.s4_stream.specs.Logins.{Logins}
use Rattle.s4_stream.specs.Stream.{events_of}
use Rattle.s4_session.specs.Arrivals.{stream_of, occurs, Asked, Asks, Sweeps, step_of, asked_in, requests_of, versions_of}
use Rattle.s4_stream.specs.Talk.{welcome, fault_frame, sent_for, requests_in, versions_in}
use Rattle.s4_session.specs.Sent.{replies_on, sent_by, bytes_for}
use Rattle.s4_session.specs.Determined.{EachRequestHasOneReply, SentBytesDetermineReplies, RunsHaveOneListOfReplies}
use Rattle.s4_session.proofs.Arriving.{replies_length, count_in, versions_on, versions_told}
use Rattle.s4_session.proofs.Sending.{sent_none}

pub one_reply_each : EachRequestHasOneReply
one_reply_each c logins arrivals told e = replies_length c (asked_in logins arrivals) told e ∙ count_in c logins arrivals

-- ---- one connection

same_on_one : (events : List Event) (one two : List Reply) → length one ≡ requests_in events → length two ≡ requests_in events
    → fit (versions_in events) one ≡ true → fit (versions_in events) two ≡ true → sent_for events one ≡ sent_for events two → one ≡ two
same_on_one [] [] [] n m f g e = refl
same_on_one [] (x ∷ xs) two n m f g e = absurd (omega (arith, n))
same_on_one [] [] (y ∷ ys) n m f g e = absurd (omega (arith, m))
same_on_one (Welcome caller ∷ events) one two n m f g e =
    same_on_one events one two n m f g (append_cancel_left (welcome caller.version) (sent_for events one) (sent_for events two) e)
same_on_one (Fault k ∷ events) one two n m f g e =
    same_on_one events one two n m f g (append_cancel_left (fault_frame k) (sent_for events one) (sent_for events two) e)
same_on_one (Request caller r ∷ events) [] two n m f g e = absurd (omega (arith, n))
same_on_one (Request caller r ∷ events) (x ∷ xs) [] n m f g e = absurd (omega (arith, m))
same_on_one (Request caller r ∷ events) (x ∷ xs) (y ∷ ys) n m f g e =
    let fx = both_true (has_body caller.version x) (fit (versions_in events) xs) f in
    let fy = both_true (has_body caller.version y) (fit (versions_in events) ys) g in
    let first = same_frame caller.version x y (sent_for events xs) (sent_for events ys) fx.0 fy.0 e in
    let rest : xs ≡ ys = same_on_one events xs ys (omega (arith, n)) (omega (arith, m)) fx.1 fy.1 first.1 in
    λ i. first.0 i ∷ rest i

-- the replies on a connection are among all
chosen_fit : (b : Bool) (w : WireVersion) (x : Reply) (ws : List WireVersion) (xs : List Reply) → has_body w x ≡ true → fit ws xs ≡ true → fit (cond b (w ∷ ws) ws) (cond b (x ∷ xs) xs) ≡ true
chosen_fit true w x ws xs one all = rw (one, all) refl
chosen_fit false w x ws xs one all = all

fit_nothing : (ws : List WireVersion) → fit ws [] ≡ true
fit_nothing [] = refl
fit_nothing (w ∷ ws) = refl

fit_on : (c : ℕ) (asked : List Asked) (told : List Reply) → fit (versions_of (map step_of asked)) told ≡ true → fit (versions_on c asked) (replies_on c asked told) ≡ true
fit_on c [] told all = refl
fit_on c (Sweeps n ∷ asked) told all = fit_on c asked told all
fit_on c (Asks d t caller r ∷ asked) [] all = fit_nothing (versions_on c (Asks d t caller r ∷ asked))
fit_on c (Asks d t caller r ∷ asked) (x ∷ told) all =
    let parts = both_true (has_body caller.version x) (fit (versions_of (map step_of asked)) told) all in
    chosen_fit (eqb d c) caller.version x (versions_on c asked) (replies_on c asked told) parts.0 (fit_on c asked told parts.1)

fit_here : (c : ℕ) (logins : Logins) (arrivals : List HallStep) (told : List Reply) → fit (versions_of (requests_of logins arrivals)) told ≡ true
    → fit (versions_in (events_of logins (stream_of c arrivals))) (replies_on c (asked_in logins arrivals) told) ≡ true
fit_here c logins arrivals told all =
    ap (λ (w : List WireVersion). fit w (replies_on c (asked_in logins arrivals) told)) (sym (versions_told c logins arrivals)) ∙ fit_on c (asked_in logins arrivals) told all

-- ---- all connections

heads : (x y : Reply) (xs ys : List Reply) → x ∷ xs ≡ y ∷ ys → (x ≡ y) × (xs ≡ ys)
heads x y xs ys e = (cc, cc)

-- the first reply is that of its connection, and the others agree on each
first_on : (b : Bool) (x y : Reply) (xs ys : List Reply) → b ≡ true → cond b (x ∷ xs) xs ≡ cond b (y ∷ ys) ys → x ≡ y
first_on true x y xs ys is e = (heads x y xs ys e).0
first_on false x y xs ys is e = absurd cc

others_on : (b : Bool) (x y : Reply) (xs ys : List Reply) → cond b (x ∷ xs) xs ≡ cond b (y ∷ ys) ys → xs ≡ ys
others_on true x y xs ys e = (heads x y xs ys e).1
others_on false x y xs ys e = e

same_in_all : (asked : List Asked) (one two : List Reply) → length one ≡ request_count (map step_of asked) → length two ≡ request_count (map step_of asked)
    → ((c : ℕ) → replies_on c asked one ≡ replies_on c asked two) → one ≡ two
same_in_all [] [] [] n m e = refl
same_in_all [] (x ∷ xs) two n m e = absurd (omega (arith, n))
same_in_all [] [] (y ∷ ys) n m e = absurd (omega (arith, m))
same_in_all (Sweeps k ∷ asked) one two n m e = same_in_all asked one two n m e
same_in_all (Asks d t caller r ∷ asked) [] two n m e = absurd (omega (arith, n))
same_in_all (Asks d t caller r ∷ asked) (x ∷ xs) [] n m e = absurd (omega (arith, m))
same_in_all (Asks d t caller r ∷ asked) (x ∷ xs) (y ∷ ys) n m e =
    let first : x ≡ y = first_on (eqb d d) x y (replies_on d asked xs) (replies_on d asked ys) (eq-eqb d d refl) (e d) in
    let rest : xs ≡ ys = same_in_all asked xs ys (omega (arith, n)) (omega (arith, m)) (λ c. others_on (eqb d c) x y (replies_on c asked xs) (replies_on c asked ys) (e c)) in
    λ i. first i ∷ rest i

pub bytes_determine : SentBytesDetermineReplies
bytes_determine logins arrivals one two can may e =
    let asked : List Asked = asked_in logins arrivals in
    same_in_all asked one two can.each may.each
    (λ c. same_on_one (events_of logins (stream_of c arrivals)) (replies_on c asked one) (replies_on c asked two)
    (one_reply_each c logins arrivals one can.each) (one_reply_each c logins arrivals two may.each)
    (fit_here c logins arrivals one can.bodies) (fit_here c logins arrivals two may.bodies) (e c))

-- ---- runs

-- what is sent with the replies is said by what was sent
bytes_said : (occurring : Bool) (bytes other : List ℕ) (said : Option (List ℕ)) → said ≡ cond occurring (Some bytes) None → said ≡ cond occurring (Some other) None → (occurring ≡ false → bytes ≡ other) → bytes ≡ other
bytes_said true bytes other said one two none = some_is bytes other (sym one ∙ two)
bytes_said false bytes other said one two none = none refl

pub runs_have_one : RunsHaveOneListOfReplies
runs_have_one base logins arrivals sent one two =
    bytes_determine logins arrivals one.replies two.replies
    (record { each = one.are_replies.each; bodies = one.are_replies.bodies })
    (record { each = two.are_replies.each; bodies = two.are_replies.bodies })
    (λ c. bytes_said (occurs c arrivals) (sent_by c logins arrivals one.replies) (sent_by c logins arrivals two.replies) (bytes_for c sent) (one.bytes c) (two.bytes c)
    (λ e. sent_none c logins arrivals one.replies e ∙ sym (sent_none c logins arrivals two.replies e)))
