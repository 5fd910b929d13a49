-- What is heard of bytes that come in two pieces.
use Rattle.std.proofs.Common.{◌≡◌, ℕ, zero, suc, ◌+◌, ◌≤◌, Some, None, List, [], ◌∷◌, ◌++◌, drop, length, refl, sym, ap, ◌∙◌, arith}
use Rattle.std.proofs.lemmas.List.{length-append, length-drop, nil_from_length}
use Rattle.s4_codec.specs.Frames.{Front, Whole, Part, BadLength, front_of}
use Rattle.s4_stream.specs.Logins.{Logins}
use Rattle.s4_stream.specs.declared.event.Event.TheVariants as event
use Rattle.s4_stream.specs.declared.event.SessionFault.TheVariants as fault
use Rattle.s4_stream.specs.declared.event.SessionState.{SessionState}
use Rattle.s4_stream.specs.declared.event.SessionState.TheVariants.{Greeting, Open, Closed}
use Rattle.s4_stream.specs.Stream.{Heard, hear, hear_frames, from_front, first, said, state_after, unheard, limit_at}
use Rattle.s4_stream.specs.declared.session.Next as fronts
use Rattle.s4_stream.specs.Feeding.{after_events, heard_so_far, StandsFirst}
use Rattle.s4_codec.proofs.FrontLaws.{whole_more, bad_stays, bad_is_long, behind, behind_is_shorter}
use Rattle.s4_stream.proofs.Hearing.{open_frames, closed_frames, unheard_live}

-- with enough frames, how many doesn't matter
abbrev SameFrames : ℕ → Logins → List ℕ → Type 0
SameFrames n logins bytes = (m : ℕ) (state : SessionState) → length bytes ≤ m → hear_frames n logins state bytes ≡ hear_frames m logins state bytes

nothing_heard : (m : ℕ) (logins : Logins) (state : SessionState) → hear_frames m logins state [] ≡ unheard state []
nothing_heard zero logins state = refl
nothing_heard (suc m) logins Greeting = refl
nothing_heard (suc m) logins (Open caller) = refl
nothing_heard (suc m) logins Closed = refl

same_front : (n m : ℕ) (logins : Logins) (state : SessionState) (bytes : List ℕ) (f : Front) → front_of (limit_at state) bytes ≡ f
    → ((rest : List ℕ) → length rest ≤ n → SameFrames n logins rest) → length bytes ≤ suc n → length bytes ≤ suc m
    → from_front logins state bytes (hear_frames n logins) f ≡ from_front logins state bytes (hear_frames m logins) f
same_front n m logins state bytes (Whole body rest) e more le lm =
    let short : length rest + 4 ≤ length bytes = behind_is_shorter bytes rest (behind (limit_at state) bytes body rest e) in
    ap (first (said logins state body)) (more rest (omega arith) m (state_after (said logins state body)) (omega arith))
same_front n m logins state bytes Part e more le lm = refl
same_front n m logins state bytes BadLength e more le lm = refl

same_live : (n m : ℕ) (logins : Logins) (state : SessionState) (bytes : List ℕ) → (state ≡ Closed → ⊥)
    → ((rest : List ℕ) → length rest ≤ n → SameFrames n logins rest) → length bytes ≤ suc n → length bytes ≤ m
    → hear_frames (suc n) logins state bytes ≡ hear_frames m logins state bytes
same_live n zero logins state bytes live more le lm =
    let none : bytes ≡ [] = nil_from_length bytes (omega arith) in
    ap (hear_frames (suc n) logins state) none ∙ nothing_heard (suc n) logins state ∙ sym (nothing_heard zero logins state) ∙ ap (hear_frames zero logins state) (sym none)
same_live n (suc m) logins state bytes live more le lm =
    open_frames n logins state bytes live ∙ same_front n m logins state bytes (front_of (limit_at state) bytes) refl more le lm ∙ sym (open_frames m logins state bytes live)

pub enough : (n : ℕ) (logins : Logins) (bytes : List ℕ) → length bytes ≤ n → SameFrames n logins bytes
enough n logins bytes le m Closed lm = closed_frames n logins bytes ∙ sym (closed_frames m logins bytes)
enough zero logins bytes le m Greeting lm =
    let none : bytes ≡ [] = nil_from_length bytes (omega arith) in
    ap (hear_frames zero logins Greeting) none ∙ sym (nothing_heard m logins Greeting) ∙ ap (hear_frames m logins Greeting) (sym none)
enough zero logins bytes le m (Open caller) lm =
    let none : bytes ≡ [] = nil_from_length bytes (omega arith) in
    ap (hear_frames zero logins (Open caller)) none ∙ sym (nothing_heard m logins (Open caller)) ∙ ap (hear_frames m logins (Open caller)) (sym none)
enough (suc n) logins bytes le m Greeting lm = same_live n m logins Greeting bytes (λ e. absurd cc) (enough n logins) le lm
enough (suc n) logins bytes le m (Open caller) lm = same_live n m logins (Open caller) bytes (λ e. absurd cc) (enough n logins) le lm

-- ---- the next event

-- where nothing stands first, nothing is heard
pub nothing_next : (logins : Logins) (state : SessionState) (bytes : List ℕ) → StandsFirst logins state bytes None → hear logins state bytes ≡ heard_so_far [] state bytes
nothing_next logins state bytes stands =
    let all : length bytes ≤ length bytes = omega arith in
    let more : length bytes ≤ suc (length bytes) = omega arith in
    enough (length bytes) logins bytes all (suc (length bytes)) state more ∙ stands (length bytes)

-- what stands first, and then what is heard of the rest
pub next_then : (logins : Logins) (state : SessionState) (bytes : List ℕ) (next : fronts.Next) → StandsFirst logins state bytes (Some next)
    → hear logins state bytes ≡ after_events (next.event ∷ []) (hear logins (state_after next.event) (drop next.count bytes))
next_then logins state bytes next stands =
    let rest : List ℕ = drop next.count bytes in
    let all : length bytes ≤ length bytes = omega arith in
    let more : length bytes ≤ suc (length bytes) = omega arith in
    let some : length rest ≤ length rest = omega arith in
    let fewer : length rest ≤ length bytes = omega (arith, length-drop next.count bytes) in
    enough (length bytes) logins bytes all (suc (length bytes)) state more ∙ stands (length bytes)
    ∙ ap (first next.event) (sym (enough (length rest) logins rest some (length bytes) (state_after next.event) fewer))

-- ---- two pieces

-- what was heard, and then what is heard of what is left and of more bytes
abbrev and_then : Logins → Heard → List ℕ → Heard
and_then logins h ys = after_events h.events (hear logins h.state (h.left ++ ys))

-- the bytes after n frames at most, in k
abbrev IsCut : ℕ → Logins → List ℕ → List ℕ → Type 0
IsCut n logins ys xs = (k : ℕ) (state : SessionState) → length (xs ++ ys) ≤ k → hear_frames k logins state (xs ++ ys) ≡ and_then logins (hear_frames n logins state xs) ys

cut_closed : (n k : ℕ) (logins : Logins) (xs ys : List ℕ) → hear_frames k logins Closed (xs ++ ys) ≡ and_then logins (hear_frames n logins Closed xs) ys
cut_closed n k logins xs ys =
    closed_frames k logins (xs ++ ys) ∙ sym (closed_frames (length ys) logins ys) ∙ ap (λ (h : Heard). and_then logins h ys) (sym (closed_frames n logins xs))

cut_none : (k : ℕ) (logins : Logins) (state : SessionState) (xs ys : List ℕ) → (state ≡ Closed → ⊥) → length xs ≤ 0 → length (xs ++ ys) ≤ k
    → hear_frames k logins state (xs ++ ys) ≡ and_then logins (hear_frames zero logins state xs) ys
cut_none k logins state xs ys live le lk =
    let all : length (xs ++ ys) ≤ length (xs ++ ys) = omega arith in
    enough k logins (xs ++ ys) lk (length (xs ++ ys)) state all
    ∙ ap (λ (h : Heard). and_then logins h ys) (sym (unheard_live state xs live))

cut_front : (n k : ℕ) (logins : Logins) (state : SessionState) (xs ys : List ℕ) (f : Front) → (state ≡ Closed → ⊥) → front_of (limit_at state) xs ≡ f
    → ((rest : List ℕ) → length rest ≤ n → IsCut n logins ys rest) → length xs ≤ suc n → length (xs ++ ys) ≤ k
    → hear_frames k logins state (xs ++ ys) ≡ and_then logins (from_front logins state xs (hear_frames n logins) f) ys
cut_front n zero logins state xs ys (Whole body rest) live e more le lk =
    let short : length rest + 4 ≤ length xs = behind_is_shorter xs rest (behind (limit_at state) xs body rest e) in
    absurd (omega (arith, short, lk, length-append xs ys))
cut_front n (suc k) logins state xs ys (Whole body rest) live e more le lk =
    let short : length rest + 4 ≤ length xs = behind_is_shorter xs rest (behind (limit_at state) xs body rest e) in
    let room : length (rest ++ ys) ≤ k = omega (arith, short, lk, length-append xs ys, length-append rest ys) in
    open_frames k logins state (xs ++ ys) live
    ∙ ap (from_front logins state (xs ++ ys) (hear_frames k logins)) (whole_more (limit_at state) xs body rest ys e)
    ∙ ap (first (said logins state body)) (more rest (omega arith) k (state_after (said logins state body)) room)
cut_front n k logins state xs ys Part live e more le lk =
    let all : length (xs ++ ys) ≤ length (xs ++ ys) = omega arith in
    enough k logins (xs ++ ys) lk (length (xs ++ ys)) state all
cut_front n zero logins state xs ys BadLength live e more le lk =
    absurd (omega (arith, bad_is_long (limit_at state) xs e, lk, length-append xs ys))
cut_front n (suc k) logins state xs ys BadLength live e more le lk =
    open_frames k logins state (xs ++ ys) live
    ∙ ap (from_front logins state (xs ++ ys) (hear_frames k logins)) (bad_stays (limit_at state) xs ys e)
    ∙ ap (after_events (event.Fault fault.FrameLength ∷ [])) (sym (closed_frames (length ys) logins ys))

cut_live : (n k : ℕ) (logins : Logins) (state : SessionState) (xs ys : List ℕ) → (state ≡ Closed → ⊥)
    → ((rest : List ℕ) → length rest ≤ n → IsCut n logins ys rest) → length xs ≤ suc n → length (xs ++ ys) ≤ k
    → hear_frames k logins state (xs ++ ys) ≡ and_then logins (hear_frames (suc n) logins state xs) ys
cut_live n k logins state xs ys live more le lk =
    cut_front n k logins state xs ys (front_of (limit_at state) xs) live refl more le lk
    ∙ ap (λ (h : Heard). and_then logins h ys) (sym (open_frames n logins state xs live))

cut_frames : (n : ℕ) (logins : Logins) (ys xs : List ℕ) → length xs ≤ n → IsCut n logins ys xs
cut_frames n logins ys xs le k Closed lk = cut_closed n k logins xs ys
cut_frames zero logins ys xs le k Greeting lk = cut_none k logins Greeting xs ys (λ e. absurd cc) le lk
cut_frames zero logins ys xs le k (Open caller) lk = cut_none k logins (Open caller) xs ys (λ e. absurd cc) le lk
cut_frames (suc n) logins ys xs le k Greeting lk = cut_live n k logins Greeting xs ys (λ e. absurd cc) (cut_frames n logins ys) le lk
cut_frames (suc n) logins ys xs le k (Open caller) lk = cut_live n k logins (Open caller) xs ys (λ e. absurd cc) (cut_frames n logins ys) le lk

-- Bytes say the same in one piece and in two.
pub hear_cut : (logins : Logins) (state : SessionState) (xs ys : List ℕ)
    → hear logins state (xs ++ ys) ≡ after_events (hear logins state xs).events (hear logins (hear logins state xs).state ((hear logins state xs).left ++ ys))
hear_cut logins state xs ys =
    let short : length xs ≤ length xs = omega arith in
    let all : length (xs ++ ys) ≤ length (xs ++ ys) = omega arith in
    cut_frames (length xs) logins ys xs short (length (xs ++ ys)) state all
