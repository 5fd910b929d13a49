-- Where a connection is closed, nothing of it is held.
use Rattle.std.proofs.Common.{◌≡◌, ℕ, zero, suc, List, [], ◌++◌, length, refl, sym, ap, ◌∙◌}
use Rattle.s4_codec.specs.Frames.{Front, Whole, Part, BadLength, front_of}
use Rattle.s4_stream.specs.Logins.{Logins}
use Rattle.s4_stream.specs.declared.event.SessionState.{SessionState}
use Rattle.s4_stream.specs.declared.event.SessionState.TheVariants.{Greeting, Open, Closed}
use Rattle.s4_stream.specs.Stream.{Heard, hear, hear_frames, from_front, said, state_after, limit_at}
use Rattle.s4_stream.specs.Feeding.{Listening, hear_piece, heard_so_far}
use Rattle.s4_stream.proofs.Hearing.{closed_frames}

abbrev HoldsNone : Heard → Type 0
HoldsNone h = h.state ≡ Closed → h.left ≡ []

front_holds : (n : ℕ) (logins : Logins) (state : SessionState) (bytes : List ℕ) → (state ≡ Closed → ⊥) → ((s : SessionState) (rest : List ℕ) → HoldsNone (hear_frames n logins s rest))
    → (f : Front) → HoldsNone (from_front logins state bytes (hear_frames n logins) f)
front_holds n logins state bytes live more (Whole body rest) e = more (state_after (said logins state body)) rest e
front_holds n logins state bytes live more Part e = absurd (live e)
front_holds n logins state bytes live more BadLength e = refl

frames_hold : (n : ℕ) (logins : Logins) (state : SessionState) (bytes : List ℕ) → HoldsNone (hear_frames n logins state bytes)
frames_hold zero logins Greeting bytes e = absurd cc
frames_hold zero logins (Open caller) bytes e = absurd cc
frames_hold zero logins Closed bytes e = refl
frames_hold (suc n) logins Greeting bytes e = front_holds n logins Greeting bytes (λ x. absurd cc) (frames_hold n logins) (front_of (limit_at Greeting) bytes) e
frames_hold (suc n) logins (Open caller) bytes e = front_holds n logins (Open caller) bytes (λ x. absurd cc) (frames_hold n logins) (front_of (limit_at (Open caller)) bytes) e
frames_hold (suc n) logins Closed bytes e = refl

pub closed_left : (logins : Logins) (state : SessionState) (bytes : List ℕ) (h : Heard) → hear logins state bytes ≡ h → h.state ≡ Closed → h.left ≡ []
closed_left logins state bytes h is e =
    ap (λ (x : Heard). x.left) (sym is) ∙ frames_hold (length bytes) logins state bytes (ap (λ (x : Heard). x.state) is ∙ e)

-- on a closed connection nothing is heard
pub closed_hears : (logins : Logins) (s : Listening) (piece : List ℕ) → s.state ≡ Closed → hear_piece logins s piece ≡ heard_so_far [] Closed []
closed_hears logins s piece e = ap (λ (w : SessionState). hear logins w (s.pending ++ piece)) e ∙ closed_frames (length (s.pending ++ piece)) logins (s.pending ++ piece)

pub closed_is : (s : Listening) → s.state ≡ Closed → s.pending ≡ [] → s ≡ record { state = Closed; pending = [] }
closed_is s e none = λ i. record { state = e i; pending = none i }
