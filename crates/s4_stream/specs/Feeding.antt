-- What a session makes of a piece.
use Rattle.std.specs.Prelude.{◌≡◌, ℕ, suc, Bool, true, false, Option, Some, None, List, [], ◌∷◌, ◌++◌, length, drop}
use Rattle.std.specs.Io.KnownBytes.{Consumes}
use Rattle.s4_stream.specs.Logins.{Logins}
use Rattle.s4_stream.specs.declared.event.Event.{Event}
use Rattle.s4_stream.specs.declared.event.SessionState.{SessionState}
use Rattle.s4_stream.specs.declared.event.SessionState.TheVariants.{Closed}
use Rattle.s4_stream.specs.declared.session.Next as fronts
use Rattle.s4_stream.specs.Stream.{Heard, hear_frames, hear, first, state_after}

-- where a connection stands, and the bytes that came and aren't heard yet
pub record Listening : Type 0 where
  pub state : SessionState
  pub pending : List ℕ

-- what a session hears in a piece: what it holds, followed by the piece, is heard
abbrev pub hear_piece : Logins → Listening → List ℕ → Heard
hear_piece logins s piece = hear logins s.state (s.pending ++ piece)

-- where a session is left by what was heard
abbrev pub left_by : Heard → Listening
left_by h = record { state = h.state; pending = h.left }

-- what was heard: the events, where they leave the connection, and the bytes that are left
abbrev pub heard_so_far : List Event → SessionState → List ℕ → Heard
heard_so_far events state left = record { events = events; state = state; left = left }

-- these events, and then what was heard
abbrev pub after_events : List Event → Heard → Heard
after_events events heard = record heard { events = events ++ heard.events }

-- Bytes that a reader gave, so many, are held behind those that were.
pub record Fills (left left' : Option (List ℕ)) (n : ℕ) (old new : Listening) : Type 0 where
  pub more : List ℕ
  pub counted : length more ≡ n
  pub consumes : Consumes left left' more
  pub holds : new ≡ record old { pending = old.pending ++ more }

-- Whether this is the next event of what is held. What is held then is all that is heard after it; where there is none, nothing more is heard.
abbrev pub TakesNext : Logins → Listening → Listening → Option Event → Type 0
TakesNext logins old new None = (new ≡ old) × (hear logins old.state old.pending ≡ heard_so_far [] old.state old.pending)
TakesNext logins old new (Some event) =
    (new.state ≡ state_after event) × (hear logins old.state old.pending ≡ after_events (event ∷ []) (hear logins new.state new.pending))

-- Whether this event stands first, of so many bytes; where there is none, nothing is heard of the bytes.
abbrev pub StandsFirst : Logins → SessionState → List ℕ → Option fronts.Next → Type 0
StandsFirst logins state bytes None = (n : ℕ) → hear_frames (suc n) logins state bytes ≡ heard_so_far [] state bytes
StandsFirst logins state bytes (Some next) =
    (n : ℕ) → hear_frames (suc n) logins state bytes ≡ first next.event (hear_frames n logins (state_after next.event) (drop next.count bytes))

-- what is heard with so many frames more
abbrev pub in_all : ℕ → Logins → Heard → Heard
in_all n logins h = after_events h.events (hear_frames n logins h.state h.left)

-- Whether a frame was heard and more may be, and what it brought about.
abbrev pub HearsOne : Bool → Logins → Heard → Heard → Type 0
HearsOne true logins old new = (new.state ≡ Closed → ⊥) × ((n : ℕ) → in_all (suc n) logins old ≡ in_all n logins new)
HearsOne false logins old new = (n : ℕ) → in_all (suc n) logins old ≡ new
