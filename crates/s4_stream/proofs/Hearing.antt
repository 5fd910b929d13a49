-- Hearing one frame more.
use Rattle.std.proofs.Common.{◌≡◌, ℕ, zero, suc, ◌+◌, ◌-◌, ◌<◌, ◌≤◌, true, false, Some, None, List, [], ◌∷◌, ◌++◌, drop, refl, sym, ap, ◌∙◌, append_assoc, arith}
use Rattle.std.proofs.lemmas.List.{append-nil}
use Rattle.s4_codec.specs.Frames.{Whole, Part, BadLength, front_of}
use Rattle.s4_stream.specs.Logins.{Logins}
use Rattle.s4_stream.specs.declared.event.Event.{Event}
use Rattle.s4_stream.specs.declared.event.Event.TheVariants as event
use Rattle.s4_stream.specs.declared.event.SessionFault.TheVariants as fault
use Rattle.s4_stream.specs.declared.event.SessionState.{SessionState}
use Rattle.s4_stream.specs.declared.event.SessionState.TheVariants.{Greeting, Open, Closed}
use Rattle.s4_stream.specs.Stream.{Heard, hear_frames, from_front, first, said, state_after, unheard, limit_at}
use Rattle.s4_stream.specs.declared.session.Next as fronts
use Rattle.s4_stream.specs.Feeding.{after_events, heard_so_far, in_all, HearsOne, StandsFirst}

-- one frame more, where nothing is closed
pub open_frames : (n : ℕ) (logins : Logins) (state : SessionState) (bytes : List ℕ) → (state ≡ Closed → ⊥)
    → hear_frames (suc n) logins state bytes ≡ from_front logins state bytes (hear_frames n logins) (front_of (limit_at state) bytes)
open_frames n logins Greeting bytes live = refl
open_frames n logins (Open caller) bytes live = refl
open_frames n logins Closed bytes live = absurd (live refl)

pub closed_frames : (n : ℕ) (logins : Logins) (bytes : List ℕ) → hear_frames n logins Closed bytes ≡ heard_so_far [] Closed []
closed_frames zero logins bytes = refl
closed_frames (suc n) logins bytes = refl

pub unheard_live : (state : SessionState) (bytes : List ℕ) → (state ≡ Closed → ⊥) → unheard state bytes ≡ heard_so_far [] state bytes
unheard_live Greeting bytes live = refl
unheard_live (Open caller) bytes live = refl
unheard_live Closed bytes live = absurd (live refl)

-- ---- what stands first

-- a whole frame stands there
pub whole_first : (n : ℕ) (logins : Logins) (state : SessionState) (bytes body rest : List ℕ) → (state ≡ Closed → ⊥) → front_of (limit_at state) bytes ≡ Whole body rest
    → hear_frames (suc n) logins state bytes ≡ first (said logins state body) (hear_frames n logins (state_after (said logins state body)) rest)
whole_first n logins state bytes body rest live front = open_frames n logins state bytes live ∙ ap (from_front logins state bytes (hear_frames n logins)) front

-- after a fault it doesn't matter what is left
pub fault_first : (n : ℕ) (logins : Logins) (event : Event) (left other : List ℕ) → state_after event ≡ Closed
    → first event (hear_frames n logins (state_after event) left) ≡ first event (hear_frames n logins (state_after event) other)
fault_first n logins event left other ends =
    ap (λ (s : SessionState). first event (hear_frames n logins s left)) ends
    ∙ ap (first event) (closed_frames n logins left ∙ sym (closed_frames n logins other))
    ∙ ap (λ (s : SessionState). first event (hear_frames n logins s other)) (sym ends)

pub part_first : (n : ℕ) (logins : Logins) (state : SessionState) (bytes : List ℕ) → (state ≡ Closed → ⊥) → front_of (limit_at state) bytes ≡ Part
    → hear_frames (suc n) logins state bytes ≡ heard_so_far [] state bytes
part_first n logins state bytes live front = open_frames n logins state bytes live ∙ ap (from_front logins state bytes (hear_frames n logins)) front

pub bad_first : (n : ℕ) (logins : Logins) (state : SessionState) (bytes left : List ℕ) → (state ≡ Closed → ⊥) → front_of (limit_at state) bytes ≡ BadLength
    → hear_frames (suc n) logins state bytes ≡ first (event.Fault fault.FrameLength) (hear_frames n logins Closed left)
bad_first n logins state bytes left live front =
    open_frames n logins state bytes live ∙ ap (from_front logins state bytes (hear_frames n logins)) front
    ∙ ap (first (event.Fault fault.FrameLength)) (sym (closed_frames n logins left))

-- ---- one frame after the other

module _ (logins : Logins) (events : List Event) (state : SessionState) (bytes : List ℕ) where
  module _ (next : fronts.Next) (stands : StandsFirst logins state bytes (Some next)) where
    more_heard : (n : ℕ) → in_all (suc n) logins (heard_so_far events state bytes)
        ≡ in_all n logins (heard_so_far (events ++ next.event ∷ []) (state_after next.event) (drop next.count bytes))
    more_heard n =
        let later : Heard = hear_frames n logins (state_after next.event) (drop next.count bytes) in
        ap (after_events events) (stands n) ∙ ap (λ (es : List Event). heard_so_far es later.state later.left) (sym (append_assoc events (next.event ∷ []) later.events))

    pub next_goes_on : (state_after next.event ≡ Closed → ⊥)
        → HearsOne true logins (heard_so_far events state bytes) (heard_so_far (events ++ next.event ∷ []) (state_after next.event) (drop next.count bytes))
    next_goes_on goes = (goes, more_heard)

    pub next_ends : state_after next.event ≡ Closed → drop next.count bytes ≡ []
        → HearsOne false logins (heard_so_far events state bytes) (heard_so_far (events ++ next.event ∷ []) (state_after next.event) (drop next.count bytes))
    next_ends ends none n =
        let now : List Event = events ++ next.event ∷ [] in
        more_heard n
        ∙ ap (λ (s : SessionState). after_events now (hear_frames n logins s (drop next.count bytes))) ends
        ∙ ap (after_events now) (closed_frames n logins (drop next.count bytes))
        ∙ ap (λ (es : List Event). heard_so_far es Closed []) (append-nil now)
        ∙ ap (λ (s : SessionState). heard_so_far now s []) (sym ends)
        ∙ ap (heard_so_far now (state_after next.event)) (sym none)

  pub none_ends : StandsFirst logins state bytes None → HearsOne false logins (heard_so_far events state bytes) (heard_so_far events state bytes)
  none_ends stands n = ap (after_events events) (stands n) ∙ ap (λ (es : List Event). heard_so_far es state bytes) (append-nil events)

-- the loop ends where nothing more is heard, or where all is
module _ (logins : Logins) (total now new : Heard) (count i : ℕ) (lt : i < count) (so_far : in_all (count - i) logins now ≡ total) where
  pub ends_heard : HearsOne false logins now new → total ≡ new
  ends_heard one =
      let k : count - i ≡ suc (count - (i + 1)) = omega arith in
      sym so_far ∙ ap (λ (m : ℕ). in_all m logins now) k ∙ one (count - (i + 1))

  pub goes_on : HearsOne true logins now new → in_all (count - (i + 1)) logins new ≡ total
  goes_on one =
      let k : count - i ≡ suc (count - (i + 1)) = omega arith in
      sym (one.1 (count - (i + 1))) ∙ ap (λ (m : ℕ). in_all m logins now) (sym k) ∙ so_far

pub all_heard : (logins : Logins) (total : Heard) (events : List Event) (state : SessionState) (left : List ℕ) (count i : ℕ) → count ≤ i → (state ≡ Closed → ⊥)
    → in_all (count - i) logins (heard_so_far events state left) ≡ total → total ≡ heard_so_far events state left
all_heard logins total events state left count i le live so_far =
    let k : count - i ≡ 0 = omega arith in
    sym so_far ∙ ap (λ (m : ℕ). in_all m logins (heard_so_far events state left)) k
    ∙ ap (after_events events) (unheard_live state left live) ∙ ap (λ (es : List Event). heard_so_far es state left) (append-nil events)
