-- One more arrival at the end of a list whose moments never go down.
use Rattle.std.proofs.Common.{◌≡◌, ℕ, ◌≤◌, List, [], ◌∷◌, ◌++◌, refl}
use Rattle.s4_session.specs.declared.hall_step.HallStep.{HallStep}
use Rattle.s4_session.specs.declared.hall_step.HallStep.TheVariants.{Arrive, Sweep}
use Rattle.s4_session.specs.Arrivals.{NeverDown}
use Rattle.s4_run.specs.Arrivals.{newest_from}

-- an arrival that isn't before the newest one may follow
pub never_down-arrive : (from conn moment : ℕ) (piece : List ℕ) (steps : List HallStep) → NeverDown from steps → newest_from from steps ≤ moment → NeverDown from (steps ++ Arrive conn moment piece ∷ [])
never_down-arrive from conn moment piece [] down later = (later, tt)
never_down-arrive from conn moment piece (Arrive c t p ∷ steps) down later = (down.0, never_down-arrive t conn moment piece steps down.1 later)
never_down-arrive from conn moment piece (Sweep n ∷ steps) down later = never_down-arrive from conn moment piece steps down later

-- a sweep may always follow
pub never_down-sweep : (from n : ℕ) (steps : List HallStep) → NeverDown from steps → NeverDown from (steps ++ Sweep n ∷ [])
never_down-sweep from n [] down = down
never_down-sweep from n (Arrive c t p ∷ steps) down = (down.0, never_down-sweep t n steps down.1)
never_down-sweep from n (Sweep m ∷ steps) down = never_down-sweep from n steps down

-- the newest arrival is the last one
pub newest-arrive : (from conn moment : ℕ) (piece : List ℕ) (steps : List HallStep) → newest_from from (steps ++ Arrive conn moment piece ∷ []) ≡ moment
newest-arrive from conn moment piece [] = refl
newest-arrive from conn moment piece (Arrive c t p ∷ steps) = newest-arrive t conn moment piece steps
newest-arrive from conn moment piece (Sweep n ∷ steps) = newest-arrive from conn moment piece steps

-- a sweep isn't an arrival
pub newest-sweep : (from n : ℕ) (steps : List HallStep) → newest_from from (steps ++ Sweep n ∷ []) ≡ newest_from from steps
newest-sweep from n [] = refl
newest-sweep from n (Arrive c t p ∷ steps) = newest-sweep t n steps
newest-sweep from n (Sweep m ∷ steps) = newest-sweep from n steps
