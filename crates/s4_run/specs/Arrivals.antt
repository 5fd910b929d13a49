-- What a list of arrivals is, and what a line adds to it.
use Rattle.std.specs.Prelude.{ℕ, Bool, false, nat_lt, List, [], ◌∷◌}
use Rattle.s4_script.specs.declared.arrivals.ArrivalLine.{ArrivalLine}
use Rattle.s4_script.specs.declared.arrivals.ArrivalLine.TheVariants as line
use Rattle.s4_session.specs.declared.hall_step.HallStep.{HallStep}
use Rattle.s4_session.specs.declared.hall_step.HallStep.TheVariants.{Arrive, Sweep}

-- the window that a hall is opened with, and its steps
pub record Arrivals : Type 0 where
  pub window : ℕ
  pub steps : List HallStep

-- the moment of the newest arrival, or this one where there is none
abbrev pub newest_from : ℕ → List HallStep → ℕ
newest_from moment [] = moment
newest_from moment (Arrive conn later piece ∷ steps) = newest_from later steps
newest_from moment (Sweep n ∷ steps) = newest_from moment steps

-- the moment of the newest arrival, 0 before the first
abbrev pub newest_of : List HallStep → ℕ
newest_of steps = newest_from 0 steps

-- the step of the hall that a line tells
abbrev pub step_of : ArrivalLine → HallStep
step_of (line.Arrive moment conn piece) = Arrive conn moment piece
step_of (line.Sweep n) = Sweep n

-- whether the line is an arrival before the newest one
abbrev pub goes_back : ArrivalLine → List HallStep → Bool
goes_back (line.Arrive moment conn piece) steps = nat_lt moment (newest_of steps)
goes_back (line.Sweep n) steps = false
