-- What steps make of a log: its records are those that the plain log adds.
use Rattle.std.proofs.Common.{◌≡◌, List, [], ◌∷◌, refl}
use Rattle.s4_types.specs.declared.record.Step.{Step}
use Rattle.s4_types.specs.declared.record.Step.TheVariants.{Request, Sweep}
use Rattle.s4_types.specs.Play.{play_on}
use Rattle.s4_types.specs.Log.{Log, base_of, log_after, steps_on}

pub steps_on-opened : (log : Log) (steps : List Step) → (steps_on log steps).opened ≡ log.opened
steps_on-opened log [] = refl
steps_on-opened log (Request t caller request ∷ steps) = steps_on-opened (log_after log (Request t caller request)) steps
steps_on-opened log (Sweep n ∷ steps) = steps_on-opened (log_after log (Sweep n)) steps

pub steps_on-history : (log : Log) (steps : List Step) → (steps_on log steps).history ≡ play_on (base_of log) log.history steps
steps_on-history log [] = refl
steps_on-history log (Request t caller request ∷ steps) = steps_on-history (log_after log (Request t caller request)) steps
steps_on-history log (Sweep n ∷ steps) = steps_on-history (log_after log (Sweep n)) steps
