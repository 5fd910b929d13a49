-- The records of a run are in the order of their moments.
use Rattle.std.proofs.Common.{ℕ, ◌≤◌, List, [], ◌∷◌, ◌++◌, arith}
use Rattle.s4_types.specs.declared.record.Record.{Record}
use Rattle.s4_types.specs.declared.record.Step.{Step}
use Rattle.s4_types.specs.declared.record.Step.TheVariants as step
use Rattle.s4_types.specs.Base.{Base}
use Rattle.s4_types.specs.Play.{play, play_on, record_of, InOrder, UpTo, NeverDown}
use Rattle.s4_types.proofs.InTime.{up-later, up-snoc, order-snoc}

run-order : (base : Base) (from now : ℕ) (steps : List Step) (h : List Record) → from ≤ now → NeverDown now steps → InOrder from h → UpTo now h → InOrder from (play_on base h steps)
run-order base from now [] h e d i f = i
run-order base from now (step.Sweep n ∷ steps) h e d i f = run-order base from now steps h e d i f
run-order base from now (step.Request t caller request ∷ steps) h e d i f =
    let later : UpTo t h = up-later now t h d.0 f in
    run-order base from t steps (h ++ record_of base h t caller request ∷ []) (omega (arith, e, d.0)) d.1
    (order-snoc from h (record_of base h t caller request) (omega (arith, e, d.0)) i later)
    (up-snoc t h (record_of base h t caller request) later (omega arith))

pub play-order : (base : Base) (from : ℕ) (steps : List Step) → NeverDown from steps → InOrder from (play base steps)
play-order base from steps d = run-order base from from steps [] (omega arith) d tt tt
