use Rattle.std.proofs.Common.{◌≡◌, ℕ, ◌+◌, ◌≤◌, List, [], ◌∷◌, Some, sym, ap, subst, arith, ◌∙◌}
use Rattle.std.specs.Prelude.{sum, sum_by}
use Rattle.s4_types.specs.declared.object.Purse.{Purse}
use Rattle.s4_ledger.specs.Books.{Books, spending, budget_of}
use Rattle.s4_drive.specs.declared.past.Past.{Past}
use Rattle.s4_drive.specs.Stands.{HasRoom, above, charge_weight, charged, costs_of}
use Rattle.s4_drive.proofs.Tallying.{Adds, adds, spends, charged-one, charged-three}
use Rattle.s4_drive.proofs.limits.charge.Goals as goal

pub returns-in-One-clause-charges : goal.returns-in-One-clause-charges
returns-in-One-clause-charges c weight p =
    let old = c.args.ledger.now in
    let new = c.charge.new.self in
    let m = c.args.moment in
    let q = c.args.payer.now.purse in
    let cost = c.in-One.cost in
    subst (λ (past : Past). sum_by (charge_weight weight p) new.charges ≡ sum_by (charge_weight weight p) old.charges + charged (above old.horizon weight) m (Some q) (costs_of past) p) (sym c.in-One.is)
    (charged-one old.horizon m q cost old.charges new.charges (adds old.horizon m q cost old.charges new.charges c.charge.ensures.counts c.charge.ensures.idle) weight p)

-- the room for the three costs of an object
three-fit : (p : Purse) (a b d : ℕ) (ledger : Books) → HasRoom p (a ∷ b ∷ d ∷ []) ledger → spending p ledger.charges + (a + b + d) ≤ budget_of p ledger.budgets
three-fit p a b d ledger room =
    let fits : spending p ledger.charges + sum (a ∷ b ∷ d ∷ []) ≤ budget_of p ledger.budgets = room (omega arith) in
    let whole : sum (a ∷ b ∷ d ∷ []) ≡ 0 + a + b + d = Rattle.std.proofs.Common.refl in
    omega (arith, fits, whole)

pub charge-requires-in-Object-2-clause-room : goal.charge-requires-in-Object-2-clause-room
charge-requires-in-Object-2-clause-room c =
    let old = c.args.ledger.now in
    let p = c.args.payer.now.purse in
    let m = c.args.moment in
    let one = c.charge-in-Object.new.self in
    let a = c.in-Object.data in
    let b = c.in-Object.attributes in
    let d = c.in-Object.acl in
    let first : spending p one.charges ≤ spending p old.charges + a = spends old.horizon m p a old.charges one.charges
    (adds old.horizon m p a old.charges one.charges c.charge-in-Object.ensures.counts c.charge-in-Object.ensures.idle) in
    let room = three-fit p a b d old (subst (λ (past : Past). HasRoom p (costs_of past) old) c.in-Object.is c.requires.room) in
    let same : budget_of p one.budgets ≡ budget_of p old.budgets = ap (budget_of p) c.charge-in-Object.ensures.budgets in
    omega (arith, first, room, same)

pub charge-requires-in-Object-3-clause-room : goal.charge-requires-in-Object-3-clause-room
charge-requires-in-Object-3-clause-room c =
    let old = c.args.ledger.now in
    let p = c.args.payer.now.purse in
    let m = c.args.moment in
    let one = c.charge-in-Object.new.self in
    let two = c.charge-in-Object-2.new.self in
    let a = c.in-Object.data in
    let b = c.in-Object.attributes in
    let d = c.in-Object.acl in
    let first : spending p one.charges ≤ spending p old.charges + a = spends old.horizon m p a old.charges one.charges
    (adds old.horizon m p a old.charges one.charges c.charge-in-Object.ensures.counts c.charge-in-Object.ensures.idle) in
    let second : spending p two.charges ≤ spending p one.charges + b = spends one.horizon m p b one.charges two.charges
    (adds one.horizon m p b one.charges two.charges c.charge-in-Object-2.ensures.counts c.charge-in-Object-2.ensures.idle) in
    let room = three-fit p a b d old (subst (λ (past : Past). HasRoom p (costs_of past) old) c.in-Object.is c.requires.room) in
    let same : budget_of p two.budgets ≡ budget_of p old.budgets = ap (budget_of p) (c.charge-in-Object-2.ensures.budgets ∙ c.charge-in-Object.ensures.budgets) in
    omega (arith, first, second, room, same)

pub returns-in-Object-clause-charges : goal.returns-in-Object-clause-charges
returns-in-Object-clause-charges c weight p =
    let old = c.args.ledger.now in
    let one = c.charge-in-Object.new.self in
    let two = c.charge-in-Object-2.new.self in
    let new = c.charge-in-Object-3.new.self in
    let m = c.args.moment in
    let q = c.args.payer.now.purse in
    let a = c.in-Object.data in
    let b = c.in-Object.attributes in
    let d = c.in-Object.acl in
    let first : Adds old.horizon m q a old.charges one.charges = adds old.horizon m q a old.charges one.charges c.charge-in-Object.ensures.counts c.charge-in-Object.ensures.idle in
    let second : Adds old.horizon m q b one.charges two.charges = subst (λ k. Adds k m q b one.charges two.charges) c.charge-in-Object.ensures.horizon
    (adds one.horizon m q b one.charges two.charges c.charge-in-Object-2.ensures.counts c.charge-in-Object-2.ensures.idle) in
    let third : Adds old.horizon m q d two.charges new.charges = subst (λ k. Adds k m q d two.charges new.charges) (c.charge-in-Object-2.ensures.horizon ∙ c.charge-in-Object.ensures.horizon)
    (adds two.horizon m q d two.charges new.charges c.charge-in-Object-3.ensures.counts c.charge-in-Object-3.ensures.idle) in
    subst (λ (past : Past). sum_by (charge_weight weight p) new.charges ≡ sum_by (charge_weight weight p) old.charges + charged (above old.horizon weight) m (Some q) (costs_of past) p) (sym c.in-Object.is)
    (charged-three old.horizon m q a b d old.charges one.charges two.charges new.charges first second third weight p)
