use Rattle.std.proofs.Common.{◌+◌, ◌<◌, sym, ◌∙◌, arith}
use Rattle.std.specs.Prelude.{Err, nat_lt}
use Rattle.s4_types.specs.declared.reply.Refusal.TheVariants.{OverBudget}
use Rattle.s4_types.specs.Spending.{spent_at, budget_of}
use Rattle.s4_types.proofs.Booleans.{by_test}
use Rattle.s4_ledger.specs.Books as books
use Rattle.s4_types.specs.Log.{base_of}
use Rattle.s4_drive.proofs.Reckoning.{spent-then, fits-within, nothing-within, is-over}
use Rattle.s4_drive.proofs.limits.afford.Goals as goal
use Rattle.s4_drive.proofs.limits.afford.Goals.{then-charge-eq0-via-then-charge-eq0, then-charge-eq0-via-else-charge-eq0+then-room_at}

pub returns-then-charge-eq0-clause-value : goal.returns-then-charge-eq0-clause-value
returns-then-charge-eq0-clause-value g c =
    let p = c.args.purse.now in
    let h = c.args.state.now.history in
    let base = base_of c.args.state.now in
    let limits = c.args.limits.now in
    let t = c.args.moment in
    let spent = spent-then base h limits c.requires.stand t c.requires.later c.horizon-horizon.result c.horizon-horizon.ensures.value p in
    let budget = c.requires.stand.budgets p in
    elim c.then-charge-eq0.branch [
      | then-charge-eq0-via-then-charge-eq0 w ↦ sym (nothing-within (budget_of base p h) (spent_at base p h t) c.args.charge w.if-charge-eq0.true)
      | then-charge-eq0-via-else-charge-eq0+then-room_at w ↦
          let fits = w.room_at.ensures.0 w.if-room_at.true in
          sym (fits-within (budget_of base p h) (spent_at base p h t) c.args.charge (omega (arith, fits, spent, budget)))
    ]

pub returns-clause-value : goal.returns-clause-value
returns-clause-value g c =
    let p = c.args.purse.now in
    let h = c.args.state.now.history in
    let base = base_of c.args.state.now in
    let limits = c.args.limits.now in
    let t = c.args.moment in
    let spent = spent-then base h limits c.requires.stand t c.requires.later c.horizon-horizon.result c.horizon-horizon.ensures.value p in
    let budget = c.requires.stand.budgets p in
    let told = c.spent_at.ensures in
    let allowed = c.budget.ensures in
    let low : 0 < c.args.charge = grind (arith, c.if-charge-eq0.false) in
    let over : books.budget_of p limits.ledger.budgets < books.spending p (books.lasting c.horizon-horizon.result limits.ledger.charges) + c.args.charge =
    by_test (nat_lt (books.budget_of p limits.ledger.budgets) (books.spending p (books.lasting c.horizon-horizon.result limits.ledger.charges) + c.args.charge))
    (λ e. grind (arith, e))
    (λ e. absurd (cc (sym (c.room_at.ensures.1 (grind (arith, e))) ∙ c.if-room_at.false))) in
    (λ i. Err (OverBudget ((told ∙ spent) i) c.args.charge ((allowed ∙ budget) i))) ∙ sym (is-over (budget_of base p h) (spent_at base p h t) c.args.charge low (omega (arith, over, spent, budget)))
