use Rattle.std.proofs.Common.{◌≡◌, ◌+◌, ◌≤◌, sym, subst}
use Rattle.std.specs.Prelude.{Contains}
use Rattle.s4_ledger.specs.declared.charge.Charge.{Charge}
use Rattle.s4_ledger.specs.Accounts.{spent_in}
use Rattle.s4_ledger.specs.Queue.{charges_of}
use Rattle.s4_ledger.proofs.Balancing.{balance_less, charge_spent}
use Rattle.s4_ledger.proofs.ledger.Ledger.forgive.Goals as goal

pub subtract-requires-clause-open : goal.subtract-requires-clause-open
subtract-requires-clause-open c = c.self.invariant.known c.take_out-payer.result c.take_out-payer.ensures.payer

pub subtract-requires-clause-spent : goal.subtract-requires-clause-spent
subtract-requires-clause-spent c =
    let charge : Charge = record { purse = c.args.purse.now; end = c.args.end; cost = c.args.cost } in
    subst (λ p. c.args.cost ≤ spent_in p c.self.inside.accounts) (sym c.take_out-payer.ensures.purse)
    (charge_spent c.self.inside.charges.entries c.self.inside.accounts c.self.invariant charge (charges_of c.take_out-payer.new.self.entries) c.take_out-payer.ensures.charges)

pub invariant_of-self : goal.invariant_of-self
invariant_of-self c =
    let charge : Charge = record { purse = c.args.purse.now; end = c.args.end; cost = c.args.cost } in
    balance_less c.self.inside.charges.entries c.self.inside.accounts c.self.invariant c.take_out-payer.new.self.entries c.subtract.new.self charge
    (λ p. subst (λ q. spent_in p c.self.inside.accounts ≡ spent_in p c.subtract.new.self + Rattle.std.specs.Prelude.cond (Rattle.s4_types.specs.Names.same_purse q p) c.args.cost 0) c.take_out-payer.ensures.purse (c.subtract.ensures.spent p))
    c.subtract.ensures.budgets c.take_out-payer.ensures.charges c.take_out-payer.ensures.payers
