use Rattle.std.proofs.Common.{◌+◌, ◌≤◌, List, refl, sym, subst, arith}
use Rattle.s4_ledger.specs.declared.accounts.Payer.{Payer}
use Rattle.s4_ledger.specs.declared.charge.Charge.{Charge}
use Rattle.s4_ledger.specs.declared.charge.Entry.{Entry}
use Rattle.s4_ledger.specs.Accounts.{budgets_of}
use Rattle.s4_ledger.specs.Books.{Books, spending, budget_of, HasAccount}
use Rattle.s4_ledger.specs.Queue.{charges_of}
use Rattle.s4_ledger.proofs.Balancing.{balance_more}
use Rattle.s4_ledger.proofs.ledger.Ledger.charge.Goals as goal

pub invariant_of-self : goal.invariant_of-self
invariant_of-self c =
    let payer : Payer = c.args.payer.now in
    let charge : Charge = record { purse = payer.purse; end = c.args.end; cost = c.args.cost } in
    let entries : List Entry = c.self.inside.charges.entries in
    let room : spending payer.purse (charges_of entries) + c.args.cost ≤ budget_of payer.purse (budgets_of c.self.inside.accounts) =
    subst (λ (b : Books). spending payer.purse b.charges + c.args.cost ≤ budget_of payer.purse b.budgets) (sym c.self.view_is) c.requires.room in
    let known : HasAccount payer (budgets_of c.self.inside.accounts) = subst (λ (b : Books). HasAccount payer b.budgets) (sym c.self.view_is) c.requires.account in
    balance_more entries c.self.inside.accounts c.self.invariant c.put.new.self.entries c.add.new.self payer charge refl
    c.add.ensures.spent c.add.ensures.budgets c.put.ensures.charges c.put.ensures.payers known (omega (arith, room, c.self.invariant.spent payer.purse, c.self.invariant.capped payer.purse))
