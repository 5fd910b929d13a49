use Rattle.std.proofs.Common.{sym, ◌∙◌, ap}
use Rattle.s4_ledger.specs.declared.accounts.Account.{Account}
use Rattle.s4_ledger.specs.Books.{Books, budget_of}
use Rattle.s4_ledger.proofs.Accounting.{budget-account}
use Rattle.s4_ledger.proofs.ledger.Ledger.budget.Goals as goal

pub returns : goal.returns
returns c =
    ap (λ (a : Account). a.budget) c.account.ensures ∙ sym (budget-account c.args.purse.now c.self.inside.accounts)
    ∙ ap (λ (b : Books). budget_of c.args.purse.now b.budgets) c.self.view_is
