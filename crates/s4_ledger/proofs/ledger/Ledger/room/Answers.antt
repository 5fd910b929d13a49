use Rattle.std.proofs.Common.{◌≡◌, sym, ◌∙◌, ap, arith}
use Rattle.s4_types.specs.declared.object.Purse.{Purse}
use Rattle.s4_ledger.specs.declared.accounts.Account.{Account}
use Rattle.s4_ledger.specs.Books.{Books, spending, budget_of}
use Rattle.s4_ledger.proofs.Accounting.{budget-account}
use Rattle.s4_ledger.proofs.ledger.Ledger.room.Goals as goal

pub returns : goal.returns
returns c =
    let p : Purse = c.args.purse.now in
    let spent : c.account-account.result.spent ≡ spending p c.args.self.now.charges =
    ap (λ (a : Account). a.spent) c.account-account.ensures ∙ c.self.invariant.spent p ∙ ap (λ (b : Books). spending p b.charges) c.self.view_is in
    let budget : c.account-account.result.budget ≡ budget_of p c.args.self.now.budgets =
    ap (λ (a : Account). a.budget) c.account-account.ensures ∙ sym (budget-account p c.self.inside.accounts) ∙ ap (λ (b : Books). budget_of p b.budgets) c.self.view_is in
    (λ t. let fits = c.fits.ensures.0 t in omega (arith, fits, spent, budget), λ l. c.fits.ensures.1 (omega (arith, l, spent, budget)))
