use Rattle.std.proofs.Common.{◌≡◌, ◌<◌, ◌^◌, List, refl, sym, ◌∙◌, ap, subst}
use Rattle.s4_types.specs.declared.object.Purse.{Purse}
use Rattle.s4_ledger.specs.declared.accounts.Account.{Account}
use Rattle.s4_ledger.specs.declared.charge.Entry.{Entry}
use Rattle.s4_ledger.specs.Accounts.{budgets_of}
use Rattle.s4_ledger.specs.Balance.{IsBalanced}
use Rattle.s4_ledger.specs.Books.{Books, budget_of, has_budget, HasAccount}
use Rattle.std.specs.Prelude.{true}
use Rattle.s4_ledger.specs.Accounts.{opened}
use Rattle.s4_ledger.proofs.Accounting.{budget-same, by_result, ok-has, err-budgets, opened-same, opened-still, opened-others, opened-places}
use Rattle.s4_ledger.proofs.Balancing.{balance_open}
use Rattle.s4_ledger.proofs.ledger.Ledger.open.Goals as goal

pub invariant_of-self : goal.invariant_of-self
invariant_of-self c =
    let q : Purse = c.args.purse.now in
    let old : List (Purse × Account) = c.self.inside.accounts in
    let entries : List Entry = c.self.inside.charges.entries in
    by_result (IsBalanced entries) c.open.result old (opened q old) c.open.new.self c.open.ensures.ok c.open.ensures.err c.self.invariant
    (balance_open entries old c.self.invariant (opened q old) (λ p. ap (λ (a : Account). a.spent) (opened-same q old p))
    (λ p. subst (λ n. n < 2 ^ 32) (sym (budget-same old (opened q old) (opened-same q old) p)) (c.self.invariant.capped p))
    (λ p has. opened-places q old p.purse p.place has))

pub returns-clause-ok : goal.returns-clause-ok
returns-clause-ok c = ok-has c.args.purse.now c.open.new.self c.open.result c.open.ensures.payer c.open.ensures.place

pub returns-clause-there : goal.returns-clause-there
returns-clause-there c has = c.open.ensures.there (subst (λ (b : Books). has_budget c.args.purse.now b.budgets ≡ true) (sym c.self.view_is) has)

pub returns-clause-err : goal.returns-clause-err
returns-clause-err c = err-budgets c.open.result c.self.inside.accounts c.open.new.self c.args.self.now.budgets c.open.ensures.err (ap (λ (b : Books). b.budgets) c.self.view_is)

pub returns-clause-budgets : goal.returns-clause-budgets
returns-clause-budgets c p =
    let q : Purse = c.args.purse.now in
    let old : List (Purse × Account) = c.self.inside.accounts in
    by_result (λ es. budget_of p (budgets_of es) ≡ budget_of p (budgets_of old)) c.open.result old (opened q old) c.open.new.self c.open.ensures.ok c.open.ensures.err refl
    (budget-same old (opened q old) (opened-same q old) p)
    ∙ ap (λ (b : Books). budget_of p b.budgets) c.self.view_is

pub returns-clause-opens : goal.returns-clause-opens
returns-clause-opens c =
    let q : Purse = c.args.purse.now in
    let old : List (Purse × Account) = c.self.inside.accounts in
    record {
      accounts = λ p has.
          let had : has_budget p (budgets_of old) ≡ true = subst (λ (b : Books). has_budget p b.budgets ≡ true) (sym c.self.view_is) has in
          by_result (λ es. has_budget p (budgets_of es) ≡ true) c.open.result old (opened q old) c.open.new.self c.open.ensures.ok c.open.ensures.err had (opened-still q old p had);
      others = λ p other.
          by_result (λ es. has_budget p (budgets_of es) ≡ has_budget p (budgets_of old)) c.open.result old (opened q old) c.open.new.self c.open.ensures.ok c.open.ensures.err refl
          (opened-others q old p other)
          ∙ ap (λ (b : Books). has_budget p b.budgets) c.self.view_is;
      places = λ p has.
          let had : HasAccount p (budgets_of old) = subst (λ (b : Books). HasAccount p b.budgets) (sym c.self.view_is) has in
          by_result (λ es. HasAccount p (budgets_of es)) c.open.result old (opened q old) c.open.new.self c.open.ensures.ok c.open.ensures.err had (opened-places q old p.purse p.place had);
      horizon = ap (λ (b : Books). b.horizon) c.self.view_is;
      charges = ap (λ (b : Books). b.charges) c.self.view_is;
      room = ap (λ (b : Books). b.room) c.self.view_is;
    }
