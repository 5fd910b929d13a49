use Rattle.std.proofs.Common.{◌≡◌, List, sym, ◌∙◌, ap, subst, arith}
use Rattle.s4_types.specs.declared.object.Purse.{Purse}
use Rattle.s4_ledger.specs.declared.accounts.Account.{Account}
use Rattle.s4_ledger.specs.Accounts.{spent_in, budgets_of}
use Rattle.s4_ledger.specs.Balance.{IsBalanced}
use Rattle.s4_ledger.specs.Books.{Books, budget_of, has_budget, place_of, HasAccount}
use Rattle.std.specs.Prelude.{true, cond, is_some}
use Rattle.s4_types.specs.Names.{same_purse}
use Rattle.s4_types.proofs.Booleans.{by_test}
use Rattle.s4_ledger.specs.Accounts.{opened}
use Rattle.s4_ledger.proofs.Accounting.{budget-same, has-place, opened-same, opened-still, opened-others, opened-places}
use Rattle.s4_ledger.proofs.Balancing.{balance_open}
use Rattle.s4_ledger.proofs.ledger.Ledger.set_budget.Goals as goal

pub invariant_of-self : goal.invariant_of-self
invariant_of-self c = subst (IsBalanced c.self.inside.charges.entries) (sym c.in_err-payer.ensures.err) c.self.invariant

-- what an opening left is told as before
kept : (q : Purse) (old mid : List (Purse × Account)) → mid ≡ opened q old → (p : Purse) → budget_of p (budgets_of mid) ≡ budget_of p (budgets_of old)
kept q old mid is p = ap (λ es. budget_of p (budgets_of es)) is ∙ budget-same old (opened q old) (opened-same q old) p

-- who has a place there has one still
as_before : (mid new : List (Purse × Account)) → ((p : Purse) → place_of p (budgets_of new) ≡ place_of p (budgets_of mid)) → (p : Purse) → has_budget p (budgets_of new) ≡ has_budget p (budgets_of mid)
as_before mid new places p = has-place p new ∙ ap is_some (places p) ∙ sym (has-place p mid)

pub invariant_of-self-2 : goal.invariant_of-self-2
invariant_of-self-2 c =
    let q : Purse = c.args.purse.now in
    let old : List (Purse × Account) = c.self.inside.accounts in
    let mid : List (Purse × Account) = c.open.new.self in
    let new : List (Purse × Account) = c.set_budget.new.self in
    balance_open c.self.inside.charges.entries old c.self.invariant new
    (λ p. c.set_budget.ensures.spent p ∙ ap (λ es. spent_in p es) c.in_ok-payer.ensures.ok ∙ ap (λ (a : Account). a.spent) (opened-same q old p))
    (λ p. by_test (same_purse c.in_ok-payer.payer.purse p)
    (λ t. let set : budget_of p (budgets_of new) ≡ c.args.budget = c.set_budget.ensures.set p ∙ ap (λ b. cond b c.args.budget (budget_of p (budgets_of mid))) t in omega (arith, set, c.ranges.budget.fits))
    (λ f. let set : budget_of p (budgets_of new) ≡ budget_of p (budgets_of old) = c.set_budget.ensures.set p ∙ ap (λ b. cond b c.args.budget (budget_of p (budgets_of mid))) f ∙ kept q old mid c.in_ok-payer.ensures.ok p in
    omega (arith, set, c.self.invariant.capped p)))
    (λ p has. c.set_budget.ensures.places p.purse ∙ ap (λ es. place_of p.purse (budgets_of es)) c.in_ok-payer.ensures.ok ∙ opened-places q old p.purse p.place has)

pub returns-clause-set : goal.returns-clause-set
returns-clause-set c =
    let q : Purse = c.args.purse.now in
    let old : List (Purse × Account) = c.self.inside.accounts in
    let mid : List (Purse × Account) = c.open.new.self in
    let new : List (Purse × Account) = c.set_budget.new.self in
    as_before mid new c.set_budget.ensures.places q ∙ ap (λ p. has_budget p (budgets_of mid)) (sym c.in_ok-payer.ensures.payer)
    ∙ has-place c.in_ok-payer.payer.purse mid ∙ ap is_some c.in_ok-payer.ensures.place

pub returns-clause-ok : goal.returns-clause-ok
returns-clause-ok c p =
    let q : Purse = c.args.purse.now in
    let old : List (Purse × Account) = c.self.inside.accounts in
    let mid : List (Purse × Account) = c.open.new.self in
    let new : List (Purse × Account) = c.set_budget.new.self in
    c.set_budget.ensures.set p ∙ ap (λ x. cond (same_purse x p) c.args.budget (budget_of p (budgets_of mid))) c.in_ok-payer.ensures.payer
    ∙ ap (cond (same_purse q p) c.args.budget) (kept q old mid c.in_ok-payer.ensures.ok p ∙ ap (λ (b : Books). budget_of p b.budgets) c.self.view_is)

pub returns-in_err-payer-clause-opens : goal.returns-in_err-payer-clause-opens
returns-in_err-payer-clause-opens c =
    let same : budgets_of c.open.new.self ≡ c.args.self.now.budgets = ap budgets_of c.in_err-payer.ensures.err ∙ ap (λ (b : Books). b.budgets) c.self.view_is in
    record {
      accounts = λ p has. ap (has_budget p) same ∙ has;
      others = λ p other. ap (has_budget p) same;
      places = λ p has. ap (place_of p.purse) same ∙ has;
      horizon = ap (λ (b : Books). b.horizon) c.self.view_is;
      charges = ap (λ (b : Books). b.charges) c.self.view_is;
      room = ap (λ (b : Books). b.room) c.self.view_is;
    }

pub returns-clause-opens : goal.returns-clause-opens
returns-clause-opens c =
    let q : Purse = c.args.purse.now in
    let old : List (Purse × Account) = c.self.inside.accounts in
    let mid : List (Purse × Account) = c.open.new.self in
    let new : List (Purse × Account) = c.set_budget.new.self in
    record {
      accounts = λ p has. as_before mid new c.set_budget.ensures.places p ∙ ap (λ es. has_budget p (budgets_of es)) c.in_ok-payer.ensures.ok
          ∙ opened-still q old p (subst (λ (b : Books). has_budget p b.budgets ≡ true) (sym c.self.view_is) has);
      others = λ p other. as_before mid new c.set_budget.ensures.places p ∙ ap (λ es. has_budget p (budgets_of es)) c.in_ok-payer.ensures.ok
          ∙ opened-others q old p other ∙ ap (λ (b : Books). has_budget p b.budgets) c.self.view_is;
      places = λ p has. c.set_budget.ensures.places p.purse ∙ ap (λ es. place_of p.purse (budgets_of es)) c.in_ok-payer.ensures.ok
          ∙ opened-places q old p.purse p.place (subst (λ (b : Books). HasAccount p b.budgets) (sym c.self.view_is) has);
      horizon = ap (λ (b : Books). b.horizon) c.self.view_is;
      charges = ap (λ (b : Books). b.charges) c.self.view_is;
      room = ap (λ (b : Books). b.room) c.self.view_is;
    }
