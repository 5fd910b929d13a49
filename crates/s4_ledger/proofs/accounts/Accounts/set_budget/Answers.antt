use Rattle.std.proofs.Common.{◌≡◌, ◌<◌, ℕ, List, cond, sym, ◌∙◌, ap, subst}
use Rattle.s4_types.specs.declared.object.Purse.{Purse}
use Rattle.s4_types.specs.Names.{same_purse}
use Rattle.s4_ledger.specs.declared.accounts.Account.{Account}
use Rattle.s4_ledger.specs.Accounts.{spent_in, budgets_of}
use Rattle.s4_ledger.specs.Books.{budget_of, place_of, HasAccount}
use Rattle.s4_ledger.proofs.Accounting.{there_is, held_is, new, written, written-places, written-place, spent-same, budget-changed}
use Rattle.s4_ledger.proofs.accounts.Accounts.set_budget.Goals as goal

pub index_mut-requires : goal.index_mut-requires
index_mut-requires c =
    let accounts : List (Purse × Account) = c.self.inside.accounts.items in
    let placed : HasAccount c.args.payer.now (budgets_of accounts) = subst (λ es. HasAccount c.args.payer.now (budgets_of es)) (sym c.self.view_is) c.requires.open in
    subst (λ n. c.args.payer.now.place < n) (sym c.self.inside.accounts.ok.0) (there_is c.args.payer.now.purse c.args.payer.now.place accounts placed).within

pub invariant_of-self : goal.invariant_of-self
invariant_of-self c =
    let q : Purse = c.args.payer.now.purse in
    let i : ℕ = c.args.payer.now.place in
    let accounts : List (Purse × Account) = c.self.inside.accounts.items in
    let held : Purse × Account = c.index_mut.result.now in
    let account : Account = record { spent = held.1.spent; budget = c.args.budget } in
    let placed : HasAccount c.args.payer.now (budgets_of accounts) = subst (λ es. HasAccount c.args.payer.now (budgets_of es)) (sym c.self.view_is) c.requires.open in
    written-places q i accounts held account placed c.index_mut.ensures.value c.self.inside.places.entries c.self.invariant

pub returns-clause-set : goal.returns-clause-set
returns-clause-set c p =
    let q : Purse = c.args.payer.now.purse in
    let i : ℕ = c.args.payer.now.place in
    let accounts : List (Purse × Account) = c.self.inside.accounts.items in
    let held : Purse × Account = c.index_mut.result.now in
    let account : Account = record { spent = held.1.spent; budget = c.args.budget } in
    let placed : HasAccount c.args.payer.now (budgets_of accounts) = subst (λ es. HasAccount c.args.payer.now (budgets_of es)) (sym c.self.view_is) c.requires.open in
    budget-changed accounts (new q i accounts held account placed c.index_mut.ensures.value) q account (written q i accounts held account placed c.index_mut.ensures.value) p
    ∙ ap (λ es. cond (same_purse q p) c.args.budget (budget_of p (budgets_of es))) c.self.view_is

pub returns-clause-spent : goal.returns-clause-spent
returns-clause-spent c p =
    let q : Purse = c.args.payer.now.purse in
    let i : ℕ = c.args.payer.now.place in
    let accounts : List (Purse × Account) = c.self.inside.accounts.items in
    let held : Purse × Account = c.index_mut.result.now in
    let account : Account = record { spent = held.1.spent; budget = c.args.budget } in
    let placed : HasAccount c.args.payer.now (budgets_of accounts) = subst (λ es. HasAccount c.args.payer.now (budgets_of es)) (sym c.self.view_is) c.requires.open in
    let had : held.1.spent ≡ spent_in q accounts = ap (λ (a : Account). a.spent) (held_is q i accounts held placed c.index_mut.ensures.value) in
    spent-same accounts (new q i accounts held account placed c.index_mut.ensures.value) q account (written q i accounts held account placed c.index_mut.ensures.value) had p
    ∙ ap (spent_in p) c.self.view_is

pub returns-clause-places : goal.returns-clause-places
returns-clause-places c p =
    let q : Purse = c.args.payer.now.purse in
    let i : ℕ = c.args.payer.now.place in
    let accounts : List (Purse × Account) = c.self.inside.accounts.items in
    let held : Purse × Account = c.index_mut.result.now in
    let account : Account = record { spent = held.1.spent; budget = c.args.budget } in
    let placed : HasAccount c.args.payer.now (budgets_of accounts) = subst (λ es. HasAccount c.args.payer.now (budgets_of es)) (sym c.self.view_is) c.requires.open in
    written-place q i accounts held account placed c.index_mut.ensures.value p ∙ ap (λ es. place_of p (budgets_of es)) c.self.view_is
