use Rattle.std.proofs.Common.{◌≡◌, ◌-◌, ◌<◌, ◌≤◌, ℕ, List, refl, sym, ◌∙◌, ap, subst, arith}
use Rattle.s4_types.specs.declared.object.Purse.{Purse}
use Rattle.s4_ledger.specs.declared.accounts.Account.{Account}
use Rattle.s4_ledger.specs.Accounts.{spent_in, budgets_of}
use Rattle.s4_ledger.specs.Books.{HasAccount}
use Rattle.s4_ledger.proofs.Accounting.{there_is, held_is, new, written, written-places, written-budgets, spent-less}
use Rattle.s4_ledger.proofs.accounts.Accounts.subtract.Goals as goal

pub index_mut-requires : goal.index_mut-requires
index_mut-requires c =
    let accounts : List (Purse × Account) = c.self.inside.accounts.items in
    let placed : HasAccount c.args.payer.now (budgets_of accounts) = subst (λ es. HasAccount c.args.payer.now (budgets_of es)) (sym c.self.view_is) c.requires.open in
    subst (λ n. c.args.payer.now.place < n) (sym c.self.inside.accounts.ok.0) (there_is c.args.payer.now.purse c.args.payer.now.place accounts placed).within

pub overflow_sub-index_mut : goal.overflow_sub-index_mut
overflow_sub-index_mut c =
    let accounts : List (Purse × Account) = c.self.inside.accounts.items in
    let placed : HasAccount c.args.payer.now (budgets_of accounts) = subst (λ es. HasAccount c.args.payer.now (budgets_of es)) (sym c.self.view_is) c.requires.open in
    let had : c.index_mut.result.now.1.spent ≡ spent_in c.args.payer.now.purse c.args.self.now =
    ap (λ (a : Account). a.spent) (held_is c.args.payer.now.purse c.args.payer.now.place accounts c.index_mut.result.now placed c.index_mut.ensures.value) ∙ ap (spent_in c.args.payer.now.purse) c.self.view_is in
    omega (arith, had, c.requires.spent)

pub invariant_of-self : goal.invariant_of-self
invariant_of-self c =
    let accounts : List (Purse × Account) = c.self.inside.accounts.items in
    let held : Purse × Account = c.index_mut.result.now in
    let placed : HasAccount c.args.payer.now (budgets_of accounts) = subst (λ es. HasAccount c.args.payer.now (budgets_of es)) (sym c.self.view_is) c.requires.open in
    written-places c.args.payer.now.purse c.args.payer.now.place accounts held (record { spent = held.1.spent - c.args.cost; budget = held.1.budget }) placed c.index_mut.ensures.value c.self.inside.places.entries c.self.invariant

pub returns-clause-budgets : goal.returns-clause-budgets
returns-clause-budgets c =
    let accounts : List (Purse × Account) = c.self.inside.accounts.items in
    let held : Purse × Account = c.index_mut.result.now in
    let placed : HasAccount c.args.payer.now (budgets_of accounts) = subst (λ es. HasAccount c.args.payer.now (budgets_of es)) (sym c.self.view_is) c.requires.open in
    written-budgets c.args.payer.now.purse c.args.payer.now.place accounts held (record { spent = held.1.spent - c.args.cost; budget = held.1.budget }) placed c.index_mut.ensures.value refl
    ∙ ap budgets_of c.self.view_is

pub returns-clause-spent : goal.returns-clause-spent
returns-clause-spent c p =
    let q : Purse = c.args.payer.now.purse in
    let i : ℕ = c.args.payer.now.place in
    let accounts : List (Purse × Account) = c.self.inside.accounts.items in
    let held : Purse × Account = c.index_mut.result.now in
    let account : Account = record { spent = held.1.spent - c.args.cost; budget = held.1.budget } in
    let placed : HasAccount c.args.payer.now (budgets_of accounts) = subst (λ es. HasAccount c.args.payer.now (budgets_of es)) (sym c.self.view_is) c.requires.open in
    let had : held.1.spent ≡ spent_in q accounts = ap (λ (a : Account). a.spent) (held_is q i accounts held placed c.index_mut.ensures.value) in
    let enough : c.args.cost ≤ spent_in q accounts = subst (λ es. c.args.cost ≤ spent_in q es) (sym c.self.view_is) c.requires.spent in
    ap (spent_in p) (sym c.self.view_is)
    ∙ spent-less accounts (new q i accounts held account placed c.index_mut.ensures.value) q account (written q i accounts held account placed c.index_mut.ensures.value) c.args.cost
    (omega (arith, had, enough)) p
