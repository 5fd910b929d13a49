use Rattle.std.proofs.Common.{◌≡◌, true, false, Some, cond, List, sym, ◌∙◌, ap, subst}
use Rattle.std.specs.Prelude.{is_some, ◌++◌, ◌∷◌, []}
use Rattle.std.specs.Map.{lookup}
use Rattle.std.specs.BTreeMap.{is_at}
use Rattle.s4_types.specs.declared.object.Purse.{Purse}
use Rattle.s4_types.specs.Names.{purse_cmp}
use Rattle.s4_types.proofs.Booleans.{not_both}
use Rattle.s4_ledger.specs.declared.accounts.Account.{Account}
use Rattle.s4_ledger.specs.Accounts.{budgets_of, opened}
use Rattle.s4_ledger.specs.Books.{place_of, place_among, has_budget}
use Rattle.s4_ledger.proofs.Accounting.{fresh, has-account}
use Rattle.s4_ledger.proofs.Placing.{keys-budgets, place-lookup}
use Rattle.s4_ledger.proofs.accounts.Accounts.open.Goals as goal

pub returns-in-Some-clause-place : goal.returns-in-Some-clause-place
returns-in-Some-clause-place c =
    let placed = sym (c.self.invariant c.args.purse.now) ∙ sym c.get.ensures.value ∙ sym c.copied.ensures ∙ c.in-Some.is in
    subst (λ es. place_of c.args.purse.now (budgets_of es) ≡ Some c.in-Some.place) c.self.view_is
    (ap (place_among c.args.purse.now) (keys-budgets c.self.inside.accounts.items) ∙ placed)

pub returns-in-Some-clause-ok : goal.returns-in-Some-clause-ok
returns-in-Some-clause-ok c =
    let placed = sym (c.self.invariant c.args.purse.now) ∙ sym c.get.ensures.value ∙ sym c.copied.ensures ∙ c.in-Some.is in
    let accounts : List (Purse × Account) = c.self.inside.accounts.items in
    let there : is_some (lookup (is_at (purse_cmp c.args.purse.now)) accounts) ≡ true = sym (place-lookup c.args.purse.now accounts) ∙ ap is_some placed in
    subst (λ es. es ≡ opened c.args.purse.now es) c.self.view_is (sym (ap (λ b. cond b accounts (accounts ++ (c.args.purse.now, fresh) ∷ [])) there))

-- without an account there is none
pub open_first-requires : goal.open_first-requires
open_first-requires c =
    let purse : Purse = c.args.purse.now in
    let accounts : List (Purse × Account) = c.self.inside.accounts.items in
    let none = sym (c.self.invariant purse) ∙ sym c.get.ensures.value ∙ sym c.copied.ensures ∙ c.in-None.is in
    subst (λ es. has_budget purse (budgets_of es) ≡ false) c.self.view_is (has-account purse accounts ∙ sym (place-lookup purse accounts) ∙ ap is_some none)

pub returns-in-None-clause-there : goal.returns-in-None-clause-there
returns-in-None-clause-there c has =
    let purse : Purse = c.args.purse.now in
    let accounts : List (Purse × Account) = c.self.inside.accounts.items in
    let none = sym (c.self.invariant purse) ∙ sym c.get.ensures.value ∙ sym c.copied.ensures ∙ c.in-None.is in
    absurd (not_both (has_budget purse (budgets_of accounts)) (subst (λ es. has_budget purse (budgets_of es) ≡ true) (sym c.self.view_is) has)
    (has-account purse accounts ∙ sym (place-lookup purse accounts) ∙ ap is_some none))
