-- The accounts still stand for the charges once both have changed.
use Rattle.std.proofs.Common.{◌≡◌, ◌+◌, ◌<◌, ◌≤◌, ◌^◌, cond, List, ◌∷◌, refl, sym, ◌∙◌, ap, subst, arith}
use Rattle.std.specs.Prelude.{Contains, zero, suc}
use Rattle.std.specs.List.Sorted.{IsPermutation}
use Rattle.std.proofs.lemmas.List.Sorted.{sum_by_pushed, sum_by_popped}
use Rattle.s4_types.specs.declared.object.Purse.{Purse}
use Rattle.s4_types.specs.Names.{same_purse}
use Rattle.s4_types.proofs.Booleans.{by_test}
use Rattle.s4_types.proofs.SameNames.{purse_is, purse_self}
use Rattle.s4_ledger.specs.declared.accounts.Account.{Account}
use Rattle.s4_ledger.specs.declared.accounts.Payer.{Payer}
use Rattle.s4_ledger.specs.declared.charge.Charge.{Charge}
use Rattle.s4_ledger.specs.declared.charge.Entry.{Entry}
use Rattle.s4_ledger.specs.Accounts.{spent_in, budgets_of}
use Rattle.s4_ledger.specs.Balance.{IsBalanced}
use Rattle.s4_ledger.specs.Books.{share, spending, budget_of, HasAccount}
use Rattle.s4_ledger.specs.Queue.{charges_of, payers_of}
use Rattle.s4_ledger.proofs.Queueing.{spending-entry}

module _ (entries : List Entry) (accounts : List (Purse × Account)) (balanced : IsBalanced entries accounts) where
  -- one charge more
  pub balance_more : (new_entries : List Entry) (new_accounts : List (Purse × Account)) (payer : Payer) (charge : Charge) → charge.purse ≡ payer.purse
      → ((p : Purse) → spent_in p new_accounts ≡ spent_in p accounts + cond (same_purse charge.purse p) charge.cost 0) → budgets_of new_accounts ≡ budgets_of accounts
      → IsPermutation (charge ∷ charges_of entries) (charges_of new_entries) → ((p : Payer) → Contains (payers_of new_entries) p → Contains (payer ∷ payers_of entries) p)
      → HasAccount payer (budgets_of accounts) → spent_in charge.purse accounts + charge.cost < 2 ^ 32 → IsBalanced new_entries new_accounts
  balance_more new_entries new_accounts payer charge own totals budgets moved payers known fits = record {
    spent = λ p. omega (arith, totals p, balanced.spent p, sum_by_pushed (share p) charge (charges_of entries) (charges_of new_entries) moved);
    small = λ p. by_test (same_purse charge.purse p)
        (λ t. let here : spent_in p new_accounts ≡ spent_in charge.purse accounts + charge.cost = totals p ∙ ap (λ b. spent_in p accounts + cond b charge.cost 0) t ∙ ap (λ q. spent_in q accounts + charge.cost) (sym (purse_is charge.purse p t)) in
        omega (arith, here, fits))
        (λ f. let there : spent_in p new_accounts ≡ spent_in p accounts + 0 = totals p ∙ ap (λ b. spent_in p accounts + cond b charge.cost 0) f in omega (arith, there, balanced.small p));
    capped = λ p. subst (λ bs. budget_of p bs < 2 ^ 32) (sym budgets) (balanced.capped p);
    known = λ p has. subst (HasAccount p) (sym budgets) (of p (payers p has));
  }
    where
      of : (p : Payer) → Contains (payer ∷ payers_of entries) p → HasAccount p (budgets_of accounts)
      of p (zero, within, here) = subst (λ (x : Payer). HasAccount x (budgets_of accounts)) here known
      of p (suc k, within, here) = balanced.known p (k, omega arith, here)

  -- one less
  pub balance_less : (new_entries : List Entry) (new_accounts : List (Purse × Account)) (charge : Charge)
      → ((p : Purse) → spent_in p accounts ≡ spent_in p new_accounts + cond (same_purse charge.purse p) charge.cost 0) → budgets_of new_accounts ≡ budgets_of accounts
      → IsPermutation (charges_of entries) (charge ∷ charges_of new_entries) → payers_of new_entries ≡ payers_of entries → IsBalanced new_entries new_accounts
  balance_less new_entries new_accounts charge totals budgets moved payers = record {
    spent = λ p. omega (arith, totals p, balanced.spent p, sum_by_popped (share p) charge (charges_of entries) (charges_of new_entries) moved);
    small = λ p. omega (arith, totals p, balanced.small p);
    capped = λ p. subst (λ bs. budget_of p bs < 2 ^ 32) (sym budgets) (balanced.capped p);
    known = λ p has. subst (HasAccount p) (sym budgets) (balanced.known p (subst (λ ps. Contains ps p) payers has));
  }

  -- a charge that counts is a part of what its purse has spent
  pub charge_spent : (charge : Charge) (rest : List Charge) → IsPermutation (charges_of entries) (charge ∷ rest) → charge.cost ≤ spent_in charge.purse accounts
  charge_spent charge rest moved =
      let whole = sum_by_popped (share charge.purse) charge (charges_of entries) rest moved in
      let own : share charge.purse charge ≡ charge.cost = ap (λ b. cond b charge.cost 0) (purse_self charge.purse) in
      omega (arith, whole, own, balanced.spent charge.purse)

  -- the first entry is gone
  pub balance_ended : (e : Entry) (rest : List Entry) (new_accounts : List (Purse × Account)) → entries ≡ e ∷ rest
      → ((p : Purse) → spent_in p accounts ≡ spent_in p new_accounts + cond (same_purse e.payer.purse p) e.cost 0) → budgets_of new_accounts ≡ budgets_of accounts → IsBalanced rest new_accounts
  balance_ended e rest new_accounts first totals budgets = record {
    spent = λ p.
        let whole : spending p (charges_of entries) ≡ cond (same_purse e.payer.purse p) e.cost 0 + spending p (charges_of rest) = ap (λ es. spending p (charges_of es)) first ∙ spending-entry p e rest in
        omega (arith, totals p, balanced.spent p, whole);
    small = λ p. omega (arith, totals p, balanced.small p);
    capped = λ p. subst (λ bs. budget_of p bs < 2 ^ 32) (sym budgets) (balanced.capped p);
    known = λ p has. subst (HasAccount p) (sym budgets) (balanced.known p (subst (λ es. Contains (payers_of es) p) (sym first) (suc has.0, omega (arith, has.1), has.2)));
  }

  -- what the first entry costs is a part of what its purse has spent
  pub first_spent : (e : Entry) (rest : List Entry) → entries ≡ e ∷ rest → e.cost ≤ spent_in e.payer.purse accounts
  first_spent e rest first =
      let whole : spending e.payer.purse (charges_of entries) ≡ e.cost + spending e.payer.purse (charges_of rest) =
      ap (λ es. spending e.payer.purse (charges_of es)) first ∙ spending-entry e.payer.purse e rest ∙ ap (λ b. cond b e.cost 0 + spending e.payer.purse (charges_of rest)) (purse_self e.payer.purse) in
      omega (arith, whole, balanced.spent e.payer.purse)

  -- its payer has an account
  pub first_known : (e : Entry) (rest : List Entry) → entries ≡ e ∷ rest → HasAccount e.payer (budgets_of accounts)
  first_known e rest first = balanced.known e.payer (subst (λ es. Contains (payers_of es) e.payer) (sym first) (0, omega arith, refl))

  -- accounts that have spent as much, with budgets and places of their own
  pub balance_open : (new_accounts : List (Purse × Account)) → ((p : Purse) → spent_in p new_accounts ≡ spent_in p accounts) → ((p : Purse) → budget_of p (budgets_of new_accounts) < 2 ^ 32)
      → ((p : Payer) → HasAccount p (budgets_of accounts) → HasAccount p (budgets_of new_accounts)) → IsBalanced entries new_accounts
  balance_open new_accounts same capped still = record {
    spent = λ p. same p ∙ balanced.spent p;
    small = λ p. subst (λ n. n < 2 ^ 32) (sym (same p)) (balanced.small p);
    capped = capped;
    known = λ p has. still p (balanced.known p has);
  }
