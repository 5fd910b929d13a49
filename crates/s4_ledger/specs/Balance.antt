-- The accounts stand for the charges.
use Rattle.std.specs.Prelude.{◌≡◌, ◌<◌, ◌^◌, List, Contains}
use Rattle.s4_types.specs.declared.object.Purse.{Purse}
use Rattle.s4_ledger.specs.declared.accounts.Account.{Account}
use Rattle.s4_ledger.specs.declared.accounts.Payer.{Payer}
use Rattle.s4_ledger.specs.declared.charge.Entry.{Entry}
use Rattle.s4_ledger.specs.Accounts.{spent_in, budgets_of}
use Rattle.s4_ledger.specs.Books.{spending, budget_of, HasAccount}
use Rattle.s4_ledger.specs.Queue.{charges_of, payers_of}

-- each purse's account says what it spends, what it spends and may spend are u32, and who pays for an entry has the account that it names
pub record IsBalanced (entries : List Entry) (accounts : List (Purse × Account)) : Type 0 where
  pub spent : (p : Purse) → spent_in p accounts ≡ spending p (charges_of entries)
  pub small : (p : Purse) → spent_in p accounts < 2 ^ 32
  pub capped : (p : Purse) → budget_of p (budgets_of accounts) < 2 ^ 32
  pub known : (p : Payer) → Contains (payers_of entries) p → HasAccount p (budgets_of accounts)
