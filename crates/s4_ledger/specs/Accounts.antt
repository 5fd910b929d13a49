-- What each purse has spent and may spend, one account a purse.
use Rattle.std.specs.Prelude.{◌≡◌, ℕ, List, [], ◌∷◌, ◌++◌, map, unwrap_or, is_some, if◌then◌else◌}
use Rattle.std.specs.Map.{lookup, keys_of}
use Rattle.std.specs.BTreeMap.{is_at}
use Rattle.s4_types.specs.declared.object.Purse.{Purse}
use Rattle.s4_types.specs.Base.{default_budget}
use Rattle.s4_types.specs.Names.{purse_cmp}
use Rattle.s4_ledger.specs.declared.accounts.Account.{Account}
use Rattle.s4_ledger.specs.Books.{place_among}

-- the purse's account: where it has none it has spent nothing, and may spend the default
abbrev pub account_of : Purse → List (Purse × Account) → Account
account_of purse accounts = unwrap_or (lookup (is_at (purse_cmp purse)) accounts) (record { spent = 0; budget = default_budget })

-- what the purse has spent
abbrev pub spent_in : Purse → List (Purse × Account) → ℕ
spent_in purse accounts = (account_of purse accounts).spent

-- the budgets of the purses that have an account
abbrev pub budgets_of : List (Purse × Account) → List (Purse × ℕ)
budgets_of accounts = map (λ e. (e.0, e.1.budget)) accounts

-- the accounts with one for the purse, which comes last where it had none
abbrev pub opened : Purse → List (Purse × Account) → List (Purse × Account)
opened purse accounts = if is_some (lookup (is_at (purse_cmp purse)) accounts) then accounts else accounts ++ (purse, record { spent = 0; budget = default_budget }) ∷ []

-- they tell the place of each account
abbrev pub ArePlaces : List (Purse × ℕ) → List (Purse × Account) → Type 0
ArePlaces places accounts = (p : Purse) → lookup (is_at (purse_cmp p)) places ≡ place_among p (keys_of accounts)
