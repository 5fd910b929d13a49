-- What a ledger tells: the charges that count, what they sum up to, and the budgets.
use Rattle.std.specs.Prelude.{◌≡◌, ℕ, suc, Bool, true, false, nat_lt, Option, Some, None, List, [], ◌∷◌, sum_by, filter, unwrap_or, is_some, if◌then◌else◌}
use Rattle.std.specs.Map.{lookup, keys_of}
use Rattle.std.specs.Option.{option_map}
use Rattle.std.specs.BTreeMap.{is_at}
use Rattle.s4_types.specs.declared.object.Purse.{Purse}
use Rattle.s4_types.specs.Base.{default_budget}
use Rattle.s4_types.specs.Names.{same_purse, purse_cmp}
use Rattle.s4_ledger.specs.declared.accounts.Payer.{Payer}
use Rattle.s4_ledger.specs.declared.charge.Charge.{Charge}

-- the horizon, the charges that count, for how many more there is room, and the budgets of the purses that have an account, in the order in which they were opened
pub record Books : Type 0 where
  pub horizon : ℕ
  pub charges : List Charge
  pub room : ℕ
  pub budgets : List (Purse × ℕ)

-- what a charge counts for in the purse's spending
abbrev pub share : Purse → Charge → ℕ
share purse charge = if same_purse charge.purse purse then charge.cost else 0

-- what the purse spends by these charges
abbrev pub spending : Purse → List Charge → ℕ
spending purse charges = sum_by (share purse) charges

-- whether the charge still counts once the horizon stands there
abbrev pub lasts_above : ℕ → Charge → Bool
lasts_above horizon charge = nat_lt horizon charge.end

-- the charges that still count then
abbrev pub lasting : ℕ → List Charge → List Charge
lasting horizon charges = filter (lasts_above horizon) charges

-- what the purse may spend: the budget last set, and the default where none was
abbrev pub budget_of : Purse → List (Purse × ℕ) → ℕ
budget_of purse budgets = unwrap_or (lookup (is_at (purse_cmp purse)) budgets) default_budget

-- whether the purse has an account, which its budget is kept in
abbrev pub has_budget : Purse → List (Purse × ℕ) → Bool
has_budget purse budgets = is_some (lookup (is_at (purse_cmp purse)) budgets)

-- where the purse stands first among these
abbrev pub place_among : Purse → List Purse → Option ℕ
place_among purse [] = None
place_among purse (p ∷ ps) = if is_at (purse_cmp purse) p then Some 0 else option_map (λ place. suc place) (place_among purse ps)

-- the place of its account
abbrev pub place_of : Purse → List (Purse × ℕ) → Option ℕ
place_of purse budgets = place_among purse (keys_of budgets)

-- the payer's account is in its place
abbrev pub HasAccount : Payer → List (Purse × ℕ) → Type 0
HasAccount payer budgets = place_of payer.purse budgets ≡ Some payer.place

-- no account is opened but the purse's, each that was there stays in its place, and neither the charges nor their room are changed
pub record OpensAccount (purse : Purse) (before after : Books) : Type 0 where
  pub accounts : (p : Purse) → has_budget p before.budgets ≡ true → has_budget p after.budgets ≡ true
  pub others : (p : Purse) → same_purse purse p ≡ false → has_budget p after.budgets ≡ has_budget p before.budgets
  pub places : (p : Payer) → HasAccount p before.budgets → HasAccount p after.budgets
  pub horizon : after.horizon ≡ before.horizon
  pub charges : after.charges ≡ before.charges
  pub room : after.room ≡ before.room
