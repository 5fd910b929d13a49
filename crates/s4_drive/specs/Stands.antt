-- What a drive holds beside its state stands for its history: the window, and the ledger.
use Rattle.std.specs.Prelude.{◌≡◌, ℕ, ◌+◌, ◌<◌, ◌≤◌, nat_lt, true, Option, Some, None, List, [], ◌∷◌, length, sum, sum_by, vec_capacity, if◌then◌else◌}
use Rattle.std.specs.Global.{Vec}
use Rattle.std.specs.List.{AllByRecursion}
use Rattle.std.specs.Option.{option_map}
use Rattle.s4_types.specs.declared.object.Purse.{Purse}
use Rattle.s4_types.specs.declared.readiness.Readiness.TheVariants.{ForEither}
use Rattle.s4_types.specs.declared.record.Record.{Record}
use Rattle.s4_types.specs.declared.request.Request.{Request}
use Rattle.s4_types.specs.declared.request.Request.TheVariants.{SetBudget}
use Rattle.s4_types.specs.Names.{same_purse}
use Rattle.s4_types.specs.Base.{Base}
use Rattle.s4_types.specs.Horizon.{guarded_at, horizon_at}
use Rattle.s4_types.specs.Spending.{budget_of}
use Rattle.s4_types.specs.Play.{last_of}
use Rattle.s4_ledger.specs.declared.accounts.Payer.{Payer}
use Rattle.s4_ledger.specs.declared.charge.Charge.{Charge}
use Rattle.s4_ledger.specs.Books as books
use Rattle.s4_objects.specs.declared.flushes.Refund.{Refund}
use Rattle.s4_types.specs.Log.{Log, base_of}
use Rattle.s4_state.specs.Sound.{IsSound}
use Rattle.s4_state.specs.Weights.{purse_weight}
use Rattle.s4_drive.specs.declared.limits.Limits.{Limits}
use Rattle.s4_drive.specs.declared.past.Past.{Past}
use Rattle.s4_drive.specs.declared.past.Past.TheVariants as past

-- what a charge weighs for a purse
abbrev pub charge_weight : (ℕ → ℕ → ℕ) → Purse → Charge → ℕ
charge_weight weight purse c = if same_purse c.purse purse then weight c.end c.cost else 0

-- the weight of what isn't expired
abbrev pub above : ℕ → (ℕ → ℕ → ℕ) → ℕ → ℕ → ℕ
above horizon weight end cost = if nat_lt horizon end then weight end cost else 0

-- by any weight the charges weigh what the past weighs that isn't expired
pub record LimitsStand (base : Base) (h : List Record) (limits : Limits) : Type 0 where
  pub window : limits.window ≡ guarded_at base h
  pub horizon : limits.ledger.horizon ≡ horizon_at base h (last_of h)
  pub charges : (weight : ℕ → ℕ → ℕ) (p : Purse)
      → sum_by (charge_weight weight p) limits.ledger.charges ≡ purse_weight base (above limits.ledger.horizon weight) p h
  pub budgets : (p : Purse) → books.budget_of p limits.ledger.budgets ≡ budget_of base p h

-- what a drive holds stands for its history, and the history is sound
pub record DriveStands (base : Base) (h : List Record) (spending : Limits) : Type 0 where
  pub sound : IsSound base h
  pub limits : LimitsStand base h spending

-- beside its log the drive holds what stands for its history, and where it was made ready for either wide request there is
-- room for a refund to each value that is held
pub record DriveHolds (log : Log) (spending : Limits) (refunds : Vec Refund) : Type 0 where
  pub stands : DriveStands (base_of log) log.history spending
  pub room : log.ready ≡ ForEither → log.held ≤ vec_capacity refunds

-- what the values cost that a request makes past
abbrev pub costs_of : Past → List ℕ
costs_of past.Nothing = []
costs_of (past.One cost) = cost ∷ []
costs_of (past.Object d attributes acl) = d ∷ attributes ∷ acl ∷ []

-- what so many costs add to the weight of a purse's past, where the purse that a request names, if any, is charged for them
abbrev pub charged : (ℕ → ℕ → ℕ) → ℕ → Option Purse → List ℕ → Purse → ℕ
charged weight m None costs p = 0
charged weight m (Some purse) costs p = if same_purse purse p then sum_by (weight m) costs else 0

-- the purse's budget has room for the costs, if there are any
abbrev pub HasRoom : Purse → List ℕ → books.Books → Type 0
HasRoom p costs ledger = 0 < length costs → books.spending p ledger.charges + sum costs ≤ books.budget_of p ledger.budgets

-- the payer has an account, and there is room for a charge of each cost
pub record IsReady (payer : Payer) (costs : List ℕ) (ledger : books.Books) : Type 0 where
  pub account : books.HasAccount payer ledger.budgets
  pub room : length costs ≤ ledger.room

-- it is the purse's that pays for the costs; where none does the purse, if there is one, has none to pay for
abbrev pub Pays : Option Payer → Option Purse → List ℕ → books.Books → Type 0
Pays (Some payer) purse costs ledger = (purse ≡ Some payer.purse) × IsReady payer costs ledger
Pays None purse costs ledger = (p : Purse) → purse ≡ Some p → length costs ≡ 0

-- the purse that pays, if any does
abbrev pub paying : Option Payer → Option Purse
paying payer = option_map (λ p. p.purse) payer

-- no cost is 0
abbrev pub ArePositive : List ℕ → Type 0
ArePositive costs = AllByRecursion (λ cost. 0 < cost) costs

-- there is room for the budget that the request tells
abbrev pub HasBudget : Request → List (Purse × ℕ) → Type 0
HasBudget (SetBudget purse budget) budgets = books.has_budget purse budgets ≡ true
HasBudget _ budgets = Unit {0}
