use Rattle.std.proofs.Common.{◌≡◌, ◌≤◌, length}
use Rattle.s4_ledger.specs.Accounts.{budgets_of}
use Rattle.s4_ledger.specs.Balance.{IsBalanced}
use Rattle.s4_ledger.specs.Books.{lasting}
use Rattle.s4_ledger.specs.Queue.{charges_of}
use Rattle.s4_ledger.proofs.ledger.Ledger.advance.Given as goal

-- what was taken has ended, and no longer stands in the accounts
abbrev pub invariant-loop-entry : goal.invariant-loop-entry
invariant-loop-entry l = record {
  balanced : IsBalanced l.self-inside.charges.entries l.self-inside.accounts;
  same : lasting l.horizon (charges_of l.self-inside.charges.entries) ≡ lasting l.horizon (charges_of l.initial.self-inside.charges.entries);
  budgets : budgets_of l.self-inside.accounts ≡ budgets_of l.initial.self-inside.accounts;
  room : l.initial.self-inside.charges.room ≤ l.self-inside.charges.room;
}

abbrev pub decreases-loop-entry : goal.decreases-loop-entry
decreases-loop-entry l = length l.self-inside.charges.entries
