use Rattle.std.proofs.Common.{◌≡◌, ℕ, ◌+◌, sum_by, drop}
use Rattle.s4_types.specs.declared.object.Purse.{Purse}
use Rattle.s4_objects.specs.Flushes.{refunded}
use Rattle.s4_drive.specs.Stands.{above, charge_weight}
use Rattle.s4_drive.proofs.limits.forgive.Given as goal

abbrev pub invariant-loop-refund : goal.invariant-loop-refund
invariant-loop-refund l = record {
  horizon : l.ledger.horizon ≡ l.fn.ledger.horizon;
  budgets : l.ledger.budgets ≡ l.fn.ledger.budgets;
  charges : (weight : ℕ → ℕ → ℕ) (p : Purse) → sum_by (charge_weight weight p) l.ledger.charges + refunded (above l.fn.ledger.horizon weight) p l.fn.refunds
      ≡ sum_by (charge_weight weight p) l.fn.ledger.charges + refunded (above l.fn.ledger.horizon weight) p (drop l.refund-index l.fn.refunds);
}
