use Rattle.std.proofs.Common.{◌≡◌, ℕ, ◌+◌, ◌<◌, ◌≤◌, ◌∷◌, List, length, drop, refl, sym, ◌∙◌, ap, subst, arith}
use Rattle.std.specs.Prelude.{sum_by}
use Rattle.std.specs.List.Sorted.{IsPermutation}
use Rattle.std.proofs.Math.ListN.{drop_of_length-le}
use Rattle.s4_objects.specs.declared.flushes.Refund.{Refund}
use Rattle.s4_objects.specs.Flushes.{refunded}
use Rattle.s4_drive.specs.Stands.{above, charge_weight}
use Rattle.s4_drive.proofs.Forgiving.{charge_of, first-there, takes-one, left-covered, item_at}
use Rattle.s4_drive.proofs.limits.forgive.Goals as goal

pub loop-refund-init : goal.loop-refund-init
loop-refund-init c = record { horizon = refl; budgets = refl; charges = λ weight p. refl }

pub forgive-requires : goal.forgive-requires
forgive-requires c later =
    let r : Refund = c.refund-item.result in
    let all : List Refund = c.args.refunds.now in
    let i = c.loop-refund.refund-index in
    let old = c.args.ledger.now in
    let now = c.loop-refund.ledger in
    let at : drop i all ≡ r ∷ drop (i + 1) all = item_at all i r c.loop-refund-test.true c.refund-item.is in
    first-there old.horizon r (drop (i + 1) all) now.charges
    (λ weight p. subst (λ left. refunded (above old.horizon weight) p left ≤ sum_by (charge_weight weight p) now.charges) at
    (left-covered old.horizon old.charges now.charges all (drop i all) weight p (c.requires.charged weight p) (c.loop-refund.invariant.charges weight p)))
    (subst (λ k. k < r.end) c.loop-refund.invariant.horizon later)

pub loop-refund-preserved : goal.loop-refund-preserved
loop-refund-preserved c =
    let r : Refund = c.refund-item.result in
    let all : List Refund = c.args.refunds.now in
    let i = c.loop-refund.refund-index in
    let old = c.args.ledger.now in
    let now = c.loop-refund.ledger in
    let new = c.forgive.new.self in
    let rest : List Refund = drop (i + 1) all in
    let at : drop i all ≡ r ∷ rest = item_at all i r c.loop-refund-test.true c.refund-item.is in
    let same : now.horizon ≡ old.horizon = c.loop-refund.invariant.horizon in
    record {
      horizon = c.forgive.ensures.horizon ∙ same;
      budgets = c.forgive.ensures.budgets ∙ c.loop-refund.invariant.budgets;
      charges = λ weight p.
          let before = c.loop-refund.invariant.charges weight p in
          let one = takes-one old.horizon r rest now.charges new.charges
          (subst (λ k. k < r.end → IsPermutation now.charges (charge_of r ∷ new.charges)) same c.forgive.ensures.taken)
          (subst (λ k. r.end ≤ k → new.charges ≡ now.charges) same c.forgive.ensures.idle) weight p in
          let left : refunded (above old.horizon weight) p (drop i all) ≡ refunded (above old.horizon weight) p (r ∷ rest) = ap (refunded (above old.horizon weight) p) at in
          omega (arith, before, one, left);
    }

pub returns-clause-charges : goal.returns-clause-charges
returns-clause-charges c weight p =
    let done : drop c.loop-refund.refund-index c.args.refunds.now ≡ Rattle.std.proofs.Common.[] = drop_of_length-le c.args.refunds.now (omega arith) in
    c.loop-refund.invariant.charges weight p ∙ ap (λ rs. sum_by (charge_weight weight p) c.args.ledger.now.charges + refunded (above c.args.ledger.now.horizon weight) p rs) done
    ∙ Rattle.std.proofs.Common.add-zero (sum_by (charge_weight weight p) c.args.ledger.now.charges)

pub returns-clause-horizon : goal.returns-clause-horizon
returns-clause-horizon c = c.loop-refund.invariant.horizon

pub returns-clause-budgets : goal.returns-clause-budgets
returns-clause-budgets c = c.loop-refund.invariant.budgets
