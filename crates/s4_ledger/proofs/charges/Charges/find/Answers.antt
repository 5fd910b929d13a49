use Rattle.std.proofs.Common.{rules, ◌≡◌, ℕ, ◌<◌, ◌≤◌, true, false, List, length, refl, sym, ◌∙◌, ap, subst, arith, get_or}
use Rattle.std.specs.Prelude.{Contains, nat_lt}
use Rattle.std.specs.List.Sorted.{IsPartitionPoint}
use Rattle.std.specs.Ordering.{nat_cmp, is_lt}
use Rattle.std.proofs.lemmas.Bool.{ltb-true}
use Rattle.std.proofs.lemmas.List.{get_or_default}
use Rattle.std.proofs.lemmas.List.Elements.{AllWithin-more}
use Rattle.std.proofs.lemmas.List.Sorted.{IsPartitionPoint-from_clause}
use Rattle.s4_types.proofs.Booleans.{by_test}
use Rattle.s4_ledger.specs.declared.charge.Charge.{Charge}
use Rattle.s4_ledger.specs.declared.charge.Entry.{Entry}
use Rattle.s4_ledger.specs.Queue.{Queue, charges_of, counts_as}
use Rattle.s4_ledger.proofs.Queueing.{charge-there, charge-missing, other_end, parted_lt, from_lt, from_gt}
use Rattle.s4_ledger.proofs.charges.Charges.find.Goals as goal

pub loop-index-init : goal.loop-index-init
loop-index-init c =
    let entries : List Entry = c.self.inside.queue.items in
    let end : ℕ = c.args.charge.now.end in
    let point : IsPartitionPoint (λ e. is_lt (nat_cmp e.end end) ≡ true) (λ e. is_lt (nat_cmp e.end end) ≡ false) entries c.partition_point-index.result =
    IsPartitionPoint-from_clause (λ e. is_lt (nat_cmp e.end end)) _ _ c.partition_point-index.ensures.partitioned (parted_lt entries end c.self.invariant) (λ a r q k. search rules) in
    record {
      within = omega (arith, c.partition_point-index.ensures.bound);
      skipped = λ k d low high. other_end c.args.charge.now (get_or entries k d) (λ same. let before = from_lt (get_or entries k d).end end (point.0 k d low high) in absurd (omega (arith, before, same)));
    }

-- the entries from here on end later
pub returns-then-gt-clause-found : goal.returns-then-gt-clause-found
returns-then-gt-clause-found c = (
  λ e. cc,
  λ has.
      let entries : List Entry = c.self.inside.queue.items in
      let charge : Charge = c.args.charge.now in
      let i : ℕ = c.loop-index.index in
      let long = c.len.ensures.len in
      let within : i < length entries = omega (arith, long, c.loop-index-test.true) in
      let later : charge.end < c.index-entry.result.now.end = from_gt _ _ (sym c.gt.ensures ∙ c.if-gt.true) in
      absurd (charge-missing charge entries
      (λ k d l. by_test (nat_lt k i)
      (λ t. c.loop-index.invariant.skipped k d (omega arith) (ltb-true k i t))
      (λ f. let low : i ≤ k = grind (arith, f) in
      let rises = c.self.invariant i k d low l in
      let here : c.index-entry.result.now.end ≡ (get_or entries i d).end = ap (λ (x : Entry). x.end) (c.index-entry.ensures ∙ get_or_default entries i c.index-entry.result.now d within) in
      other_end charge (get_or entries k d) (λ same. absurd (omega (arith, later, rises, here, same)))))
      (subst (λ (q : Queue). Contains (charges_of q.entries) charge) (sym c.self.view_is) has)),
)

pub returns-then-is_charge-clause-found : goal.returns-then-is_charge-clause-found
returns-then-is_charge-clause-found c =
    let entries : List Entry = c.self.inside.queue.items in
    let charge : Charge = c.args.charge.now in
    let i : ℕ = c.loop-index.index in
    let long = c.len.ensures.len in
    let within : i < length entries = omega (arith, long, c.loop-index-test.true) in
    let here : counts_as charge (get_or entries i c.index-entry.result.now) ≡ true = ap (counts_as charge) (sym c.index-entry.ensures) ∙ sym c.is_charge.ensures ∙ c.if-is_charge.true in
    (λ e. subst (λ (q : Queue). Contains (charges_of q.entries) charge) c.self.view_is (charge-there charge entries i c.index-entry.result.now within here), λ has. refl)

pub loop-index-preserved : goal.loop-index-preserved
loop-index-preserved c =
    let entries : List Entry = c.self.inside.queue.items in
    let charge : Charge = c.args.charge.now in
    let i : ℕ = c.loop-index.index in
    let long = c.len.ensures.len in
    let within : i < length entries = omega (arith, long, c.loop-index-test.true) in
    record {
      within = omega (arith, within);
      skipped = AllWithin-more (λ e. counts_as charge e ≡ false) entries 0 i c.loop-index.invariant.skipped
          (λ d. ap (counts_as charge) (sym (c.index-entry.ensures ∙ get_or_default entries i c.index-entry.result.now d within)) ∙ sym c.is_charge.ensures ∙ c.if-is_charge.false);
    }

pub loop-index-smaller : goal.loop-index-smaller
loop-index-smaller c =
    let long = c.len.ensures.len in
    omega (arith, long, c.loop-index-test.true)

pub returns-clause-found : goal.returns-clause-found
returns-clause-found c = (
  λ e. cc,
  λ has.
      let entries : List Entry = c.self.inside.queue.items in
      let charge : Charge = c.args.charge.now in
      let long = c.len.ensures.len in
      absurd (charge-missing charge entries
      (λ k d l. c.loop-index.invariant.skipped k d (omega arith) (omega (arith, l, long, c.loop-index-test.false)))
      (subst (λ (q : Queue). Contains (charges_of q.entries) charge) (sym c.self.view_is) has)),
)
