use Rattle.std.proofs.Common.{rules, ◌≡◌, ℕ, ◌≤◌, true, false, List, ◌∷◌, length, sym, ◌∙◌, subst, arith, get_or}
use Rattle.std.specs.Prelude.{Contains, insert}
use Rattle.std.specs.List.Sorted.{IsPermutation, IsPartitionPoint}
use Rattle.std.specs.Ordering.{nat_cmp, is_le}
use Rattle.std.proofs.lemmas.List.Edits.{insert_end}
use Rattle.std.proofs.lemmas.List.Elements.{Contains-get_or}
use Rattle.std.proofs.lemmas.List.Sorted.{IsPartitionPoint-from_clause}
use Rattle.s4_ledger.specs.declared.charge.Entry.{Entry}
use Rattle.s4_ledger.specs.Queue.{Queue, charge_of, charges_of, payers_of, IsInOrder}
use Rattle.s4_ledger.proofs.Queueing.{charges-insert, payers-insert, order-insert, parted_le, from_le, from_not_le}
use Rattle.s4_ledger.proofs.charges.Charges.put.Goals as goal

-- BEHIND ALL

pub invariant_of-self : goal.invariant_of-self
invariant_of-self c =
    let entries : List Entry = c.self.inside.queue.items in
    let before : (e : Entry) → Contains entries e → e.end ≤ c.args.entry.end = subst (λ (q : Queue). (e : Entry) → Contains q.entries e → e.end ≤ c.args.entry.end) (sym c.self.view_is) (c.ends_by.ensures c.if-ends_by.true) in
    subst IsInOrder (sym (c.push.ensures.items ∙ sym (insert_end entries c.args.entry)))
    (order-insert entries (length entries) c.args.entry (omega arith) c.self.invariant
    (λ k d l. before (get_or entries k d) (Contains-get_or entries k d l)) (λ k d low high. absurd (omega (arith, low, high))))

pub returns-then-ends_by-clause-charges : goal.returns-then-ends_by-clause-charges
returns-then-ends_by-clause-charges c =
    let entries : List Entry = c.self.inside.queue.items in
    subst (λ (q : Queue). IsPermutation (charge_of c.args.entry ∷ charges_of q.entries) (charges_of c.push.new.self.items)) c.self.view_is
    (subst (λ xs. IsPermutation (charge_of c.args.entry ∷ charges_of entries) (charges_of xs)) (insert_end entries c.args.entry ∙ sym c.push.ensures.items)
    (charges-insert entries (length entries) c.args.entry c.requires.costs))

pub returns-then-ends_by-clause-payers : goal.returns-then-ends_by-clause-payers
returns-then-ends_by-clause-payers c p has =
    let entries : List Entry = c.self.inside.queue.items in
    subst (λ (q : Queue). Contains (c.args.entry.payer ∷ payers_of q.entries) p) c.self.view_is
    (payers-insert entries (length entries) c.args.entry p
    (subst (λ xs. Contains (payers_of xs) p) (c.push.ensures.items ∙ sym (insert_end entries c.args.entry)) has))

-- IN BETWEEN

pub invariant_of-self-2 : goal.invariant_of-self-2
invariant_of-self-2 c =
    let entries : List Entry = c.self.inside.queue.items in
    let end : ℕ = c.args.entry.end in
    let point : IsPartitionPoint (λ e. is_le (nat_cmp e.end end) ≡ true) (λ e. is_le (nat_cmp e.end end) ≡ false) entries c.partition_point-index.result =
    IsPartitionPoint-from_clause (λ e. is_le (nat_cmp e.end end)) _ _ c.partition_point-index.ensures.partitioned (parted_le entries end c.self.invariant) (λ a r q k. search rules) in
    subst IsInOrder (sym c.insert.ensures.items)
    (order-insert entries c.partition_point-index.result c.args.entry (omega (arith, c.partition_point-index.ensures.bound)) c.self.invariant
    (λ k d l. from_le (get_or entries k d).end end (point.0 k d (omega arith) l))
    (λ k d low high. let above = from_not_le (get_or entries k d).end end (point.1 k d low high) in omega (arith, above)))

pub returns-clause-charges : goal.returns-clause-charges
returns-clause-charges c =
    let entries : List Entry = c.self.inside.queue.items in
    let is = c.insert.ensures.items in
    subst (λ (q : Queue). IsPermutation (charge_of c.args.entry ∷ charges_of q.entries) (charges_of c.insert.new.self.items)) c.self.view_is
    (subst (λ xs. IsPermutation (charge_of c.args.entry ∷ charges_of entries) (charges_of xs)) (sym is) (charges-insert entries c.partition_point-index.result c.args.entry c.requires.costs))

pub returns-clause-payers : goal.returns-clause-payers
returns-clause-payers c p has =
    let entries : List Entry = c.self.inside.queue.items in
    let is = c.insert.ensures.items in
    subst (λ (q : Queue). Contains (c.args.entry.payer ∷ payers_of q.entries) p) c.self.view_is
    (payers-insert entries c.partition_point-index.result c.args.entry p (subst (λ xs. Contains (payers_of xs) p) is has))
