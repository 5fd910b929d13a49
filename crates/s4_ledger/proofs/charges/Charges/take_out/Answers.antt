use Rattle.std.proofs.Common.{◌≡◌, ℕ, ◌<◌, true, List, ◌∷◌, length, sym, ◌∙◌, ap, subst, get_or}
use Rattle.std.specs.List.{HoldsAt}
use Rattle.std.specs.List.Sorted.{IsPermutation}
use Rattle.s4_ledger.specs.declared.charge.Charge.{Charge}
use Rattle.s4_ledger.specs.declared.charge.Entry.{Entry}
use Rattle.s4_ledger.specs.Queue.{Queue, charges_of, payers_of, counts_as}
use Rattle.std.specs.Prelude.{slice_set}
use Rattle.s4_ledger.proofs.Queueing.{forgiven, charges-forgive, payers-forgive, on_some}
use Rattle.s4_ledger.proofs.charges.Charges.take_out.Goals as goal

-- the entry that was found, as it was and as it is now
abbrev Found : (charge : Charge) (entries : List Entry) (i : ℕ) → Type 0
Found charge entries i = (i < length entries) × ((d : Entry) → counts_as charge (get_or entries i d) ≡ true)

pub returns-clause-charges : goal.returns-clause-charges
returns-clause-charges c =
    let entries : List Entry = c.self.inside.queue.items in
    let charge : Charge = c.args.charge.now in
    let i : ℕ = c.unwrap-index.result in
    let e : Entry = c.index-entry.result.now in
    let within : i < length entries = subst (λ (q : Queue). i < length q.entries) (sym c.self.view_is) (on_some (λ k. k < length c.args.self.now.entries) c.find.result i c.unwrap-index.ensures c.find.ensures.within) in
    let is : counts_as charge (get_or entries i e) ≡ true = subst (λ (q : Queue). counts_as charge (get_or q.entries i e) ≡ true) (sym c.self.view_is)
    (on_some (HoldsAt (λ x. counts_as charge x ≡ true) c.args.self.now.entries) c.find.result i c.unwrap-index.ensures c.find.ensures.here e) in
    subst (λ (q : Queue). IsPermutation (charges_of q.entries) (charge ∷ charges_of c.set.new.self.items)) c.self.view_is
    (subst (λ (xs : List Entry). IsPermutation (charges_of entries) (charge ∷ charges_of xs)) (sym c.set.ensures.items)
    (charges-forgive charge entries i e within is (forgiven e) (ap forgiven c.index-entry.ensures)))

pub returns-clause-payers : goal.returns-clause-payers
returns-clause-payers c =
    let entries : List Entry = c.self.inside.queue.items in
    let charge : Charge = c.args.charge.now in
    let i : ℕ = c.unwrap-index.result in
    let e : Entry = c.index-entry.result.now in
    let within : i < length entries = subst (λ (q : Queue). i < length q.entries) (sym c.self.view_is) (on_some (λ k. k < length c.args.self.now.entries) c.find.result i c.unwrap-index.ensures c.find.ensures.within) in
    let is : counts_as charge (get_or entries i e) ≡ true = subst (λ (q : Queue). counts_as charge (get_or q.entries i e) ≡ true) (sym c.self.view_is)
    (on_some (HoldsAt (λ x. counts_as charge x ≡ true) c.args.self.now.entries) c.find.result i c.unwrap-index.ensures c.find.ensures.here e) in
    ap payers_of c.set.ensures.items ∙ payers-forgive charge entries i e within is (forgiven e) (ap forgiven c.index-entry.ensures) ∙ ap (λ (q : Queue). payers_of q.entries) c.self.view_is
