use Rattle.std.proofs.Common.{◌≡◌, ◌<◌, List, [], ◌∷◌, Bor, refl, sym, ◌∙◌, ap, subst, arith, get_or}
use Rattle.std.specs.Prelude.{Option, Some, None, IfSome, IfNone, slice_get}
use Rattle.std.specs.Option.{option_copied}
use Rattle.s4_queue.specs.Contents.{Contents}
use Rattle.s4_queue.proofs.Searching.{read_of}
use Rattle.s4_ledger.specs.declared.charge.Entry.{Entry}
use Rattle.s4_ledger.specs.Queue.{Queue, charges_of, IsInOrder}
use Rattle.std.proofs.lemmas.List.Sorted.{IsNonDecreasingBy-drop}
use Rattle.s4_ledger.specs.Books.{lasting}
use Rattle.s4_ledger.proofs.Queueing.{lasting-later, from_gt}
use Rattle.s4_ledger.proofs.charges.Charges.take_ended.Goals as goal

-- the first entry lasts, and no other ends before it
pub returns-then-gt-clause-lasting : goal.returns-then-gt-clause-lasting
returns-then-gt-clause-lasting c =
    let entries : List Entry = c.self.inside.queue.items in
    let first : Entry = c.in_ok-first.first.now in
    let later : c.args.horizon < first.end = from_gt first.end c.args.horizon (sym c.gt.ensures ∙ c.if-gt.true) in
    subst (λ (q : Queue). lasting c.args.horizon (charges_of q.entries) ≡ charges_of q.entries) c.self.view_is
    (lasting-later c.args.horizon entries (λ k d l.
    let rises = c.self.invariant 0 k d (omega arith) l in
    let here : first.end ≡ (get_or entries 0 d).end = ap (λ (x : Entry). x.end) (sym (read_of entries 0 c.front.result c.in_ok-first.first c.front.ensures c.in_ok-first.was d)) in
    omega (arith, later, rises, here)))

-- what is left of a queue whose first entry was taken
left : (old new : Contents Entry) (got : Option Entry) → IfSome got (λ e. old.items ≡ e ∷ new.items) → IfNone got (new ≡ old) → IsInOrder old.items → IsInOrder new.items
left old new None taken still rises = subst (λ (q : Contents Entry). IsInOrder q.items) (sym still) rises
left old new (Some e) taken still rises = IsNonDecreasingBy-drop (λ x. x.end) 1 (e ∷ new.items) (subst IsInOrder taken rises)

pub invariant_of-self : goal.invariant_of-self
invariant_of-self c = left c.self.inside.queue c.pop.new.self c.pop.result c.pop.ensures.taken c.pop.ensures.still c.self.invariant

-- nothing waits where there is no first entry
none : (entries : List Entry) (got : Option (Bor Entry)) → option_copied got ≡ slice_get entries 0 → got ≡ None → entries ≡ []
none [] got e is = refl
none (x ∷ entries) got e is = let other : None ≡ Some x = sym (ap option_copied is) ∙ e in absurd cc

held : {A : Type 0} (P : Type 0) (got : Option A) → P → IfNone got P
held P None p = p
held P (Some x) p = tt

pub returns-in_err-first-clause-lasting : goal.returns-in_err-first-clause-lasting
returns-in_err-first-clause-lasting c =
    let nothing = none c.self.inside.queue.items c.front.result c.front.ensures c.in_err-first.was in
    held _ _ (subst (λ (q : Queue). lasting c.args.horizon (charges_of q.entries) ≡ charges_of q.entries) c.self.view_is
    (subst (λ (xs : List Entry). lasting c.args.horizon (charges_of xs) ≡ charges_of xs) (sym nothing) refl))
