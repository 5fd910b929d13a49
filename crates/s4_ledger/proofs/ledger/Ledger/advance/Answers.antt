use Rattle.std.proofs.Common.{◌≡◌, ◌∷◌, List, suc, length, refl, sym, ◌∙◌, ap, subst, arith}
use Rattle.s4_ledger.specs.declared.charge.Entry.{Entry}
use Rattle.s4_ledger.specs.Balance.{IsBalanced}
use Rattle.s4_ledger.specs.Books.{Books, lasting}
use Rattle.s4_ledger.specs.Queue.{Queue, charges_of}
use Rattle.s4_ledger.proofs.Balancing.{balance_ended, first_spent, first_known}
use Rattle.s4_ledger.proofs.Queueing.{lasting-ended}
use Rattle.s4_ledger.proofs.ledger.Ledger.advance.Goals as goal

pub loop-entry-init : goal.loop-entry-init
loop-entry-init c = record { balanced = c.self.invariant; same = refl; budgets = refl; room = omega arith }

pub subtract-requires-clause-open : goal.subtract-requires-clause-open
subtract-requires-clause-open c =
    first_known c.loop-entry.self-inside.charges.entries c.loop-entry.self-inside.accounts c.loop-entry.invariant.balanced c.in-Some.entry c.take_ended.new.self.entries c.in-Some.ensures.taken

pub subtract-requires-clause-spent : goal.subtract-requires-clause-spent
subtract-requires-clause-spent c =
    first_spent c.loop-entry.self-inside.charges.entries c.loop-entry.self-inside.accounts c.loop-entry.invariant.balanced c.in-Some.entry c.take_ended.new.self.entries c.in-Some.ensures.taken

pub loop-entry-smaller : goal.loop-entry-smaller
loop-entry-smaller c =
    let fewer : length c.loop-entry.self-inside.charges.entries ≡ suc (length c.take_ended.new.self.entries) = ap length c.in-Some.ensures.taken in
    omega (arith, fewer)

pub loop-entry-preserved : goal.loop-entry-preserved
loop-entry-preserved c =
    let entry : Entry = c.in-Some.entry in
    let rest : List Entry = c.take_ended.new.self.entries in
    let before : List Entry = c.loop-entry.self-inside.charges.entries in
    let first : before ≡ entry ∷ rest = c.in-Some.ensures.taken in
    record {
      balanced = balance_ended before c.loop-entry.self-inside.accounts c.loop-entry.invariant.balanced entry rest c.subtract.new.self first c.subtract.ensures.spent c.subtract.ensures.budgets;
      same = sym (lasting-ended c.args.horizon entry rest c.in-Some.ensures.ended) ∙ ap (λ es. lasting c.args.horizon (charges_of es)) (sym first) ∙ c.loop-entry.invariant.same;
      budgets = c.subtract.ensures.budgets ∙ c.loop-entry.invariant.budgets;
      room = omega (arith, c.take_ended.ensures.room, c.loop-entry.invariant.room);
    }

pub invariant_of-self : goal.invariant_of-self
invariant_of-self c = subst (λ (q : Queue). IsBalanced q.entries c.loop-entry.self-inside.accounts) (sym c.in_default.ensures.none) c.loop-entry.invariant.balanced

pub returns-clause-charges : goal.returns-clause-charges
returns-clause-charges c =
    ap (λ (q : Queue). charges_of q.entries) c.in_default.ensures.none ∙ sym c.in_default.ensures.lasting ∙ c.loop-entry.invariant.same ∙ ap (λ (b : Books). lasting c.args.horizon b.charges) c.self.view_is

pub returns-clause-budgets : goal.returns-clause-budgets
returns-clause-budgets c = c.loop-entry.invariant.budgets ∙ ap (λ (b : Books). b.budgets) c.self.view_is

pub returns-clause-room : goal.returns-clause-room
returns-clause-room c =
    let start : c.self.inside.charges.room ≡ c.args.self.now.room = ap (λ (b : Books). b.room) c.self.view_is in
    omega (arith, start, c.take_ended.ensures.room, c.loop-entry.invariant.room)
