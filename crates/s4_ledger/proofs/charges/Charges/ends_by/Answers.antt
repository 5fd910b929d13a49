use Rattle.std.proofs.Common.{◌≡◌, ◌-◌, ℕ, List, length, sym, ap, subst, ◌∙◌, arith, get_or}
use Rattle.std.specs.Prelude.{Contains, is_some}
use Rattle.std.proofs.lemmas.Bool.{false≢true}
use Rattle.s4_queue.proofs.Searching.{read_of, some_read}
use Rattle.s4_ledger.specs.declared.charge.Entry.{Entry}
use Rattle.s4_ledger.specs.Queue.{Queue}
use Rattle.s4_ledger.proofs.Queueing.{from_le}
use Rattle.s4_ledger.proofs.charges.Charges.ends_by.Goals as goal

pub returns-in-Some : goal.returns-in-Some
returns-in-Some c passes e has =
    let entries : List Entry = c.self.inside.queue.items in
    let there : Contains entries e = subst (λ (q : Queue). Contains q.entries e) (sym c.self.view_is) has in
    let n : ℕ = length entries - 1 in
    let last : get_or entries n e ≡ c.in-Some.last.now = read_of entries n c.back.result c.in-Some.last c.back.ensures c.in-Some.is e in
    let end : c.in-Some.last.now.end ≡ (get_or entries n e).end = ap (λ (x : Entry). x.end) (sym last) in
    let low = c.self.invariant there.0 n e (omega (arith, there.1)) (omega (arith, there.1)) in
    let own : (get_or entries there.0 e).end ≡ e.end = ap (λ (x : Entry). x.end) there.2 in
    let past = from_le c.in-Some.last.now.end c.args.end (sym c.le.ensures ∙ passes) in
    omega (arith, low, end, own, past)

pub returns-in-None : goal.returns-in-None
returns-in-None c passes e has =
    let entries : List Entry = c.self.inside.queue.items in
    let there : Contains entries e = subst (λ (q : Queue). Contains q.entries e) (sym c.self.view_is) has in
    absurd (false≢true (sym (ap is_some c.in-None.is) ∙ some_read entries (length entries - 1) c.back.result c.back.ensures (omega (arith, there.1))))
