use Rattle.std.proofs.Common.{◌≡◌, ℕ, ◌+◌, ◌<◌, ◌≤◌, List, [], ◌∷◌, length, sym, ◌∙◌, ap, subst, arith, get_or}
use Rattle.std.proofs.lemmas.List.{get_or_default}
use Rattle.s4_ledger.specs.declared.charge.Entry.{Entry}
use Rattle.s4_ledger.specs.Queue.{Queue, charges_of}
use Rattle.std.specs.Prelude.{drop, cond}
use Rattle.std.proofs.lemmas.List.{drop_more, get_or-drop, length-drop, drop_all}
use Rattle.std.proofs.lemmas.Map.Keys.{le_from_not_gt}
use Rattle.s4_types.specs.declared.object.Purse.{Purse}
use Rattle.s4_types.specs.Names.{same_purse}
use Rattle.s4_ledger.specs.Books.{spending, lasting}
use Rattle.s4_ledger.proofs.Queueing.{lasting-ended, lasting-later, spending-entry, from_gt}
use Rattle.s4_ledger.proofs.charges.Charges.ended.Goals as goal
use Rattle.s4_ledger.proofs.charges.Charges.ended.Goals.{then-eq, else-eq}

-- this entry lasts, and so do all behind it
pub returns-then-gt : goal.returns-then-gt
returns-then-gt c =
    let entries : List Entry = c.self.inside.queue.items in
    let i : ℕ = c.loop-index.index in
    let e : Entry = c.index-entry.result.now in
    let long = c.len.ensures.len in
    let within : i < length entries = omega (arith, long, c.loop-index-test.true) in
    let later : c.args.horizon < e.end = from_gt e.end c.args.horizon (sym c.gt.ensures ∙ c.if-gt.true) in
    let left : lasting c.args.horizon (charges_of (drop i entries)) ≡ charges_of (drop i entries) = lasting-later c.args.horizon (drop i entries) (λ k d l.
    let short = length-drop i entries in
    let rises = c.self.invariant i (i + k) d (omega arith) (omega (arith, l, short)) in
    let here : e.end ≡ (get_or entries i d).end = ap (λ (x : Entry). x.end) (c.index-entry.ensures ∙ get_or_default entries i e d within) in
    let there : (get_or (drop i entries) k d).end ≡ (get_or entries (i + k) d).end = ap (λ (x : Entry). x.end) (get_or-drop i entries k d) in
    omega (arith, later, rises, here, there)) in
    let all : lasting c.args.horizon (charges_of entries) ≡ charges_of (drop i entries) = sym c.loop-index.invariant.last ∙ left in
    subst (λ (q : Queue). c.loop-index.ended + spending c.args.purse.now (lasting c.args.horizon (charges_of q.entries)) ≡ spending c.args.purse.now (charges_of q.entries)) c.self.view_is
    (ap (λ cs. c.loop-index.ended + spending c.args.purse.now cs) all ∙ c.loop-index.invariant.sum)

-- what the purse spends by this entry and those behind it
own : (p : Purse) (entries : List Entry) (i : ℕ) (e : Entry) → i < length entries → e ≡ get_or entries i e
    → spending p (charges_of (drop i entries)) ≡ cond (same_purse e.payer.purse p) e.cost 0 + spending p (charges_of (drop (i + 1) entries))
own p entries i e within is =
    ap (λ xs. spending p (charges_of xs)) (drop_more entries i e within ∙ ap (λ x. x ∷ drop (i + 1) entries) (sym is)) ∙ spending-entry p e (drop (i + 1) entries)

past : (horizon : ℕ) (entries : List Entry) (i : ℕ) (e : Entry) → i < length entries → e ≡ get_or entries i e → e.end ≤ horizon
    → lasting horizon (charges_of (drop (i + 1) entries)) ≡ lasting horizon (charges_of (drop i entries))
past horizon entries i e within is le =
    sym (lasting-ended horizon e (drop (i + 1) entries) le) ∙ ap (λ xs. lasting horizon (charges_of xs)) (sym (drop_more entries i e within ∙ ap (λ x. x ∷ drop (i + 1) entries) (sym is)))

pub overflow_add-ended : goal.overflow_add-ended
overflow_add-ended c =
    let entries : List Entry = c.self.inside.queue.items in
    let long = c.len.ensures.len in
    let within : c.loop-index.index < length entries = omega (arith, long, c.loop-index-test.true) in
    let whole = own c.args.purse.now entries c.loop-index.index c.index-entry.result.now within c.index-entry.ensures in
    let mine : cond (same_purse c.index-entry.result.now.payer.purse c.args.purse.now) c.index-entry.result.now.cost 0 ≡ c.index-entry.result.now.cost = ap (λ b. cond b c.index-entry.result.now.cost 0) (sym c.eq.ensures ∙ c.if-eq.true) in
    let same : spending c.args.purse.now (charges_of entries) ≡ spending c.args.purse.now (charges_of c.args.self.now.entries) = ap (λ (q : Queue). spending c.args.purse.now (charges_of q.entries)) c.self.view_is in
    omega (arith, whole, mine, same, c.loop-index.invariant.sum, c.requires)

pub loop-index-preserved : goal.loop-index-preserved
loop-index-preserved c =
    let entries : List Entry = c.self.inside.queue.items in
    let e : Entry = c.index-entry.result.now in
    let long = c.len.ensures.len in
    let within : c.loop-index.index < length entries = omega (arith, long, c.loop-index-test.true) in
    let whole = own c.args.purse.now entries c.loop-index.index e within c.index-entry.ensures in
    record {
      within = omega (arith, within);
      sum = elim c.if-eq.branch [
        | then-eq w ↦
            let mine : cond (same_purse e.payer.purse c.args.purse.now) e.cost 0 ≡ e.cost = ap (λ b. cond b e.cost 0) (sym c.eq.ensures ∙ w.if-eq.true) in
            omega (arith, whole, mine, w.ended-is, c.loop-index.invariant.sum)
        | else-eq w ↦
            let none : cond (same_purse e.payer.purse c.args.purse.now) e.cost 0 ≡ 0 = ap (λ b. cond b e.cost 0) (sym c.eq.ensures ∙ w.if-eq.false) in
            omega (arith, whole, none, w.ended-is, c.loop-index.invariant.sum)
      ];
      last = past c.args.horizon entries c.loop-index.index e within c.index-entry.ensures (le_from_not_gt e.end c.args.horizon (sym c.gt.ensures ∙ c.if-gt.false)) ∙ c.loop-index.invariant.last;
    }

pub loop-index-smaller : goal.loop-index-smaller
loop-index-smaller c =
    let long = c.len.ensures.len in
    omega (arith, long, c.loop-index-test.true)

pub returns : goal.returns
returns c =
    let entries : List Entry = c.self.inside.queue.items in
    let long = c.len.ensures.len in
    let none : drop c.loop-index.index entries ≡ [] = drop_all c.loop-index.index entries (omega (arith, long, c.loop-index-test.false)) in
    let all : lasting c.args.horizon (charges_of entries) ≡ [] = sym c.loop-index.invariant.last ∙ ap (λ xs. lasting c.args.horizon (charges_of xs)) none in
    let sum : c.loop-index.ended + spending c.args.purse.now [] ≡ spending c.args.purse.now (charges_of entries) = ap (λ xs. c.loop-index.ended + spending c.args.purse.now (charges_of xs)) (sym none) ∙ c.loop-index.invariant.sum in
    subst (λ (q : Queue). c.loop-index.ended + spending c.args.purse.now (lasting c.args.horizon (charges_of q.entries)) ≡ spending c.args.purse.now (charges_of q.entries)) c.self.view_is
    (ap (λ cs. c.loop-index.ended + spending c.args.purse.now cs) all ∙ sum)
