use Rattle.std.proofs.Common.{◌≡◌, ◌≤◌, ◌<◌, ◌+◌, ◌^◌, length, subst, sym, ap, ◌∙◌, arith, rules}
use Rattle.std.proofs.lemmas.Result.{IfOk-weaker}
use Rattle.std.specs.Prelude.{IfOk}
use Rattle.s4_types.specs.Log.{Log, base_of}
use Rattle.s4_types.specs.Base.{Base}
use Rattle.s4_types.specs.Play.{InOrder}
use Rattle.s4_cuts.specs.Cut.{before, base_at}
use Rattle.s4_cuts.specs.CutLog.{left_of, base_left}
use Rattle.s4_base.specs.Lists.{base_of_lists}
use Rattle.s4_base.specs.Changes.{CanFollowAll}
use Rattle.s4_base.proofs.Turning.{order-up}
use Rattle.s4_kept.proofs.Keeping.{base-is, base-order, base-fits, all-count, whole_at}
use Rattle.s4_kept.proofs.drive.Drive.base_at.Goals as goal

pub count_before-requires : goal.count_before-requires
count_before-requires g c =
    let log : Log = c.self.inside.plain in
    let lists = c.self.inside.base in
    subst (InOrder 0) (sym c.history-records.ensures.items) (order-up 0 lists.cut (left_of log) (omega arith) (base-order log lists c.self.invariant))

pub after-requires-clause-is_base : goal.after-requires-clause-is_base
after-requires-clause-is_base g c = base-is c.self.inside.plain c.self.inside.base c.self.invariant

pub after-requires-clause-order : goal.after-requires-clause-order
after-requires-clause-order g c =
    let log : Log = c.self.inside.plain in
    let lists = c.self.inside.base in
    subst (InOrder lists.cut) (sym c.history-records.ensures.items) (base-order log lists c.self.invariant)

pub after-requires-clause-fits : goal.after-requires-clause-fits
after-requires-clause-fits g c =
    let log : Log = c.self.inside.plain in
    let lists = c.self.inside.base in
    subst (CanFollowAll (base_of_lists lists)) (sym c.history-records.ensures.items) (base-fits log lists c.self.invariant)

pub overflow_sub-next_place : goal.overflow_sub-next_place
overflow_sub-next_place g c =
    let log : Log = c.self.inside.plain in
    let all = all-count log c.self.inside.base c.self.invariant in
    let place : c.next_place.result ≡ length log.history = c.next_place.ensures in
    let len : c.len.result ≡ length (left_of log) = c.len.ensures.len ∙ ap length c.history-records.ensures.items in
    omega (arith, all, place, len)

pub after-requires-clause-counts : goal.after-requires-clause-counts
after-requires-clause-counts g c =
    let log : Log = c.self.inside.plain in
    let all = all-count log c.self.inside.base c.self.invariant in
    let place : c.next_place.result ≡ length log.history = c.next_place.ensures in
    let len : length c.history-records.result.now.items ≡ length (left_of log) = ap length c.history-records.ensures.items in
    let fits : c.next_place.result < 2 ^ 64 = search rules in
    omega (arith, all, place, len, fits)

pub returns-clause-whole : goal.returns-clause-whole
returns-clause-whole g c =
    let log : Log = c.self.inside.plain in
    let lists = c.self.inside.base in
    let m = c.args.moment in
    subst (λ (l : Log). l.cut ≤ m → IfOk c.after.result (λ base. base_of_lists base ≡ base_at (base_of l) l.history m)) c.self.view_is
    (λ later. IfOk-weaker c.after.result (λ base. base_of_lists base ≡ base_at (base_of_lists lists) c.history-records.result.now.items m) (λ base. base_of_lists base ≡ base_at (base_of log) log.history m)
    (λ base is. is ∙ ap (λ b. base_at b c.history-records.result.now.items m) c.self.invariant.base ∙ ap (λ h. base_at (base_left log) h m) c.history-records.ensures.items ∙ whole_at log lists c.self.invariant m later)
    c.after.ensures)

pub returns-clause-bound : goal.returns-clause-bound
returns-clause-bound g c =
    let log : Log = c.self.inside.plain in
    let lists = c.self.inside.base in
    let items = c.history-records.result.now.items in
    let all = all-count log lists c.self.invariant in
    let place : c.next_place.result ≡ length log.history = c.next_place.ensures in
    let len : c.len.result ≡ length (left_of log) = c.len.ensures.len ∙ ap length c.history-records.ensures.items in
    let few : c.count_before.result ≤ c.len.result = omega (arith, c.count_before.ensures.within, c.len.ensures.len) in
    let most = c.if-next_place-staying-gt-MOST_GONE.false in
    IfOk-weaker c.after.result (λ base. base_of_lists base ≡ base_at (base_of_lists lists) items c.args.moment) (λ base. base.count < 2 ^ 63)
    (λ base is. let count : base.count ≡ lists.count + length (before c.args.moment items) = ap (λ (b : Base). b.count) is in
    omega (arith, count, c.count_before.ensures.count, all, place, len, few, most))
    c.after.ensures
