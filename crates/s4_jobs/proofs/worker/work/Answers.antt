use Rattle.std.proofs.Common.{rules, of_calls, ◌≡◌, List, [], ◌∷◌, ◌++◌, refl, sym, ap, ◌∙◌, append_assoc}
use Rattle.std.proofs.lemmas.List.{map-append, append-nil}
use Rattle.std.proofs.lemmas.Fn.{FoldsTo-push}
use Rattle.s4_jobs.specs.Log.{tag}
use Rattle.s4_jobs.specs.Seats.{Seat, having_taken}
use Rattle.s4_jobs.specs.declared.rule.Tag.{Tag}
use Rattle.s4_jobs.proofs.worker.work.Goals as goal

pub loop-round-init : goal.loop-round-init
loop-round-init g c =
    let s = c.args.seat.now in (λ a. a, ([], [], refl, refl, ap (λ (l : List Tag). record { queue = s.queue; number = s.number; seats = s.seats; put = s.put; taken = l }) (sym (append-nil s.taken))))

pub loop-round-preserved : goal.loop-round-preserved
loop-round-preserved g c =
    let number = g.J.Numbered.numbered in
    let inv = c.loop-round.invariant.1 in
    let job = c.in-Run.job in
    let taken = c.next_job.ensures.taken in
    let t = tag taken.0 (number job) in
    let at : c.next_job.new.seat ≡ having_taken c.loop-round.seat t = search rules in
    let s = c.args.seat.now in (
      search (rules, of_calls),
      (
        inv.0 ++ job ∷ [],
        inv.1 ++ t ∷ [],
        map-append (λ (x : Tag). x.number) inv.1 (t ∷ []) ∙ (ap (λ l. l ++ number job ∷ []) inv.2 ∙ sym (map-append number inv.0 (job ∷ []))),
        FoldsTo-push _ c.args.handler inv.0 c.loop-round.handler job c.handler.new.self inv.3 (search (rules, of_calls)),
        at ∙ (ap (λ (x : Seat). having_taken x t) inv.4 ∙ ap (λ (l : List Tag). record { queue = s.queue; number = s.number; seats = s.seats; put = s.put; taken = l }) (append_assoc s.taken inv.1 (t ∷ []))),
      ),
    )
