use Rattle.std.proofs.Common.{◌≡◌, sym, ap, ◌∙◌, subst, drop, List, rules}
use Rattle.crossbeam_queue.specs.Passes.{view}
use Rattle.s4_jobs.specs.Seats.{Seat, Jobs, AreRest, hands_of}
use Rattle.s4_jobs.specs.Rule.{Drained, with_all_ended}
use Rattle.s4_jobs.specs.declared.rule.View.{View}
use Rattle.s4_jobs.proofs.Closings.{some_seat, rest_of, whole, settled}
use Rattle.s4_jobs.proofs.queue.Jobs.close.Goals as goal

pub end_all-requires-clause-rest : goal.end_all-requires-clause-rest
end_all-requires-clause-rest g c =
    let queue = ap (λ (j : Jobs). j.queue) c.self.view_is in
    subst (λ (q : _). AreRest q c.remove-first.new.self.items) (sym queue)
    (subst (λ (l : List Seat). AreRest c.args.self.queue l) (sym c.remove-first.ensures.by_index.2) (rest_of c.args.self c.args.seats.items c.requires))

pub drain-requires-clause-whole : goal.drain-requires-clause-whole
drain-requires-clause-whole g c =
    let v = view c.first.inside.pass in
    let is : view c.end_all.new.first ≡ with_all_ended v (hands_of (drop 1 c.args.seats.items)) = c.end_all.ensures.ended ∙ ap (λ (l : List Seat). with_all_ended v (hands_of l)) c.remove-first.ensures.by_index.2 in
    rw is (whole c.args.self c.args.seats.items c.remove-first.result _ _ v c.requires c.remove-first.ensures.value c.first.view_is c.first.invariant.0, c.first.invariant.0.left)

pub returns : goal.returns
returns g c =
    let number = g.J.Numbered.numbered in
    let v = view c.first.inside.pass in
    let is : view c.end_all.new.first ≡ with_all_ended v (hands_of (drop 1 c.args.seats.items)) = c.end_all.ensures.ended ∙ ap (λ (l : List Seat). with_all_ended v (hands_of l)) c.remove-first.ensures.by_index.2 in
    settled number c.args.self c.args.seats.items c.remove-first.result _ _ v c.drain.result.items c.requires c.remove-first.ensures.value c.first.view_is c.first.invariant.0
    (subst (λ (w : View). Drained number w c.drain.result.items) is c.drain.ensures)

pub remove-first-requires : goal.remove-first-requires
remove-first-requires g c = let some = some_seat c.args.self c.args.seats.items c.requires in search rules
