use Rattle.std.proofs.Common.{◌++◌, ◌∷◌, [], map, ap, sym, ◌∙◌, List, ℕ, arith}
use Rattle.std.proofs.lemmas.List.{map-append}
use Rattle.s4_jobs.specs.declared.rule.View.{View}
use Rattle.s4_jobs.specs.declared.rule.Tag.{Tag}
use Rattle.s4_jobs.specs.Rule.{with_left}
use Rattle.s4_jobs.proofs.Closings.{left_one_more}
use Rattle.s4_jobs.proofs.closing.drain.Goals as goal

pub loop-job-preserved : goal.loop-job-preserved
loop-job-preserved g c =
    let number = g.J.Numbered.numbered in
    let inv = c.loop-job.invariant in
    let more = inv.3 in
    let one = c.in-Some.ensures.taken in (
      c.take_left.ensures.queue,
      omega (arith, inv.1, c.keep.ensures.room),
      inv.2,
      (
        more.0 ++ one.tag ∷ [],
        one.left ∙ (ap (λ (v : View). with_left v (one.tag ∷ [])) more.1 ∙ left_one_more _ more.0 one.tag),
        map-append (λ (t : Tag). t.number) more.0 (one.tag ∷ []) ∙ (ap (λ (l : List ℕ). l ++ one.tag.number ∷ []) more.2 ∙ (ap (λ (n : ℕ). map number c.loop-job.left.items ++ n ∷ []) one.numbered
            ∙ (sym (map-append number c.loop-job.left.items (c.in-Some.job ∷ [])) ∙ ap (map number) (sym c.keep.ensures.items)))),
      ),
    )
