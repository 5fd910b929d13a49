use Rattle.std.proofs.Common.{arith, ap, length, List}
use Rattle.std.proofs.lemmas.List.{length-map}
use Rattle.crossbeam_queue.specs.Passes.{view}
use Rattle.s4_jobs.specs.Rule.{tag_of}
use Rattle.s4_jobs.specs.declared.rule.Tag.{Tag}
use Rattle.s4_jobs.proofs.Moves.{settles, counts}
use Rattle.s4_jobs.proofs.closing.count_left.Goals as goal

pub len_as-requires-clause-rule : goal.len_as-requires-clause-rule
len_as-requires-clause-rule g c = settles g.J.Numbered.numbered _ _ c.requires.whole.0

pub returns-clause-few : goal.returns-clause-few
returns-clause-few g c =
    let held = c.len_as.ensures.rule in
    let count = counts (view c.args.first.now) _ c.requires.whole.0 held.1.2 in
    let items = length-map held.1.0 (tag_of g.J.Numbered.numbered) in
    let none = ap (λ (l : List Tag). length l) c.requires.whole.1 in omega (arith, held.0, held.1.1, count, items, none)
