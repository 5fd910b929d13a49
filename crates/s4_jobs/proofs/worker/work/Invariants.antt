use Rattle.std.proofs.Common.{◌≡◌, List, map}
use Rattle.std.specs.List.{FoldsTo}
use denote.Param.Always.{always_mut}
use Rattle.s4_jobs.specs.Log.{numbers_of}
use Rattle.s4_jobs.specs.Work.{having_taken_all}
use Rattle.s4_jobs.specs.declared.rule.Tag.{Tag}
use Rattle.s4_jobs.proofs.worker.work.Given as goal

abbrev pub invariant-loop-round : goal.invariant-loop-round
invariant-loop-round g l =
    (always_mut g.F.FnMut l.initial.handler → always_mut g.F.FnMut l.handler)
    × ((jobs : List g.row.J.Denot) × (tags : List Tag) × (numbers_of tags ≡ map g.J.Numbered.numbered jobs)
    × FoldsTo (λ before job after. goal.F-step g before job tt after) l.initial.handler jobs l.handler
    × (l.seat ≡ having_taken_all l.initial.seat tags))
