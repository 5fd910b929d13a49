use Rattle.std.proofs.Common.{◌≡◌, ◌≤◌, ap, subst, sym, ◌∙◌}
use Rattle.s4_types.specs.Log.{Log, horizon_in, needed}
use Rattle.s4_cuts.specs.Cut.{base_at}
use Rattle.s4_cuts.specs.CutLog.{left_of, base_left}
use Rattle.s4_base.specs.Lists.{base_of_lists}
use Rattle.s4_kept.specs.Kept.{IsKept}
use Rattle.s4_kept.proofs.Keeping.{kept_cut}
use Rattle.s4_kept.proofs.drive.Drive.cut_to.Goals as goal

pub invariant_of-self : goal.invariant_of-self
invariant_of-self g c =
    let log : Log = c.self.inside.plain in
    let m = c.args.moment in
    let told : m ≤ horizon_in log = subst (λ (l : Log). m ≤ horizon_in l) (sym c.self.view_is) c.requires.told in
    let is : base_of_lists c.args.base ≡ base_at (base_left log) (left_of log) m
    = subst (λ (l : Log). base_of_lists c.args.base ≡ base_at (base_left l) (left_of l) m) (sym c.self.view_is) c.requires.base in
    subst (λ (l : Log). IsKept l c.args.base) (sym c.cut.ensures.cut) (kept_cut log c.self.inside.base c.self.invariant m c.args.base told is)

pub returns-clause-needed : goal.returns-clause-needed
returns-clause-needed g c = c.cut.ensures.needed ∙ ap needed c.self.view_is
