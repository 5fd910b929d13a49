use Rattle.std.proofs.Common.{sym, subst}
use Rattle.s4_laws.specs.Bases.{IsBase}
use Rattle.s4_cuts.proofs.CutPlay.{opened-base}
use Rattle.s4_drive_tests.proofs.base.a_base_follows_a_history_and_a_cut_leaves_another.Goals as goal

pub check_history-requires : goal.check_history-requires
check_history-requires g c = subst IsBase (sym c.fresh-base.ensures.opened) (opened-base 10)
