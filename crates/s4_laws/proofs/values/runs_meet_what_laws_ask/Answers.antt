use Rattle.s4_laws.proofs.Fresh.{opened-base}
use Rattle.s4_laws.proofs.InStep.{play-order}
use Rattle.s4_laws.proofs.MadeOnce.{made-once}
use Rattle.s4_laws.proofs.values.runs_meet_what_laws_ask.Goals as goal

pub returns : goal.returns
returns c = record {
  fresh = opened-base;
  none_kept = λ window o e. cc;
  order = play-order;
  once = made-once;
}
