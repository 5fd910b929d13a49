use Rattle.s4_types.specs.Audit.{number_of_refusal}
use Rattle.s4_codec.specs.Replies.{refusals}
use Rattle.s4_codec.proofs.Added.{case_added}
use Rattle.s4_codec.proofs.put_replies.put_refused.Goals as goal

pub returns-clause-added : goal.returns-clause-added
returns-clause-added g c =
    let parts =
    case_added number_of_refusal refusals c.args.refusal.now _ _ _ (rw c.number.ensures at c.put_byte.ensures.added) c.put_refusal.ensures.added in
    record { fits = parts.fits; spelled = parts.spelled }
