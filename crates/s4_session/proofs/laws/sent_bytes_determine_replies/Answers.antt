use Rattle.s4_session.proofs.Determining.{bytes_determine, runs_have_one}
use Rattle.s4_session.proofs.laws.sent_bytes_determine_replies.Goals as goal

pub returns-clause-replies : goal.returns-clause-replies
returns-clause-replies c = bytes_determine

pub returns-clause-runs : goal.returns-clause-runs
returns-clause-runs c = runs_have_one
