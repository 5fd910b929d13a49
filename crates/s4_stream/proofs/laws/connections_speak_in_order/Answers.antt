use Rattle.std.proofs.Common.{length}
use Rattle.s4_stream.proofs.Talking.{talks_frames, sent_for_talk, sent_at_end}
use Rattle.s4_stream.proofs.laws.connections_speak_in_order.Goals as goal

pub returns-clause-events : goal.returns-clause-events
returns-clause-events c logins stream = talks_frames (length stream) logins stream

pub returns-clause-sent : goal.returns-clause-sent
returns-clause-sent c = sent_for_talk

pub returns-clause-unwelcome : goal.returns-clause-unwelcome
returns-clause-unwelcome c = sent_at_end
