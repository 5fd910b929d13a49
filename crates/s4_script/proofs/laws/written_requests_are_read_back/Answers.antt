use Rattle.s4_script.proofs.RequestsBack.{request_line_back, words_back}
use Rattle.s4_script.proofs.laws.written_requests_are_read_back.Goals as goal

pub returns-clause-words : goal.returns-clause-words
returns-clause-words c = words_back

pub returns-clause-line : goal.returns-clause-line
returns-clause-line c = request_line_back
