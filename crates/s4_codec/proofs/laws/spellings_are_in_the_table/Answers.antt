use Rattle.s4_codec.proofs.TableLaws.{request_in_table, reply_in_table, read_row, row_read, reply_read_row, reply_row_read, reply_has_row}
use Rattle.s4_codec.proofs.laws.spellings_are_in_the_table.Goals as goal

pub returns-clause-request : goal.returns-clause-request
returns-clause-request c = request_in_table

pub returns-clause-reply : goal.returns-clause-reply
returns-clause-reply c = reply_in_table

pub returns-clause-bodies : goal.returns-clause-bodies
returns-clause-bodies c = reply_has_row

pub returns-clause-said : goal.returns-clause-said
returns-clause-said c = read_row

pub returns-clause-read : goal.returns-clause-read
returns-clause-read c = row_read

pub returns-clause-reply_said : goal.returns-clause-reply_said
returns-clause-reply_said c = reply_read_row

pub returns-clause-reply_read : goal.returns-clause-reply_read
returns-clause-reply_read c = reply_row_read
