use Rattle.s4_stream.proofs.Hellos.{read_hello, hello_read}
use Rattle.s4_stream.proofs.laws.hellos_are_their_rows.Goals as goal

pub returns-clause-said : goal.returns-clause-said
returns-clause-said c = read_hello

pub returns-clause-read : goal.returns-clause-read
returns-clause-read c = hello_read
