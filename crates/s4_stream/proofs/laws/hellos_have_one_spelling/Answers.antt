use Rattle.s4_codec.proofs.Lawful.{prefix_free, read_back, spelled_as_read}
use Rattle.s4_stream.specs.Hello.{hello}
use Rattle.s4_stream.proofs.Hellos.{hello_is}
use Rattle.s4_stream.proofs.laws.hellos_have_one_spelling.Goals as goal

pub returns-clause-prefix_free : goal.returns-clause-prefix_free
returns-clause-prefix_free c = prefix_free hello hello_is

pub returns-clause-read_back : goal.returns-clause-read_back
returns-clause-read_back c = read_back hello hello_is

pub returns-clause-spelled : goal.returns-clause-spelled
returns-clause-spelled c = spelled_as_read hello hello_is
