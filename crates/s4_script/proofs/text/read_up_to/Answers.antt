use Rattle.std.proofs.Common.{rules}
use Rattle.s4_script.proofs.Reading.{whole-of-taken}
use Rattle.s4_script.proofs.text.read_up_to.Goals as goal

pub returns-clause-whole : goal.returns-clause-whole
returns-clause-whole g c = whole-of-taken c.args.limit (g.R.Read.remaining c.args.reader.now) _ (search rules) (search rules)
