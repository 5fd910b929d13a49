use Rattle.std.proofs.Common.{rules}
use Rattle.s4_codec.proofs.read_requests.read_fields.Goals as goal

pub returns-in_default : goal.returns-in_default
returns-in_default c = let plain = c.read_plain_fields.ensures c.args.version in search rules
