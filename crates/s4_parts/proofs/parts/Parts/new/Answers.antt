use Rattle.std.proofs.Common.{ap}
use Rattle.std.specs.Map.{lookup}
use Rattle.std.specs.BTreeMap.{is_at}
use Rattle.s4_types.specs.Names.{purse_cmp}
use Rattle.s4_parts.proofs.Counting.{holds-nothing}
use Rattle.s4_parts.proofs.parts.Parts.new.Goals as goal

pub returns-clause-holds : goal.returns-clause-holds
returns-clause-holds c chains = holds-nothing chains (record { alloc = c.args.alloc; shelves = c.new.result; ends = c.new-2.result }) (λ p. ap (λ es. lookup (is_at (purse_cmp p)) es) c.new.ensures.empty)
