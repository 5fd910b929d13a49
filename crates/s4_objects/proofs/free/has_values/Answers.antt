use Rattle.s4_objects.specs.declared.kept.Which.TheVariants as which
use Rattle.s4_objects.proofs.free.has_values.Goals as goal

pub len-requires : goal.len-requires
len-requires g c = c.requires which.Data

pub len-requires-else-len-gt0 : goal.len-requires-else-len-gt0
len-requires-else-len-gt0 g c = c.requires which.Attributes

pub len-requires-else-len-gt0-2 : goal.len-requires-else-len-gt0-2
len-requires-else-len-gt0-2 g c = c.requires which.Acl
