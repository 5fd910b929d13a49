use Rattle.std.proofs.Common.{◌∙◌, ap}
use Rattle.std.specs.Prelude.{is_some}
use Rattle.s4_names.proofs.Keeping.{still_some}
use Rattle.s4_names.proofs.names.Names.draw.Goals as goal

pub returns-clause-still : goal.returns-clause-still
returns-clause-still c p room = record { is_there = ap is_some (c.in_ok-insert.ensures.updates.0 p) ∙ still_some _ _ _ room.is_there }
