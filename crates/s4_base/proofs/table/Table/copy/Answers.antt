use Rattle.std.proofs.Common.{◌∙◌}
use Rattle.std.proofs.lemmas.Map.Entries.{entries_from_clone}
use Rattle.s4_base.proofs.table.Table.copy.Goals as goal

pub returns : goal.returns
returns g c =
    entries_from_clone g.K.Clone.is_clone g.V.Clone.is_clone g.met.K.Exact.exact g.met.V.Exact.exact c.self.inside.values.entries c.in_ok-clone.field-0.entries c.in_ok-clone.ensures.cases
    ∙ c.self.view_is
