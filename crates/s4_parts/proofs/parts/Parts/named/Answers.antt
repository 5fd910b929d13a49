use Rattle.std.proofs.Common.{◌∙◌, ap}
use Rattle.std.specs.Prelude.{◌==◌}
use Rattle.std.specs.List.{list_any}
use Rattle.s4_parts.specs.Table.{serials_on}
use Rattle.s4_parts.proofs.Counting.{any-bound}
use Rattle.s4_parts.proofs.parts.Parts.named.Goals as goal

pub returns-in-Some : goal.returns-in-Some
returns-in-Some c chains s =
    c.contains.ensures.value ∙ ap (list_any (λ y. y == c.args.object.now.serial)) c.deref.ensures.value
    ∙ ap (λ x. list_any (λ y. y == c.args.object.now.serial) (serials_on x)) c.in-Some.ensures.value ∙ any-bound c.args.self.now s c.args.object.now.purse c.args.object.now.serial
