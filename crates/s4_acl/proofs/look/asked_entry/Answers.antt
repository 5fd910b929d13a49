use Rattle.std.proofs.Common.{ap, ◌∙◌, arith}
use Rattle.std.proofs.lemmas.Grind.{common_steps}
use Rattle.s4_types.specs.Judgement.{everyone}
use Rattle.s4_acl.specs.Found.{shown_entry}
use Rattle.s4_acl.proofs.Acls.{found-next, found-stays}
use Rattle.s4_acl.proofs.look.asked_entry.Goals.{then-eq-2, else-eq-2}
use Rattle.s4_acl.proofs.look.asked_entry.Goals as goal

pub loop-index-preserved : goal.loop-index-preserved
loop-index-preserved c = record {
  own = grind (arith, common_steps);
  everyones = elim c.if-eq-2.branch [
    | then-eq-2 w ↦ ap shown_entry w.of_everyone-is ∙ found-next c.args.acl.now c.loop-index.index c.index-acl-index.result c.loop-index-test.true c.index-acl-index.is everyone (grind arith) c.requires
    | else-eq-2 w ↦ ap shown_entry w.of_everyone-is ∙ c.loop-index.invariant.everyones ∙ found-stays c.args.acl.now c.loop-index.index c.index-acl-index.result c.loop-index-test.true c.index-acl-index.is everyone (grind arith)
  ];
}
