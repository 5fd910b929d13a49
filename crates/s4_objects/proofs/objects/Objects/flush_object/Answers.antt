use Rattle.s4_objects.proofs.Holding.{holds_either, leaves_either}
use Rattle.s4_objects.proofs.objects.Objects.flush_object.Goals as goal

pub returns-clause-holds : goal.returns-clause-holds
returns-clause-holds g c = holds_either c.requires.holds c.args.from c.args.to _ (λ told. c.flush_object.new.refunds.items) c.flush_object.result c.flush_object.ensures.ok c.flush_object.ensures.err

pub returns-clause-leaves : goal.returns-clause-leaves
returns-clause-leaves g c = leaves_either c.requires.holds c.args.from c.args.to _ (λ told. c.flush_object.new.refunds.items) c.flush_object.result c.flush_object.ensures.ok c.flush_object.ensures.err
