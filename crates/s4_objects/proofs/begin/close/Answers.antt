use Rattle.std.proofs.Common.{ap, ◌∙◌}
use Rattle.std.specs.FinMap as finmap
use Rattle.s4_store.specs.Counts.{item_count-remove_empty}
use Rattle.s4_store.specs.Chains.{item_count}
use Rattle.s4_objects.specs.declared.kept.Which.TheVariants as which
use Rattle.s4_objects.proofs.Opening.{attributes_open, attributes_empty, data_open, data_empty}
use Rattle.s4_objects.proofs.begin.close.Goals as goal

pub close-requires-clause-open : goal.close-requires-clause-open
close-requires-clause-open g c = c.requires.opened which.Acl

pub close-requires-clause-empty : goal.close-requires-clause-empty
close-requires-clause-empty g c = c.requires.empty which.Acl

pub close-requires-2-clause-open : goal.close-requires-2-clause-open
close-requires-2-clause-open g c = attributes_open c.requires _ c.close.ensures.chains

pub close-requires-2-clause-empty : goal.close-requires-2-clause-empty
close-requires-2-clause-empty g c = attributes_empty c.requires _ c.close.ensures.chains

pub close-requires-3-clause-open : goal.close-requires-3-clause-open
close-requires-3-clause-open g c = data_open c.requires _ c.close.ensures.chains _ c.close-2.ensures.chains

pub close-requires-3-clause-empty : goal.close-requires-3-clause-empty
close-requires-3-clause-empty g c = data_empty c.requires _ c.close.ensures.chains _ c.close-2.ensures.chains

pub returns-clause-chains : goal.returns-clause-chains
returns-clause-chains g c =
    c.close-3.ensures.chains ∙ ap (λ x. finmap.remove x c.args.kept.now.data.chain) (c.close-2.ensures.chains ∙ ap (λ x. finmap.remove x c.args.kept.now.attributes.chain) c.close.ensures.chains)

pub returns-clause-used : goal.returns-clause-used
returns-clause-used g c =
    ap item_count c.close-3.ensures.chains ∙ item_count-remove_empty _ _ (data_open c.requires _ c.close.ensures.chains _ c.close-2.ensures.chains) (data_empty c.requires _ c.close.ensures.chains _ c.close-2.ensures.chains)
    ∙ ap item_count c.close-2.ensures.chains ∙ item_count-remove_empty _ _ (attributes_open c.requires _ c.close.ensures.chains) (attributes_empty c.requires _ c.close.ensures.chains)
    ∙ ap item_count c.close.ensures.chains ∙ item_count-remove_empty _ _ (c.requires.opened which.Acl) (c.requires.empty which.Acl)
