use Rattle.std.proofs.Common.{None, ◌∙◌, ap}
use Rattle.std.specs.Prelude.{cond}
use Rattle.std.specs.Map.{keys_of}
use Rattle.std.proofs.lemmas.Result.{on_ok_weaker}
use Rattle.s4_types.specs.Name.{same_name}
use Rattle.s4_base.specs.Changes.{without_name}
use Rattle.s4_base.specs.Tables.{bound_among}
use Rattle.s4_base.proofs.Shelves.{told-there, binding-there}
use Rattle.s4_base.proofs.names.unbind.Goals as goal

pub returns-clause-names : goal.returns-clause-names
returns-clause-names c =
    on_ok_weaker c.put.result (λ put. told-there c.args.names.now c.put.new.self c.args.purse.now c.unbind.new.self put keys_of (without_name c.args.name.now)
    (c.unbind.ensures.names ∙ ap (λ bounds. without_name c.args.name.now (keys_of bounds)) c.in_ok-bounds.ensures)) c.put.ensures.ok

pub returns-clause-bindings : goal.returns-clause-bindings
returns-clause-bindings c =
    on_ok_weaker c.put.result (λ put. binding-there c.args.names.now c.put.new.self c.args.purse.now c.unbind.new.self put c.args.name.now None
    (λ n. c.unbind.ensures.bindings n ∙ ap (λ bounds. cond (same_name c.args.name.now n) None (bound_among bounds n)) c.in_ok-bounds.ensures)) c.put.ensures.ok
