use Rattle.std.proofs.Common.{rules, ◌≡◌, Some, ◌∙◌, ap}
use Rattle.std.specs.Prelude.{cond}
use Rattle.std.specs.Map.{keys_of}
use Rattle.s4_types.specs.Name.{same_name}
use Rattle.s4_types.specs.Bindings.{with_name}
use Rattle.s4_base.specs.Tables.{bound_among}
use Rattle.s4_base.proofs.Shelves.{keys-insert, bound-put}
use Rattle.s4_base.proofs.bounds.Bounds.bind.Goals as goal

pub returns-clause-names : goal.returns-clause-names
returns-clause-names c =
    let key : c.in_ok-clone.field-0 ≡ c.args.name.now = search rules in
    let old = c.self.inside.names.entries in
    ap keys_of c.in_ok-insert.ensures.entries
    ∙ keys-insert c.in_ok-clone.field-0 c.args.bound old
    ∙ ap (λ name. with_name name (keys_of old)) key
    ∙ ap (λ bounds. with_name c.args.name.now (keys_of bounds)) c.self.view_is

pub returns-clause-bindings : goal.returns-clause-bindings
returns-clause-bindings c n =
    let key : c.in_ok-clone.field-0 ≡ c.args.name.now = search rules in
    let old = c.self.inside.names.entries in
    bound-put c.in_ok-clone.field-0 (Some c.args.bound) old c.insert.new.self.entries n (c.in_ok-insert.ensures.updates.0 n)
    ∙ ap (λ name. cond (same_name name n) (Some c.args.bound) (bound_among old n)) key
    ∙ ap (λ bounds. cond (same_name c.args.name.now n) (Some c.args.bound) (bound_among bounds n)) c.self.view_is
