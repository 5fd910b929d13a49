use Rattle.std.proofs.Common.{ℕ, Bool, List, None, not, sym, ◌∙◌, ap, filter}
use Rattle.std.specs.Prelude.{cond}
use Rattle.std.specs.BTreeMap.{is_at}
use Rattle.std.specs.Map.{keys_of, lookup}
use Rattle.s4_types.specs.Name.{name_cmp, same_name}
use Rattle.s4_base.specs.Changes.{without_name}
use Rattle.s4_base.specs.Tables.{bound_among}
use Rattle.s4_base.proofs.Shelves.{keys-removed, at_names, bound-put}
use Rattle.s4_base.proofs.bounds.Bounds.unbind.Goals as goal

pub returns-clause-names : goal.returns-clause-names
returns-clause-names c =
    let name = c.args.name.now in
    let old = c.self.inside.names.entries in
    ap keys_of c.remove.ensures.entries
    ∙ keys-removed (is_at (name_cmp name)) old (ap (lookup (is_at (name_cmp name))) (sym c.remove.ensures.entries) ∙ c.remove.ensures.updates.1)
    ∙ ap (λ (test : List ℕ → Bool). filter (λ n. not (test n)) (keys_of old)) (at_names name)
    ∙ ap (λ bounds. without_name name (keys_of bounds)) c.self.view_is

pub returns-clause-bindings : goal.returns-clause-bindings
returns-clause-bindings c n =
    bound-put c.args.name.now None c.self.inside.names.entries c.remove.new.self.entries n (c.remove.ensures.updates.0 n)
    ∙ ap (λ bounds. cond (same_name c.args.name.now n) None (bound_among bounds n)) c.self.view_is
