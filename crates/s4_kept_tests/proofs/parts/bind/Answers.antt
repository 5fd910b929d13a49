use Rattle.std.proofs.Common.{◌≡◌, ◌≤◌, true, List, [], ◌∷◌, ◌++◌, sym, ◌∙◌, ap, subst, arith}
use Rattle.std.specs.Prelude.{◌&&◌, IfSome, if◌then◌else◌}
use Rattle.s4_types.specs.Names.{same_purse}
use Rattle.s4_types.specs.Name.{same_name}
use Rattle.s4_types.specs.declared.version.Version.{Version}
use Rattle.s4_types.proofs.SameNames.{purse_self, name_self}
use Rattle.s4_store.specs.Chains.{newest_of}
use Rattle.s4_store.specs.PlainStore.{chains_of}
use Rattle.s4_parts.specs.Table.{bindings_in, binding}
use Rattle.s4_kept_tests.proofs.Ordered.{newest-added}
use Rattle.s4_kept_tests.proofs.parts.bind.Goals as goal

pub returns-clause-begun : goal.returns-clause-begun
returns-clause-begun c = λ t le.
    let p = c.args.object.now.purse in let n = c.args.name.now in
    let old : List Version = bindings_in (chains_of c.reserve-2.new.store) c.reserve-2.new.self p n in
    let added : Version = binding c.new.result n c.args.object.now in
    let same : (same_purse p p && same_name n n) ≡ true = ap (λ b. b && same_name n n) (purse_self p) ∙ name_self n in
    subst (λ vs. IfSome (newest_of vs) (λ v. v.begin ≤ t)) (sym (c.bind.ensures.bindings p n ∙ ap (λ b. if b then old ++ added ∷ [] else old) same)) (newest-added old added t (omega (arith, c.new.ensures, le)))
