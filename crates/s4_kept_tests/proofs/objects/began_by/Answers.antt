use Rattle.std.proofs.Common.{◌≤◌, sym, ◌∙◌, ap, arith, rules}
use Rattle.std.specs.Option.{option_copied}
use Rattle.s4_store.specs.Chains.{newest_of}
use Rattle.s4_store.specs.PlainStore.{chains_of}
use Rattle.s4_objects.specs.Table.{held_in}
use Rattle.s4_kept_tests.proofs.Ordered.{newest-began}
use Rattle.s4_kept_tests.proofs.objects.began_by.Goals as goal

pub returns-in-Some-clause-begun : goal.returns-in-Some-clause-begun
returns-in-Some-clause-begun c = λ e.
    let low : c.in-Some.version.now.begin ≤ c.args.moment = search (arith, rules) in
    newest-began c.args.moment (newest_of (held_in (chains_of c.args.store.now) c.args.objects.now c.args.object.now c.args.which)) c.in-Some.version.now (sym (ap option_copied c.in-Some.is) ∙ c.version.ensures) low
