use Rattle.std.proofs.Common.{List, ap, subst, sym, ◌∙◌}
use Rattle.s4_passes.specs.Calls.{CallList}
use Rattle.s4_closing.specs.Closing.{NoneWent}
use Rattle.s4_pool.specs.Numbers.{HasAll}
use Rattle.s4_server.specs.Setup.{Setup}
use Rattle.s4_server.proofs.server.Server.run.Goals as goal

pub returns-clause-there : goal.returns-clause-there
returns-clause-there g c =
    let workers = ap (λ (s : Setup). s.settings.workers) c.self.view_is in
    let opened = subst (λ n. HasAll n c.in_ok-passes.passes.items) c.self.invariant.2 c.in-Ok.ensures.there in
    let there = subst (λ n. HasAll n c.in_ok-passes.passes.items) workers opened in
    subst (λ (p : List CallList). HasAll c.args.self.settings.workers p) (sym c.in-Ok.ensures.passes) there

pub returns-clause-count : goal.returns-clause-count
returns-clause-count g c = c.in-Ok.ensures.count ∙ c.self.invariant.1 ∙ ap (λ (s : Setup). s.settings.cells) c.self.view_is

pub returns-clause-uncut : goal.returns-clause-uncut
returns-clause-uncut g c uncut =
    let cuts = ap (λ (s : Setup). s.settings.cuts) c.self.view_is in
    subst NoneWent c.as_slice-cells.ensures.value (c.is_as_wanted.ensures c.if-not-is_as_wanted.false (cuts ∙ uncut))
