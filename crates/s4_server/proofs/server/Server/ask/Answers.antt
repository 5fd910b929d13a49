use Rattle.std.proofs.Common.{rules, ◌≡◌, ◌<◌, List, length, slice_set, sym, ap, subst, ◌∙◌}
use Rattle.std.proofs.lemmas.List.{get_or_default, get_or-set_same}
use Rattle.s4_passes.specs.Calls.{CallList}
use Rattle.s4_pool.specs.Serving.{ServesUnlessRefused}
use Rattle.s4_server.specs.Setup.{Setup, first_of, no_pass}
use Rattle.s4_server.proofs.server.Server.ask.Goals as goal

pub returns-clause-carried_out : goal.returns-clause-carried_out
returns-clause-carried_out g c =
    let passes : List CallList = c.self.inside.passes.items in
    let some : 0 < length passes = search rules in
    let first : c.in-Some.pass.now ≡ c.args.self.now.first = c.in-Some.ensures.value ∙ get_or_default passes 0 c.in-Some.pass.now no_pass some ∙ ap (λ (s : Setup). s.first) c.self.view_is in
    let then : first_of (slice_set passes 0 c.serve.new.pass) ≡ c.serve.new.pass = get_or-set_same passes 0 c.serve.new.pass no_pass some in
    record {
      settings = ap (λ (s : Setup). s.settings) c.self.view_is;
      clock = c.moment.result;
      serves = subst (λ (p : CallList). ServesUnlessRefused p (first_of (slice_set passes 0 c.serve.new.pass)) c.args.caller c.moment.result c.args.request.now c.serve.result) first
          (subst (λ (p : CallList). ServesUnlessRefused c.in-Some.pass.now p c.args.caller c.moment.result c.args.request.now c.serve.result) (sym then) c.serve.ensures.pass);
    }
