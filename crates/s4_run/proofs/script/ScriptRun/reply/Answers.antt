use Rattle.std.proofs.Common.{◌≡◌, ◌≤◌, ◌++◌, ◌∷◌, [], ap, subst, ◌∙◌, arith}
use Rattle.std.specs.Prelude.{MatchBool}
use Rattle.s4_types.specs.Play.{last_of, record_of, is_no_memory}
use Rattle.s4_types.specs.Log.{base_of}
use Rattle.s4_types.proofs.Booleans.{by_test}
use Rattle.s4_types.proofs.Snoc.{last_of-snoc}
use Rattle.s4_drive.specs.Step.{Answers}
use Rattle.s4_run.proofs.script.ScriptRun.reply.Goals as goal

pub invariant_of-self : goal.invariant_of-self
invariant_of-self c =
    let old = c.args.self.now.drive in
    let new = c.step.new.self in
    let t = c.args.moment in
    let caller = c.args.caller in
    let request = c.args.request.now in
    let ordered : c.args.self.now.moment ≤ t = grind (arith, c.lt.ensures, c.if-lt.false) in
    let early : last_of old.history ≤ t = omega (arith, ordered) in
    record {
      in_order = by_test (is_no_memory c.step.result)
          (λ e. let stays : new ≡ old = subst (λ b. MatchBool b (new ≡ old) (Answers old new t caller request c.step.result)) e c.step.ensures.steps in
          let same : new.history ≡ old.history = λ i. (stays i).history in
          let last : last_of new.history ≡ last_of old.history = ap last_of same in
          omega (arith, early, last))
          (λ e. let answers : Answers old new t caller request c.step.result = subst (λ b. MatchBool b (new ≡ old) (Answers old new t caller request c.step.result)) e c.step.ensures.steps in
          let grown : new.history ≡ old.history ++ record_of (base_of old) old.history t caller request ∷ [] = λ i. (answers.grows i).history in
          let last : last_of new.history ≡ t = ap last_of grown ∙ last_of-snoc old.history (record_of (base_of old) old.history t caller request) in
          omega (arith, last));
    }
