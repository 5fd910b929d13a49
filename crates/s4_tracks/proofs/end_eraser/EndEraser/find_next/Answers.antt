use Rattle.std.proofs.Common.{◌≡◌, Some, sym, ◌∙◌, subst, arith}
use Rattle.std.specs.Prelude.{slice_get}
use Rattle.s4_store.specs.Chains.{items_of}
use Rattle.s4_tracks.proofs.EndErasing.{passed_on, over_at}
use Rattle.s4_tracks.proofs.end_eraser.EndEraser.find_next.Given.{Over}
use Rattle.s4_tracks.proofs.end_eraser.EndEraser.find_next.Goals as goal
use Rattle.s4_tracks.proofs.end_eraser.EndEraser.find_next.Goals.{After-get-version}

-- the value is one of the walk's track
value-there : (g : Over) (c : After-get-version g) → slice_get (items_of (g.S.Store.chains c.args.store.now) c.args.self.now.chain) c.loop-self.self.next ≡ Some c.get-version.result.now
value-there g c = subst (λ k. slice_get (items_of (g.S.Store.chains c.args.store.now) k) c.loop-self.self.next ≡ Some c.get-version.result.now) c.loop-self.invariant.same.chain c.get-version.ensures

pub returns-then-not-is_by-clause-none : goal.returns-then-not-is_by-clause-none
returns-then-not-is_by-clause-none g c =
    let i = c.loop-self.invariant in
    over_at c.args.self.now c.loop-self.self (items_of (g.S.Store.chains c.args.store.now) c.args.self.now.chain) c.get-version.result.now i.same i.passed
    (value-there g (goal.at.returns-then-not-is_by-clause-none g c).After-get-version) c.requires.order (sym c.is_by.ensures ∙ c.if-not-is_by.true)

pub loop-self-preserved : goal.loop-self-preserved
loop-self-preserved g c =
    let i = c.loop-self.invariant in
    record {
      same = record { chain = i.same.chain; from = i.same.from; end = i.same.end };
      passed = passed_on c.args.self.now c.loop-self.self (items_of (g.S.Store.chains c.args.store.now) c.args.self.now.chain) c.get-version.result.now i.same i.passed
          (value-there g (goal.at.loop-self-preserved g c).After-get-version) (sym c.is_erasable.ensures ∙ c.if-is_erasable.false);
      onward = omega (arith, i.onward);
    }
