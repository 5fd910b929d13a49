use Rattle.std.proofs.Common.{◌≡◌, fold, take}
use Rattle.s4_types.specs.Horizon.{guarded_after}
use Rattle.s4_state.proofs.start.Start.follow_first.Given as goal

abbrev pub invariant-loop-place : goal.invariant-loop-place
invariant-loop-place l = l.self ≡ record {
  opened = l.initial.self.opened;
  cut = l.initial.self.cut;
  window = fold guarded_after l.initial.self.window (take l.place l.records.items);
}
