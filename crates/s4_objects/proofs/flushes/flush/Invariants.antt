use Rattle.std.proofs.Common.{◌≡◌, ◌+◌, ◌≤◌, drop, length, vec_capacity}
use Rattle.std.specs.Prelude.{IfSome}
use Rattle.s4_objects.specs.Erasing.{IsOnItsWay}
use Rattle.s4_objects.specs.Table.{found_in}
use Rattle.s4_objects.proofs.Nexting.{IsErasing, IsRefunded}
use Rattle.s4_objects.proofs.flushes.flush.Given as goal

-- each end so far stood for a value at most, and those that are left stand for the others
abbrev pub invariant-loop-at : goal.invariant-loop-at
invariant-loop-at g l =
    let before = g.S.Store.chains l.fn.store in
    let now = g.S.Store.chains l.store in
    record {
      erasing : IsErasing before now (found_in l.objects) l.objects.ends.items l.fn.from l.fn.to (drop l.at l.objects.ends.items);
      refunded : IsRefunded before now (found_in l.objects) l.refunds.items;
      walk : IfSome l.eraser (IsOnItsWay now l.fn.from);
      told : length l.refunds.items + l.first ≤ l.at;
      space : l.behind ≤ vec_capacity l.refunds + l.first;
      capacity : vec_capacity l.fn.refunds ≤ vec_capacity l.refunds;
      room : g.S.Store.room l.store ≡ g.S.Store.room l.fn.store;
    }
