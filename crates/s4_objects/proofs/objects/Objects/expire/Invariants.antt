use Rattle.std.proofs.Common.{◌≡◌, ◌+◌, ◌≤◌, Some, drop}
use Rattle.std.specs.List.{prefix_len}
use Rattle.s4_types.specs.declared.object.ObjectId.{ObjectId}
use Rattle.s4_store.specs.Chains.{item_count}
use Rattle.s4_tracks.specs.Swept.{IsSwept}
use Rattle.s4_objects.specs.declared.kept.Kept.{Kept}
use Rattle.s4_objects.specs.declared.kept.Which.{Which}
use Rattle.s4_objects.specs.Ends.{is_gone}
use Rattle.s4_objects.specs.Table.{found_in, held_in, ends_in, room_in, Holds, KeepsOthers, LeavesNoChain}
use Rattle.s4_objects.proofs.objects.Objects.expire.Given as goal

-- so many are gone, all of them expired
abbrev pub invariant-loop-freed : goal.invariant-loop-freed
invariant-loop-freed g l =
    let before = g.S.Store.chains l.fn.store in
    let now = g.S.Store.chains l.store in
    record {
      holds : Holds now l.self;
      ends : ends_in l.self ≡ drop l.freed (ends_in l.fn.self);
      gone : l.freed ≤ prefix_len (is_gone l.horizon) (ends_in l.fn.self);
      held : (o : ObjectId) (w : Which) → IsSwept l.horizon (held_in now l.self o w) (held_in before l.fn.self o w);
      kept : (o : ObjectId) (k : Kept) → found_in l.self o ≡ Some k → found_in l.fn.self o ≡ Some k;
      others : KeepsOthers before now l.fn.self l.self;
      leaves : LeavesNoChain before now l.fn.self l.self;
      ends_room : room_in l.self ≡ room_in l.fn.self + l.freed;
      used : item_count now + l.freed ≡ item_count before;
      room : g.S.Store.room l.store ≡ g.S.Store.room l.fn.store + l.freed;
    }
