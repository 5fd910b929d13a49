use Rattle.std.proofs.Common.{◌≡◌, ◌+◌, ◌≤◌}
use Rattle.std.specs.List.{prefix_len}
use Rattle.s4_parts.specs.Table.{Holds, KeepsRoom}
use Rattle.s4_parts.specs.Waiting.{is_gone, waiting_in, Waits, Sweeps}
use Rattle.s4_parts.proofs.parts.Parts.expire.Given as goal

-- the first so many are gone, all of them expired
abbrev pub invariant-loop-freed : goal.invariant-loop-freed
invariant-loop-freed g l = record {
  holds : Holds (g.S.Store.chains l.store) l.self;
  waits : Waits (g.S.Store.chains l.store) l.self;
  sweeps : Sweeps l.horizon (g.S.Store.chains l.fn.store) (g.S.Store.chains l.store) l.fn.self l.self l.freed;
  keeps : KeepsRoom l.fn.self l.self;
  gone : l.freed ≤ prefix_len (is_gone l.horizon) (waiting_in l.fn.self);
  room : g.S.Store.room l.store ≡ g.S.Store.room l.fn.store + l.freed;
}
