use Rattle.std.proofs.Common.{◌≡◌, ◌≤◌, Some, ◌++◌, take, length, filter_map, vec_capacity}
use Rattle.std.specs.List.{All}
use Rattle.s4_parts.specs.Table.{chain_at}
use Rattle.s4_parts.proofs.Listing.{line_at}
use Rattle.s4_parts.proofs.parts.Parts.list_purse.Given as goal

-- the lines so far and those of the names that are left are the lines of all
abbrev pub invariant-loop-name : goal.invariant-loop-name
invariant-loop-name g l =
    let line = line_at (g.S.Store.chains l.store) (g.V.Visible.shown l.visible) l.at in
    record {
      fits : length l.lines.items ≤ 65;
      room : 65 ≤ vec_capacity l.lines;
      rest : take 65 (l.lines.items ++ filter_map line l.name-iterator) ≡ take 65 (l.initial.lines.items ++ filter_map line l.initial.name-iterator);
      mapped : All (λ e. chain_at l.self l.purse e.0 ≡ Some e.1.chain) l.name-iterator;
    }
