use Rattle.std.proofs.Common.{◌≡◌, ◌≤◌, take, flat_map, vec_capacity}
use Rattle.s4_types.specs.Answer.{purse_numbers}
use Rattle.s4_parts.specs.Page.{lines_in}
use Rattle.s4_parts.proofs.parts.Parts.list.Given as goal

-- the lines so far are those of the purses so far
abbrev pub invariant-loop-number : goal.invariant-loop-number
invariant-loop-number g l = record {
  room : 65 ≤ vec_capacity l.lines;
  lines : l.lines.items ≡ take 65 (flat_map (lines_in (g.S.Store.chains l.store) l.self (g.V.Visible.shown l.visible) l.range l.after l.at) (take l.number purse_numbers));
}
