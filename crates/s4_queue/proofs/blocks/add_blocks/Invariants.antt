use Rattle.std.proofs.Common.{◌≡◌, ℕ, ◌-◌, ◌≤◌}
use Rattle.std.specs.VecDeque.{deque_len}
use Rattle.s4_queue.specs.Blocks.{AreFilled, items_of}
use Rattle.s4_queue.proofs.blocks.add_blocks.Given as goal

-- blocks were added, all of them empty
abbrev pub invariant-loop-alloc : goal.invariant-loop-alloc
invariant-loop-alloc g l = record {
  items : items_of l.blocks.items ≡ items_of l.fn.blocks.items;
  filled : (taken len : ℕ) → AreFilled taken len l.fn.blocks.items → AreFilled taken len l.blocks.items;
  grown : deque_len l.fn.blocks ≤ deque_len l.blocks;
}

abbrev pub decreases-loop-alloc : goal.decreases-loop-alloc
decreases-loop-alloc g l = l.count - deque_len l.blocks
