-- How the items of a queue lie in its blocks.
use Rattle.std.specs.Prelude.{◌≡◌, ℕ, zero, suc, ◌+◌, ◌-◌, ◌*◌, ◌^◌, ◌<◌, ◌≤◌, min, List, [], ◌∷◌, length}
use Rattle.std.specs.List.{flat_map}
use Rattle.std.specs.declared.collections.VecDeque.{VecDeque}
use Rattle.std.specs.VecDeque.{deque_len, deque_capacity}

-- how many places a block has
abbrev pub block_size : ℕ
block_size = 64

-- what stands in the blocks, one behind the other
abbrev pub items_of : {T A : Type 0} → List (VecDeque T A) → List T
items_of blocks = flat_map (λ block. block.items) blocks

-- The blocks hold so many items in a row. So many places of the first block were given up, and each block is full up to the last item.
abbrev pub AreFilled : {T A : Type 0} → ℕ → ℕ → List (VecDeque T A) → Type 0
AreFilled taken len [] = len ≡ 0
AreFilled taken len (block ∷ blocks) = (deque_len block ≡ min len (block_size - taken)) × (block_size ≤ deque_capacity block)
    × AreFilled 0 (len - (block_size - taken)) blocks

-- the item of that index lies in that block, at that place
abbrev pub LiesAt : ℕ → ℕ → ℕ → ℕ → Type 0
LiesAt taken index zero place = (taken + index < block_size) × (place ≡ index)
LiesAt taken index (suc block) place = (block_size ≤ taken + index) × LiesAt 0 (taken + index - block_size) block place

-- what holds of the fields of a queue
pub record IsLaid {T A : Type 0} (blocks : List (VecDeque T A)) (taken len room : ℕ) : Type 0 where
  pub begun : taken < block_size
  pub filled : AreFilled taken len blocks
  -- even if the first item lay at the last place of the first block
  pub fits : len + room ≤ block_size * length blocks - (block_size - 1)
  pub few : len + room ≤ 2 ^ 62
