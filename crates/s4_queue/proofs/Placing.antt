-- Where an item lies.
use Rattle.std.proofs.Common.{◌≡◌, ℕ, zero, suc, ◌+◌, ◌-◌, ◌*◌, ◌<◌, ◌≤◌, arith}
use Rattle.s4_queue.specs.Blocks.{LiesAt}

lies-whole : (k r i : ℕ) → i ≡ 64 * k + r → r < 64 → LiesAt 0 i k r
lies-whole zero r i e l = (omega arith, omega arith)
lies-whole (suc k) r i e l = (omega arith, lies-whole k r (0 + i - 64) (omega arith) l)

-- behind the first block the place is what is left
pub lies_behind : (taken index k r : ℕ) → taken + index ≡ 64 * k + r → r < 64 → 64 ≤ taken + index → LiesAt taken index k r
lies_behind taken index zero r e l n = absurd (omega arith)
lies_behind taken index (suc k) r e l n = (n, lies-whole k r (taken + index - 64) (omega arith) l)

-- and among so many blocks
pub lies_below : (taken index k r n : ℕ) → LiesAt taken index k r → taken + index < 64 * n → k < n
lies_below taken index zero r n at l = omega arith
lies_below taken index (suc k) r n at l =
    let rest = lies_below 0 (taken + index - 64) k r (n - 1) at.1 (let here = at.0 in omega arith) in
    omega arith
