use Rattle.std.proofs.Common.{◌≡◌, ◌-◌, [], ◌∷◌, vec_len, vec_capacity}
use Rattle.s4_calls.specs.Hands.{hand}
use Rattle.s4_pool.proofs.locks.open_locks.Given as goal

abbrev pub invariant-loop-number : goal.invariant-loop-number
invariant-loop-number g l = (vec_len l.locks ≡ l.number)
    × (vec_capacity l.locks ≡ l.count)
    × (l.token.hands ≡ hand (64 - l.number) (l.count - l.number) l.number [] [] ∷ [])
    × (l.token.ledger ≡ g.N.Names.ledger)
