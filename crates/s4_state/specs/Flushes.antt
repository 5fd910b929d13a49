-- What flushes are, and what a record takes back of a purse's charges.
use Rattle.std.specs.Prelude.{◌≡◌, ℕ, ◌+◌, ◌≤◌, Bool, true, false, List, [], ◌∷◌, ◌++◌, sum_by, if◌then◌else◌}
use Rattle.s4_types.specs.declared.object.Purse.{Purse}
use Rattle.s4_types.specs.declared.request.Request.{Request}
use Rattle.s4_types.specs.declared.request.Request.TheVariants.{Flush, FlushO}
use Rattle.s4_types.specs.declared.record.Record.{Record}
use Rattle.s4_types.specs.Answer.{made_past}
use Rattle.s4_types.specs.Kinds.{concerns}
use Rattle.s4_types.specs.Base.{Base}
use Rattle.s4_objects.specs.declared.flushes.Refund.{Refund}
use Rattle.s4_objects.specs.Flushes.{refunded}
use Rattle.s4_state.specs.Weights.{purse_weight}

-- whether the request asks for a flush
abbrev pub is_flush : Request → Bool
is_flush (Flush from to) = true
is_flush (FlushO o from to) = true
is_flush _ = false

-- a weight by which what ended by the moment weighs nothing
abbrev pub IsNothingBy : ℕ → (ℕ → ℕ → ℕ) → Type 0
IsNothingBy m weight = (end cost : ℕ) → end ≤ m → weight end cost ≡ 0

-- what the purse's past weighs more once the record stands, and what is refunded, is what the record makes past
abbrev pub IsCharged : Base → (ℕ → ℕ → ℕ) → Purse → List Record → Record → List Refund → Type 0
IsCharged base weight p h r refunds =
    purse_weight base weight p (h ++ r ∷ []) + refunded weight p refunds
    ≡ purse_weight base weight p h + (if concerns p r then sum_by (weight r.moment) (made_past base h r.moment r.request) else 0)
