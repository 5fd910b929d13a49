-- For how long requests wait.
use Rattle.std.specs.Prelude.{ℕ, Bool, true, Option, Some, None, ◌+◌, nat_lt, if◌then◌else◌}
use Rattle.s4_sockets.specs.Records.{fit}
use Rattle.s4_sockets.specs.declared.hold.Awaited.{Awaited}
use Rattle.s4_sockets.specs.declared.hold.Awaited.TheVariants.{Room, Journal}
use Rattle.s4_sockets.specs.declared.hold.Hold.{Hold}
use Rattle.s4_sockets.specs.declared.hold.Hold.TheVariants.{Until, Unbounded}

-- whether a wait isn't over at a time
abbrev pub lasts_at : Hold → ℕ → Bool
lasts_at (Until end) now = nat_lt now end
lasts_at Unbounded now = true

-- how a request waits that awaits this, where it has waited so: for room a second from when it first has to, and for the journal without a bound
abbrev pub hold_of : Option Awaited → Option Hold → ℕ → Option Hold
hold_of None held now = None
hold_of (Some Journal) held now = Some Unbounded
hold_of (Some Room) (Some (Until end)) now = if nat_lt now end then Some (Until end) else None
hold_of (Some Room) (Some Unbounded) now = Some (Until (fit (now + 1000)))
hold_of (Some Room) None now = Some (Until (fit (now + 1000)))
