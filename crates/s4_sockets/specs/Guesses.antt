-- Failed logins.
use Rattle.std.specs.Prelude.{◌≡◌, ◌⊎◌, unwrap_or, ℕ, ◌+◌, ◌-◌, ◌^◌, min, nat_le, if◌then◌else◌, Option, Some, None}
use Rattle.s4_stream.specs.declared.event.SessionFault.{SessionFault}
use Rattle.s4_stream.specs.declared.event.SessionFault.TheVariants as fault
use Rattle.s4_sockets.specs.declared.attempts.Failures.{Failures}

-- Until when the answer waits to first words that ended by a fault now, in milliseconds: a second, where the login failed.
abbrev pub answered : Option SessionFault → ℕ → Option ℕ
answered (Some fault.BadLogin) now = Some (min (now + 1000) (2 ^ 64 - 1))
answered other now = None

abbrev pub no_failures : Failures
no_failures = record { count = 0; last = 0 }

-- The failed logins of a principal with one more, which comes now: anew, where the last one came a day ago.
abbrev pub next_of : Failures → ℕ → Failures
next_of old now =
    record { count = if nat_le 86400000 (now - old.last) then 1 else min (old.count + 1) (2 ^ 64 - 1); last = now }

-- One more failed login of a principal, which comes now, is counted with theirs, or with those of others where there is no memory for that.
abbrev pub IsCounted : (now : ℕ) (before after : Option Failures) (others_before others_after : ℕ) → Type 0
IsCounted now before after others_before others_after =
    ((after ≡ Some (next_of (unwrap_or before no_failures) now)) × (others_after ≡ others_before))
    ⊎ ((after ≡ before) × (others_after ≡ min (others_before + 1) (2 ^ 64 - 1)))
