-- The records that stay where the strangers' are left out.
use Rattle.std.specs.Prelude.{ℕ, Bool, not, List, filter}
use Rattle.s4_types.specs.declared.object.Purse.{Purse}
use Rattle.s4_types.specs.declared.record.Record.{Record}
use Rattle.s4_types.specs.Strike.{is_strangers}

-- whether the record isn't of a stranger's request
abbrev pub is_kept : ℕ → (Purse → Bool) → Record → Bool
is_kept who near r = not (is_strangers who near r.caller r.request)

-- the records without those of strangers' requests, where near tells which purses are near
abbrev pub without_strangers : ℕ → (Purse → Bool) → List Record → List Record
without_strangers who near h = filter (is_kept who near) h
