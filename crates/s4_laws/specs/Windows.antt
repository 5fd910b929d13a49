-- The horizon by the rule: each window that was set, and the horizons that it kept.
use Rattle.std.specs.Prelude.{ℕ, ◌-◌, max, Option, Some, None, List, [], ◌∷◌, fold, unwrap_or, if◌then◌else◌}
use Rattle.s4_types.specs.declared.request.Request.{Request}
use Rattle.s4_types.specs.declared.request.Request.TheVariants.{SetWindow}
use Rattle.s4_types.specs.declared.record.Record.{Record}
use Rattle.s4_types.specs.Kinds.{concerns_all}
use Rattle.s4_types.specs.Base.{Base}

abbrev pub ticks_of : Request → Option ℕ
ticks_of (SetWindow ticks) = Some ticks
ticks_of _ = None

-- the ticks of the window that the record sets, where it is an accepted SetWindow
abbrev pub ticks_set : Record → Option ℕ
ticks_set r = if concerns_all r then ticks_of r.request else None

-- the window in force behind the records: the one set last
abbrev pub newest_window : ℕ → List Record → ℕ
newest_window window [] = window
newest_window window (r ∷ h) = newest_window (unwrap_or (ticks_set r) window) h

abbrev pub moment_less : ℕ → ℕ → Option ℕ → List ℕ → List ℕ
moment_less m window None horizons = horizons
moment_less m window (Some ticks) horizons = (m - window) ∷ horizons

-- of each accepted SetWindow its moment less the window in force before it
abbrev pub horizons_kept : ℕ → List Record → List ℕ
horizons_kept window [] = []
horizons_kept window (r ∷ h) = moment_less r.moment window (ticks_set r) (horizons_kept (unwrap_or (ticks_set r) window) h)

-- the greatest of the base's floor, of the horizons that were kept, and of the moment less the newest window
abbrev pub horizon_by_rule : Base → List Record → ℕ → ℕ
horizon_by_rule base h t = max (fold max base.floor (horizons_kept base.window h)) (t - newest_window base.window h)
