-- The horizon is the one that the rule gives.
use Rattle.std.proofs.Common.{◌≡◌, ℕ, true, false, Option, Some, None, List, [], ◌∷◌, refl, ◌∙◌, ap, fold, max, unwrap_or}
use Rattle.std.specs.Prelude.{◌-◌, if◌then◌else◌}
use Rattle.s4_types.specs.declared.request.Request.{Request}
use Rattle.s4_types.specs.declared.request.Request.TheVariants.{SetWindow}
use Rattle.s4_types.specs.declared.record.Record.{Record}
use Rattle.s4_types.specs.Kinds.{concerns_all}
use Rattle.s4_types.specs.Base.{Base}
use Rattle.s4_types.specs.Horizon.{Guarded, horizon_of, windowed_by, guarded_after, horizon_at}
use Rattle.s4_laws.specs.Windows.{ticks_of, ticks_set, newest_window, moment_less, horizons_kept, horizon_by_rule}

-- what is guarded, from a window and a floor
abbrev ruled : ℕ → ℕ → List Record → Guarded
ruled window floor h = record { window = newest_window window h; floor = fold max floor (horizons_kept window h) }

abbrev set_to : ℕ → ℕ → ℕ → Option ℕ → Guarded
set_to m window floor ticks = record { window = unwrap_or ticks window; floor = fold max floor (moment_less m window ticks []) }

windowed-ticks : (m window floor : ℕ) (request : Request) → windowed_by m request (record { window = window; floor = floor }) ≡ set_to m window floor (ticks_of request)
windowed-ticks m window floor (SetWindow ticks) = refl
windowed-ticks m window floor request = refl

step-ticks : (window floor : ℕ) (r : Record) → guarded_after (record { window = window; floor = floor }) r ≡ set_to r.moment window floor (ticks_set r)
step-ticks window floor r = elim (concerns_all r) as (λ b. (if b then windowed_by r.moment r.request (record { window = window; floor = floor }) else (record { window = window; floor = floor })) ≡ set_to r.moment window floor (if b then ticks_of r.request else None)) [
  | true ↦ windowed-ticks r.moment window floor r.request
  | false ↦ refl
]

by-ticks : (m window floor : ℕ) (h : List Record) (ticks : Option ℕ) → ((w f : ℕ) → fold guarded_after (record { window = w; floor = f }) h ≡ ruled w f h)
    → fold guarded_after (set_to m window floor ticks) h ≡ record { window = newest_window (unwrap_or ticks window) h; floor = fold max floor (moment_less m window ticks (horizons_kept (unwrap_or ticks window) h)) }
by-ticks m window floor h None rest = rest window floor
by-ticks m window floor h (Some ticks) rest = rest ticks (max floor (m - window))

guarded-ruled : (window floor : ℕ) (h : List Record) → fold guarded_after (record { window = window; floor = floor }) h ≡ ruled window floor h
guarded-ruled window floor [] = refl
guarded-ruled window floor (r ∷ h) = ap (λ g. fold guarded_after g h) (step-ticks window floor r) ∙ by-ticks r.moment window floor h (ticks_set r) (λ w f. guarded-ruled w f h)

pub horizon_at-rule : (base : Base) (h : List Record) (t : ℕ) → horizon_at base h t ≡ horizon_by_rule base h t
horizon_at-rule base h t = ap (λ g. horizon_of g t) (guarded-ruled base.window base.floor h)
