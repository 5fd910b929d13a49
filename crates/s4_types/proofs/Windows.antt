-- The horizon never goes back.
use Rattle.std.proofs.Common.{◌≡◌, ℕ, ◌≤◌, cond, List, [], ◌∷◌, ◌++◌, sym, subst, arith}
use Rattle.std.proofs.lemmas.List.Sums.{fold-append}
use Rattle.s4_types.specs.declared.request.Request.{Request}
use Rattle.s4_types.specs.declared.request.Request.TheVariants.{SetWindow}
use Rattle.s4_types.specs.declared.record.Record.{Record}
use Rattle.s4_types.specs.Base.{Base}
use Rattle.s4_types.specs.Kinds.{concerns_all}
use Rattle.s4_types.specs.Horizon.{Guarded, horizon_of, windowed, windowed_by, guarded_after, guarded_at, horizon_at}
use Rattle.s4_types.proofs.Booleans.{by_test}

-- the record after the others
pub guarded-snoc : (base : Base) (h : List Record) (r : Record) → guarded_at base (h ++ r ∷ []) ≡ guarded_after (guarded_at base h) r
guarded-snoc base h r = fold-append guarded_after (record { window = base.window; floor = base.floor }) h (r ∷ [])

later-still : (g : Guarded) (t u : ℕ) → t ≤ u → horizon_of g t ≤ horizon_of g u
later-still g t u e = omega (arith, e)

pub windowed-later : (g : Guarded) (m ticks t u : ℕ) → t ≤ m → m ≤ u → horizon_of g t ≤ horizon_of (windowed m ticks g) u
windowed-later g m ticks t u e f = omega (arith, e, f)

by-later : (g : Guarded) (m : ℕ) (request : Request) (t u : ℕ) → t ≤ m → m ≤ u → horizon_of g t ≤ horizon_of (windowed_by m request g) u
by-later g m (SetWindow ticks) t u e f = windowed-later g m ticks t u e f
by-later g m _ t u e f = later-still g t u (omega (arith, e, f))

pub horizon_at-later : (base : Base) (h : List Record) (r : Record) (t u : ℕ) → t ≤ r.moment → r.moment ≤ u → horizon_at base h t ≤ horizon_at base (h ++ r ∷ []) u
horizon_at-later base h r t u e f = subst (λ g. horizon_of (guarded_at base h) t ≤ horizon_of g u) (sym (guarded-snoc base h r)) (by_test (concerns_all r)
    (λ c. subst (λ b. horizon_of (guarded_at base h) t ≤ horizon_of (cond b (windowed_by r.moment r.request (guarded_at base h)) (guarded_at base h)) u) (sym c) (by-later (guarded_at base h) r.moment r.request t u e f))
    (λ c. subst (λ b. horizon_of (guarded_at base h) t ≤ horizon_of (cond b (windowed_by r.moment r.request (guarded_at base h)) (guarded_at base h)) u) (sym c) (later-still (guarded_at base h) t u (omega (arith, e, f)))))
