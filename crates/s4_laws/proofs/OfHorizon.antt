-- Which records the horizon depends on.
use Rattle.std.proofs.Common.{◌≡◌, ℕ, Bool, true, false, cond, refl, List, sym, ◌∙◌, ap, filter}
use Rattle.std.specs.Prelude.{◌&&◌, ◌||◌}
use Rattle.s4_types.specs.declared.record.Record.{Record}
use Rattle.s4_types.specs.Base.{Base}
use Rattle.s4_types.specs.declared.object.Purse.{Purse}
use Rattle.s4_types.specs.Kinds.{is_accepted, is_wide, is_about, concerns, concerns_all, purse_of}
use Rattle.s4_types.specs.Horizon.{horizon_of, windowed_by, guarded_after, guarded_at, horizon_at}
use Rattle.s4_laws.specs.Agree.{AgreeOn}
use Rattle.s4_laws.proofs.OfPurse.{fold-filter}

guarded-filter : (base : Base) (h : List Record) → guarded_at base (filter concerns_all h) ≡ guarded_at base h
guarded-filter base h = fold-filter concerns_all guarded_after (λ guarded r e. ap (λ b. cond b (windowed_by r.moment r.request guarded) guarded) e) (record { window = base.window; floor = base.floor }) h

pub horizon_at-agree : (base : Base) (t : ℕ) (h k : List Record) → filter concerns_all h ≡ filter concerns_all k → horizon_at base h t ≡ horizon_at base k t
horizon_at-agree base t h k e = ap (λ g. horizon_of g t) (sym (guarded-filter base h) ∙ ap (guarded_at base) e ∙ guarded-filter base k)

-- whatever concerns all purses concerns each of them
all_or_one : (accepted wide about : Bool) → (accepted && (wide || about)) ≡ false → (wide && accepted) ≡ false
all_or_one true true about e = cc
all_or_one true false about e = refl
all_or_one false true about e = refl
all_or_one false false about e = refl

guarded-in-purse : (base : Base) (purse : Purse) (h : List Record) → guarded_at base (filter (concerns purse) h) ≡ guarded_at base h
guarded-in-purse base purse h = fold-filter (concerns purse) guarded_after
    (λ guarded r e. ap (λ b. cond b (windowed_by r.moment r.request guarded) guarded) (all_or_one (is_accepted r) (is_wide r.caller r.request) (is_about purse (purse_of r.caller r.request)) e))
    (record { window = base.window; floor = base.floor }) h

-- so the records of one purse tell the horizon
pub horizon_at-of-purse : (base : Base) (purse : Purse) (t : ℕ) (h k : List Record) → AgreeOn purse h k → horizon_at base h t ≡ horizon_at base k t
horizon_at-of-purse base purse t h k e = ap (λ g. horizon_of g t) (sym (guarded-in-purse base purse h) ∙ ap (guarded_at base) e ∙ guarded-in-purse base purse k)
