-- Values of which each has ended by the moment at which the next one begins: of these one at most is in force at a moment.
use Rattle.std.proofs.Common.{◌≡◌, ℕ, ◌≤◌, Bool, true, false, not, cond, Option, Some, None, List, [], ◌∷◌, refl, ◌∙◌, ap, subst, filter, nat_le, map, arith}
use Rattle.std.specs.Prelude.{◌&&◌, option_to_list}
use Rattle.std.proofs.lemmas.Bool.{le-leb, leb-true}
use Rattle.s4_types.specs.Versions.{Value, Span, end_at, ends_by, on_current, with_end, with_value, with_effect, erased, flushed_by, in_force_by}
use Rattle.s4_laws.specs.InForce.{is_in_force}
use Rattle.s4_laws.proofs.Strangers.{Each}
use Rattle.s4_laws.proofs.Old.{EndsBy, Old}

-- all values have ended by the moment
abbrev pub OverBy : {V : Type 0} → ℕ → List (Value V) → Type 0
OverBy n vs = Each (λ v. ends_by n v.end) vs

abbrev pub InTurn : {V : Type 0} → List (Value V) → Type 0
InTurn [] = Unit {0}
InTurn (v ∷ past) = OverBy v.begin past × InTurn past

ends-still : (n m : ℕ) (end : Option ℕ) → n ≤ m → ends_by n end ≡ true → ends_by m end ≡ true
ends-still n m None e f = cc
ends-still n m (Some x) e f = let g : x ≤ n = leb-true x n f in le-leb x m (omega (arith, e, g))

end-over : (m : ℕ) (end : Option ℕ) → EndsBy m end → ends_by m (end_at m end) ≡ true
end-over m None f = le-leb m m (omega arith)
end-over m (Some x) f = le-leb x m f

module _ {V : Type 0} where
  pub over-still : (n m : ℕ) (vs : List (Value V)) → n ≤ m → OverBy n vs → OverBy m vs
  over-still n m [] e s = tt
  over-still n m (v ∷ vs) e s = (ends-still n m v.end e s.0, over-still n m vs e s.1)

  -- ONE AT MOST

  none-in_force : (m : ℕ) (vs : List (Value V)) → OverBy m vs → filter (is_in_force m) vs ≡ []
  none-in_force m [] s = refl
  none-in_force m (v ∷ vs) s = of (nat_le v.begin m) (ends_by m v.end) s.0 (none-in_force m vs s.1)
    where
      of : (b c : Bool) → c ≡ true → filter (is_in_force m) vs ≡ [] → cond (b && not c) (v ∷ filter (is_in_force m) vs) (filter (is_in_force m) vs) ≡ []
      of true true e rest = rest
      of true false e rest = cc
      of false c e rest = rest

  pub only-in_force : (m : ℕ) (vs : List (Value V)) → InTurn vs → filter (is_in_force m) vs ≡ option_to_list (in_force_by m vs)
  only-in_force m [] s = refl
  only-in_force m (v ∷ past) s = of (nat_le v.begin m) (ends_by m v.end) (λ e. none-in_force m past (over-still v.begin m past (leb-true v.begin m e) s.0)) refl (only-in_force m past s.1)
    where
      of : (b c : Bool) → (nat_le v.begin m ≡ true → filter (is_in_force m) past ≡ []) → nat_le v.begin m ≡ b → filter (is_in_force m) past ≡ option_to_list (in_force_by m past)
          → cond (b && not c) (v ∷ filter (is_in_force m) past) (filter (is_in_force m) past) ≡ option_to_list (cond b (cond c None (Some v)) (in_force_by m past))
      of true true none e rest = none e
      of true false none e rest = ap (λ vs. v ∷ vs) (none e)
      of false c none e rest = rest

  -- the value, if there is one, is in force
  abbrev InForceThere : ℕ → Option (Value V) → Type 0
  InForceThere m None = Unit {0}
  InForceThere m (Some v) = is_in_force m v ≡ true

  found-in_force : (m : ℕ) (vs : List (Value V)) → InForceThere m (in_force_by m vs)
  found-in_force m [] = tt
  found-in_force m (v ∷ past) = of (nat_le v.begin m) (ends_by m v.end) refl refl (found-in_force m past)
    where
      of : (b c : Bool) → nat_le v.begin m ≡ b → ends_by m v.end ≡ c → InForceThere m (in_force_by m past) → InForceThere m (cond b (cond c None (Some v)) (in_force_by m past))
      of true true e f rest = tt
      of true false e f rest = ap (λ b. b && not (ends_by m v.end)) e ∙ ap not f
      of false c e f rest = rest

  pub bounds : (m : ℕ) (vs : List (Value V)) (v : Value V) → in_force_by m vs ≡ Some v → is_in_force m v ≡ true
  bounds m vs v e = subst (InForceThere m) e (found-in_force m vs)

  -- where none is in force, all have ended
  pub none-over : (m : ℕ) (vs : List (Value V)) → Old m vs → InTurn vs → in_force_by m vs ≡ None → OverBy m vs
  none-over m [] f s e = tt
  none-over m (v ∷ past) f s e =
      (of (ends_by m v.end) (ap (λ b. cond b (cond (ends_by m v.end) None (Some v)) (in_force_by m past)) (le-leb v.begin m f.0)) e, over-still v.begin m past f.0 s.0)
    where
      of : (c : Bool) → in_force_by m (v ∷ past) ≡ cond c None (Some v) → in_force_by m (v ∷ past) ≡ None → c ≡ true
      of true p q = refl
      of false p q = cc

  -- CHANGES

  pub old-still : (c d : ℕ) (us : List (Value V)) → c ≤ d → Old c us → Old d us
  old-still c d [] e f = tt
  old-still c d (u ∷ us) e f = (omega (arith, e, f.0), by-end u.end f.1, old-still c d us e f.2)
    where
      by-end : (end : Option ℕ) → EndsBy c end → EndsBy d end
      by-end None g = tt
      by-end (Some x) g = omega (arith, e, g)

  erased-over : (n : ℕ) (span : Span) (us : List (Value V)) → OverBy n us → OverBy n (map (erased span) us)
  erased-over n span [] s = tt
  erased-over n span (u ∷ us) s = (s.0, erased-over n span us s.1)

  erased-turn : (span : Span) (us : List (Value V)) → InTurn us → InTurn (map (erased span) us)
  erased-turn span [] s = tt
  erased-turn span (u ∷ us) s = (erased-over u.begin span us s.0, erased-turn span us s.1)

  pub flushed-turn : (span : Option Span) (is_flushed : Bool) (us : List (Value V)) → InTurn us → InTurn (flushed_by span is_flushed us)
  flushed-turn None is_flushed us s = s
  flushed-turn (Some span) true us s = erased-turn span us s
  flushed-turn (Some span) false us s = s

  pub end-turn : (m : ℕ) (us : List (Value V)) → InTurn us → InTurn (with_end m us)
  end-turn m [] s = tt
  end-turn m (u ∷ us) s = s

  value-turn : (m : ℕ) (next : Option V) (u : Value V) (us : List (Value V)) → Old m (u ∷ us) → InTurn (u ∷ us) → InTurn (with_value m next u us)
  value-turn m None u us f s = s
  value-turn m (Some x) u us f s = ((end-over m u.end f.1, over-still u.begin m us f.0 s.0), s)

  pub effect-turn : (m : ℕ) (effect : V → Option V) (us : List (Value V)) → Old m us → InTurn us → InTurn (with_effect m effect us)
  effect-turn m effect [] f s = tt
  effect-turn m effect (u ∷ us) f s = value-turn m (on_current effect u.end u.value) u us f s
