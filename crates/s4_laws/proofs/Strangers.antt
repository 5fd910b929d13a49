-- What is left of a history without strangers, and that it says all that matters near and of all purses.
use Rattle.std.proofs.Common.{◌≡◌, ℕ, Bool, true, false, cond, not, ◌&&◌, ◌||◌, ◌==◌, Option, Some, None, List, [], ◌∷◌, ◌++◌, filter, refl, ap, sym, ◌∙◌}
use Rattle.s4_types.specs.declared.principal.Caller.{Caller}
use Rattle.s4_types.specs.declared.object.Purse.{Purse}
use Rattle.s4_types.specs.declared.record.Record.{Record}
use Rattle.s4_types.specs.declared.request.Request.{Request}
use Rattle.s4_types.specs.declared.request.Request.TheVariants.{Flush, SetWindow}
use Rattle.s4_laws.specs.Agree.{AgreeOn}
use Rattle.s4_types.specs.Kinds.{concerns, concerns_all, purse_of, only_reads, is_accepted, is_refused, is_about, is_wide}
use Rattle.s4_types.specs.Strike.{is_elsewhere}
use Rattle.s4_laws.specs.Kept.{is_kept, without_strangers}
use Rattle.s4_types.proofs.Booleans.{by_test, both}
use Rattle.s4_types.proofs.SameNames.{purse_is}

-- TESTS ON EACH ELEMENT

-- each element passes the test
abbrev pub Each : {A : Type 0} → (A → Bool) → List A → Type 0
Each test [] = Unit {0}
Each test (x ∷ xs) = (test x ≡ true) × Each test xs

pub each-snoc : {A : Type 0} (test : A → Bool) (xs : List A) (y : A) → Each test xs → test y ≡ true → Each test (xs ++ y ∷ [])
each-snoc test [] y s e = (e, tt)
each-snoc test (x ∷ xs) y s e = (s.0, each-snoc test xs y s.1 e)

pub each-filter : {A : Type 0} (test keep : A → Bool) (xs : List A) → Each test xs → Each test (filter keep xs)
each-filter test keep [] s = tt
each-filter test keep (x ∷ xs) s = of (keep x) (each-filter test keep xs s.1)
  where
    of : (b : Bool) → Each test (filter keep xs) → Each test (cond b (x ∷ filter keep xs) (filter keep xs))
    of true rest = (s.0, rest)
    of false rest = rest

-- a filter sees what another one keeps, where it asks for more
pub filter-filter : {A : Type 0} (p q : A → Bool) → ((x : A) → p x ≡ true → q x ≡ true) → (xs : List A) → filter p (filter q xs) ≡ filter p xs
filter-filter p q implies [] = refl
filter-filter p q implies (x ∷ xs) = of (p x) (q x) refl refl (filter-filter p q implies xs)
  where
    of : (px qx : Bool) → p x ≡ px → q x ≡ qx → filter p (filter q xs) ≡ filter p xs → filter p (cond qx (x ∷ filter q xs) (filter q xs)) ≡ cond px (x ∷ filter p xs) (filter p xs)
    of true true e f rest = rw e (ap (λ ys. x ∷ ys) rest)
    of true false e f rest = let bad : q x ≡ true = implies x e in cc
    of false true e f rest = rw e rest
    of false false e f rest = rest

-- BOOLEANS

pub not-true : (a : Bool) → not a ≡ true → a ≡ false
not-true true e = cc
not-true false e = refl

pub not-false : (a : Bool) → not a ≡ false → a ≡ true
not-false true e = refl
not-false false e = cc

pub either-false : (a b : Bool) → (a || b) ≡ false → (a ≡ false) × (b ≡ false)
either-false true b e = cc
either-false false b e = (refl, e)

pub and-false : (a b : Bool) → b ≡ false → (a && b) ≡ false
and-false true b e = e
and-false false b e = refl

kept-where : (mine reads away : Bool) → reads ≡ false → away ≡ false → not (not mine && (reads || away)) ≡ true
kept-where true reads away e f = refl
kept-where false reads away e f = rw (e, f) refl

-- WHAT IS KEPT

-- an accepted record that isn't elsewhere is kept
accepted-kept : (who : ℕ) (near : Purse → Bool) (r : Record) → is_accepted r ≡ true → is_elsewhere near (purse_of r.caller r.request) (is_wide r.caller r.request) ≡ false → is_kept who near r ≡ true
accepted-kept who near r a e =
    kept-where (r.caller.who == who) (only_reads r.request) (is_elsewhere near (purse_of r.caller r.request) (is_wide r.caller r.request))
    (not-true (only_reads r.request) (both (not (is_refused r.reply)) (not (only_reads r.request)) a).1)
    e

elsewhere-near : (near : Purse → Bool) (purse : Purse) (place : Option Purse) (wide : Bool) → near purse ≡ true → is_about purse place ≡ true → is_elsewhere near place wide ≡ false
elsewhere-near near purse (Some other) wide e f = ap (λ x. not (near x)) (purse_is other purse f) ∙ ap not e
elsewhere-near near purse None wide e f = cc

wide-has_no_purse : (caller : Caller) (request : Request) → is_wide caller request ≡ true → purse_of caller request ≡ None
wide-has_no_purse caller (Flush from to) e = refl
wide-has_no_purse caller (SetWindow ticks) e = refl
wide-has_no_purse caller _ e = cc

-- what is about all purses is elsewhere for nobody
wide-somewhere : (near : Purse → Bool) (caller : Caller) (request : Request) → is_wide caller request ≡ true → is_elsewhere near (purse_of caller request) (is_wide caller request) ≡ false
wide-somewhere near caller request e = ap (λ place. is_elsewhere near place (is_wide caller request)) (wide-has_no_purse caller request e) ∙ ap not e

-- what concerns a near purse is no stranger's
concerns-kept : (who : ℕ) (near : Purse → Bool) (purse : Purse) → near purse ≡ true → (r : Record) → concerns purse r ≡ true → is_kept who near r ≡ true
concerns-kept who near purse n r e =
    let parts = both (is_accepted r) (is_wide r.caller r.request || is_about purse (purse_of r.caller r.request)) e in
    accepted-kept who near r parts.0 (by_test (is_wide r.caller r.request)
    (λ wide. wide-somewhere near r.caller r.request wide)
    (λ one. elsewhere-near near purse (purse_of r.caller r.request) (is_wide r.caller r.request) n (sym (ap (λ b. b || is_about purse (purse_of r.caller r.request)) one) ∙ parts.1)))

-- nor is what concerns all purses
concerns_all-kept : (who : ℕ) (near : Purse → Bool) (r : Record) → concerns_all r ≡ true → is_kept who near r ≡ true
concerns_all-kept who near r e =
    let parts = both (is_wide r.caller r.request) (is_accepted r) e in
    accepted-kept who near r parts.1 (wide-somewhere near r.caller r.request parts.0)

-- WHAT IS LEFT SAYS ALL THAT MATTERS

pub near-agree : (who : ℕ) (near : Purse → Bool) (purse : Purse) (h : List Record) → near purse ≡ true → AgreeOn purse h (without_strangers who near h)
near-agree who near purse h n = sym (filter-filter (concerns purse) (is_kept who near) (concerns-kept who near purse n) h)

pub all-agree : (who : ℕ) (near : Purse → Bool) (h : List Record) → filter concerns_all h ≡ filter concerns_all (without_strangers who near h)
all-agree who near h = sym (filter-filter concerns_all (is_kept who near) (concerns_all-kept who near) h)
