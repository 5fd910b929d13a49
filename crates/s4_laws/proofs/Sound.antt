-- No request of a run makes an entry that can serve a principal in a purse in which nobody else named it or everyone.
use Rattle.std.proofs.Common.{◌≡◌, ℕ, Bool, true, false, not, ◌&&◌, ◌||◌, ◌==◌, List, [], ◌∷◌, refl, ap, sym, ◌∙◌, subst}
use Rattle.std.specs.List.{list_any}
use Rattle.std.proofs.lemmas.Bool.{eqb-true}
use Rattle.s4_types.specs.declared.principal.Caller.{Caller}
use Rattle.s4_types.specs.declared.object.Purse.{Purse}
use Rattle.s4_types.specs.declared.object.ObjectId.{ObjectId}
use Rattle.s4_types.specs.declared.record.Record.{Record}
use Rattle.s4_types.specs.declared.record.Step.{Step}
use Rattle.s4_types.specs.declared.record.Step.TheVariants as step
use Rattle.s4_types.specs.declared.request.Request.{Request}
use Rattle.s4_types.specs.declared.request.Request.TheVariants.{SetAcl}
use Rattle.s4_types.specs.Base.{Base}
use Rattle.s4_types.specs.Names.{same_purse}
use Rattle.s4_types.specs.Kinds.{is_accepted, is_refused}
use Rattle.s4_types.specs.Judgement.{reaches}
use Rattle.s4_types.specs.Outcome.{reply_of}
use Rattle.s4_types.specs.Play.{record_of}
use Rattle.s4_types.specs.Strike.{names_in}
use Rattle.s4_types.proofs.Booleans.{||-true}
use Rattle.s4_types.proofs.SameNames.{purse_self}
use Rattle.s4_laws.proofs.Strangers.{Each, not-true, and-false}
use Rattle.s4_laws.proofs.Unnamed.{is_sound, names_elsewhere, IsUnnamed}
use Rattle.s4_laws.proofs.Far.{Seen, outcome-far}
use Rattle.s4_laws.proofs.Pages.{KnowsOwn, far-of}

-- whether the step is the principal's own, or names neither it nor everyone in a purse that isn't near
abbrev pub is_covered : ℕ → (Purse → Bool) → Step → Bool
is_covered who near (step.Sweep n) = true
is_covered who near (step.Request t caller request) = (caller.who == who) || not (names_elsewhere who near request)

-- a request that names neither the principal nor everyone elsewhere leaves a sound record
sound-unnamed : (who : ℕ) (near : Purse → Bool) (base : Base) (t : ℕ) (caller : Caller) (request : Request) (h : List Record) → names_elsewhere who near request ≡ false → is_sound who near (record_of base h t caller request) ≡ true
sound-unnamed who near base t caller request h e =
    ap not (and-false (is_accepted (record_of base h t caller request)) (names_elsewhere who near request) e)

-- nor does the principal get itself an entry there: it is denied
sound-set : (near : Purse → Bool) (base : Base) (t : ℕ) (caller : Caller) (o : ObjectId) (user rights : ℕ) (h : List Record) (b : Bool) → near o.purse ≡ b → KnowsOwn caller.who near → (caller.who == 0) ≡ false → Seen near base caller h → is_sound caller.who near (record_of base h t caller (SetAcl o user rights)) ≡ true
sound-set near base t caller o user rights h true n own z s =
    sound-unnamed caller.who near base t caller (SetAcl o user rights) h (and-false (reaches caller.who user) (not (near o.purse)) (ap not n))
sound-set near base t caller o user rights h false n own z s =
    ap (λ made. not ((not (is_refused (reply_of made)) && true) && names_elsewhere caller.who near (SetAcl o user rights)))
    (outcome-far near base h t caller (SetAcl o user rights) (far-of near caller o.purse own z n) s)

sound-own : (near : Purse → Bool) (base : Base) (t : ℕ) (caller : Caller) (request : Request) (h : List Record) → KnowsOwn caller.who near → (caller.who == 0) ≡ false → Seen near base caller h → is_sound caller.who near (record_of base h t caller request) ≡ true
sound-own near base t caller (SetAcl o user rights) h own z s = sound-set near base t caller o user rights h (near o.purse) refl own z s
sound-own near base t caller request h own z s = sound-unnamed caller.who near base t caller request h refl

pub sound-step : (who : ℕ) (near : Purse → Bool) (base : Base) (t : ℕ) (caller : Caller) (request : Request) (h : List Record) (mine : Bool) → (caller.who == who) ≡ mine → KnowsOwn who near → (who == 0) ≡ false → is_covered who near (step.Request t caller request) ≡ true → IsUnnamed who near base h → is_sound who near (record_of base h t caller request) ≡ true
sound-step who near base t caller request h true e own z c s =
    subst (λ x. KnowsOwn x near → (x == 0) ≡ false → IsUnnamed x near base h → is_sound x near (record_of base h t caller request) ≡ true)
    (eqb-true caller.who who e) (sound-own near base t caller request h) own z s
sound-step who near base t caller request h false e own z c s =
    sound-unnamed who near base t caller request h (not-true (names_elsewhere who near request) (sym (ap (λ b. b || not (names_elsewhere who near request)) e) ∙ c))

-- EACH STEP IS COVERED

covered-set : (who t : ℕ) (near : Purse → Bool) (caller : Caller) (o : ObjectId) (user rights : ℕ) → (names_in who o.purse (step.Request t caller (SetAcl o user rights)) ≡ true → near o.purse ≡ true) → is_covered who near (step.Request t caller (SetAcl o user rights)) ≡ true
covered-set who t near caller o user rights named =
    of (caller.who == who) (reaches who user) (near o.purse) refl
    (λ m u. named (ap (λ b. not b && same_purse o.purse o.purse && reaches who user) m ∙ ap (λ b. b && reaches who user) (purse_self o.purse) ∙ u))
    refl refl
  where
    of : (mine theirs n : Bool) → near o.purse ≡ n → ((caller.who == who) ≡ false → reaches who user ≡ true → near o.purse ≡ true) → (caller.who == who) ≡ mine → reaches who user ≡ theirs → (mine || not (theirs && not n)) ≡ true
    of true theirs n e near_it f g = refl
    of false false n e near_it f g = refl
    of false true true e near_it f g = refl
    of false true false e near_it f g = let yes : near o.purse ≡ true = near_it f g in cc

covered-step : (who : ℕ) (near : Purse → Bool) (s : Step) → ((purse : Purse) → names_in who purse s ≡ true → near purse ≡ true) → is_covered who near s ≡ true
covered-step who near (step.Sweep n) named = refl
covered-step who near (step.Request t caller (SetAcl o user rights)) named = covered-set who t near caller o user rights (named o.purse)
covered-step who near (step.Request t caller request) named = ||-true (caller.who == who)

pub covered-steps : (who : ℕ) (near : Purse → Bool) (steps : List Step) → ((purse : Purse) → list_any (names_in who purse) steps ≡ true → near purse ≡ true) → Each (is_covered who near) steps
covered-steps who near [] named = tt
covered-steps who near (s ∷ steps) named = (
  covered-step who near s (λ purse e. named purse (ap (λ b. b || list_any (names_in who purse) steps) e)),
  covered-steps who near steps (λ purse e. named purse (ap (λ b. names_in who purse s || b) e ∙ ||-true (names_in who purse s))),
)
