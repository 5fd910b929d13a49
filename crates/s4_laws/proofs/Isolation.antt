-- A run without strangers is the run without the strangers' records.
use Rattle.std.proofs.Common.{◌≡◌, ◌≤◌, ℕ, Bool, true, false, cond, not, ◌||◌, ◌==◌, List, [], ◌∷◌, ◌++◌, filter, refl, ap, sym, ◌∙◌, arith, append-nil}
use Rattle.std.specs.List.{list_any}
use Rattle.std.proofs.lemmas.List.Elements.{filter-append}
use Rattle.s4_types.specs.declared.principal.Caller.{Caller}
use Rattle.s4_types.specs.declared.object.Purse.{Purse}
use Rattle.s4_types.specs.declared.record.Record.{Record}
use Rattle.s4_types.specs.declared.record.Step.{Step}
use Rattle.s4_types.specs.declared.record.Step.TheVariants as step
use Rattle.s4_types.specs.declared.request.Request.{Request}
use Rattle.s4_types.specs.Base.{Base, opened}
use Rattle.s4_types.specs.Judgement.{reaches}
use Rattle.s4_types.specs.Outcome.{reply_of}
use Rattle.s4_types.specs.Answer.{outcome}
use Rattle.s4_types.specs.Play.{play, play_on, record_of, NeverDown}
use Rattle.s4_types.specs.Strike.{names_in, is_near, is_strangers, stays, strike, records_of}
use Rattle.s4_laws.specs.Kept.{is_kept, without_strangers}
use Rattle.s4_types.proofs.Booleans.{||-true}
use Rattle.s4_laws.proofs.Strangers.{Each, each-snoc, filter-filter}
use Rattle.s4_laws.proofs.Unnamed.{is_sound, KeptWithout, IsUnnamed}
use Rattle.s4_laws.proofs.Pages.{KnowsOwn}
use Rattle.s4_laws.proofs.KeptAnswer.{outcome-same}
use Rattle.s4_laws.proofs.Sound.{is_covered, sound-step, covered-steps}

-- the record of one request, where it is kept, is the one that the kept records give
kept-step : (who : ℕ) (near : Purse → Bool) (base : Base) (t : ℕ) (caller : Caller) (request : Request) (h : List Record) (rest : List Step) (b : Bool) → is_strangers who near caller request ≡ b → (b ≡ false → outcome base h t caller request ≡ outcome base (without_strangers who near h) t caller request) → play_on base (without_strangers who near (h ++ record_of base h t caller request ∷ [])) rest ≡ play_on base (without_strangers who near h) (cond (not b) (step.Request t caller request ∷ rest) rest)
kept-step who near base t caller request h rest true e same =
    ap (λ k. play_on base k rest)
    (filter-append (is_kept who near) h (record_of base h t caller request ∷ []) ∙ rw e (append-nil (without_strangers who near h)))
kept-step who near base t caller request h rest false e same =
    ap (λ k. play_on base k rest)
    (filter-append (is_kept who near) h (record_of base h t caller request ∷ []) ∙ rw e refl
    ∙ ap (λ made. without_strangers who near h ++ record { moment = t; caller = caller; request = request; reply = reply_of made } ∷ []) (same refl))

isolate : (who : ℕ) (near : Purse → Bool) (base : Base) → KnowsOwn who near → (who == 0) ≡ false → (steps : List Step) (h : List Record) → IsUnnamed who near base h → Each (is_covered who near) steps → without_strangers who near (play_on base h steps) ≡ play_on base (without_strangers who near h) (filter (stays who near) steps)
isolate who near base own z [] h s c = refl
isolate who near base own z (step.Sweep n ∷ steps) h s c = isolate who near base own z steps h s c.1
isolate who near base own z (step.Request t caller request ∷ steps) h s c =
    isolate who near base own z steps (h ++ record_of base h t caller request ∷ [])
    (record { kept = s.kept; sound = each-snoc (is_sound who near) h (record_of base h t caller request) s.sound (sound-step who near base t caller request h (caller.who == who) refl own z c.0 s) }) c.1
    ∙ kept-step who near base t caller request h (filter (stays who near) steps) (is_strangers who near caller request) refl
    (λ e. outcome-same who near base t caller request h (caller.who == who) refl e own z s)

-- the records of a run without those of strangers' requests are those of the run without strangers
play-without : (base : Base) (who : ℕ) (steps : List Step) → KeptWithout who (is_near who steps) base → (who == 0) ≡ false → play base (strike who steps) ≡ without_strangers who (is_near who steps) (play base steps)
play-without base who steps kept z =
    sym (isolate who (is_near who steps) base
    (λ purse e. ap (λ b. b || list_any (names_in who purse) steps) e)
    z steps [] (record { kept = kept; sound = tt })
    (covered-steps who (is_near who steps) steps (λ purse e. ap (λ b. reaches who purse.creator || b) e ∙ ||-true (reaches who purse.creator))))

-- a fresh drive keeps no ACL
pub play-strike : (window who : ℕ) (steps : List Step) → (who == 0) ≡ false → play (opened window) (strike who steps) ≡ without_strangers who (is_near who steps) (play (opened window) steps)
play-strike window who steps z = play-without (opened window) who steps (λ o away. tt) z

-- the principal's own records are kept
own-kept : (who : ℕ) (near : Purse → Bool) (h : List Record) → records_of who (without_strangers who near h) ≡ records_of who h
own-kept who near h = filter-filter (λ r. r.caller.who == who) (is_kept who near) (λ r e. rw e refl) h

pub records-strike : (window who : ℕ) (steps : List Step) → (who == 0) ≡ false → records_of who (play (opened window) (strike who steps)) ≡ records_of who (play (opened window) steps)
records-strike window who steps z = ap (records_of who) (play-strike window who steps z) ∙ own-kept who (is_near who steps) (play (opened window) steps)

-- MOMENTS

from-earlier : (from t : ℕ) (steps : List Step) → from ≤ t → NeverDown t steps → NeverDown from steps
from-earlier from t [] e d = tt
from-earlier from t (step.Sweep n ∷ steps) e d = from-earlier from t steps e d
from-earlier from t (step.Request m caller request ∷ steps) e d = (omega (arith, e, d.0), d.1)

pub never_down-filter : (keep : Step → Bool) (from : ℕ) (steps : List Step) → NeverDown from steps → NeverDown from (filter keep steps)
never_down-filter keep from [] d = tt
never_down-filter keep from (step.Sweep n ∷ steps) d = of (keep (step.Sweep n)) (never_down-filter keep from steps d)
  where
    of : (b : Bool) → NeverDown from (filter keep steps) → NeverDown from (cond b (step.Sweep n ∷ filter keep steps) (filter keep steps))
    of true rest = rest
    of false rest = rest
never_down-filter keep from (step.Request t caller request ∷ steps) d = of (keep (step.Request t caller request)) (never_down-filter keep t steps d.1)
  where
    of : (b : Bool) → NeverDown t (filter keep steps) → NeverDown from (cond b (step.Request t caller request ∷ filter keep steps) (filter keep steps))
    of true rest = (d.0, rest)
    of false rest = from-earlier from t (filter keep steps) d.0 rest
