-- Scripts that are read line by line.
use Rattle.std.proofs.Common.{◌≡◌, ◌+◌, ◌++◌, ◌∷◌, [], ℕ, List, Bool, true, false, Option, None, Some, cond, filter, map, unwrap_or, refl, sym, ap, subst, ◌∙◌, append_assoc, append-nil, arith, Result, Ok, Err, OnOk, IfSome}
use Rattle.std.specs.List.{enumerate_from}
use Rattle.std.specs.Option.{option_map}
use Rattle.s4_types.specs.Strike.{is_near, stays}
use Rattle.s4_types.specs.declared.principal.WireVersion.{WireVersion}
use Rattle.s4_types.specs.declared.record.Step.{Step}
use Rattle.s4_script.specs.Readings.{line_in_text, opening_in_text}
use Rattle.s4_script.specs.declared.line.Line.{Line}
use Rattle.s4_script.specs.declared.opening.Opening.{Opening}
use Rattle.s4_run.specs.Scripts.{Begins, ReadsScript}
use Rattle.s4_run.specs.Struck.{asked_by, asked_first, asked_in, asked_of, asked_text, in_front, line_text, lines_text, steps_of, struck, struck_behind, struck_lines, struck_text}
use Rattle.s4_run.specs.declared.strike.AskingLine.{AskingLine}
use Rattle.s4_run.specs.declared.strike.Script.{Script}

-- lines without their numbers
abbrev pub unnumbered : List (ℕ × List ℕ) → List (List ℕ)
unnumbered lines = map (λ l. l.1) lines

pub unnumbered-enumerate : (n : ℕ) (texts : List (List ℕ)) → unnumbered (enumerate_from n texts) ≡ texts
unnumbered-enumerate n [] = refl
unnumbered-enumerate n (text ∷ texts) = ap (λ others. text ∷ others) (unnumbered-enumerate (n + 1) texts)

-- the script was read of the lines in front of these
pub record IsGoing (who : ℕ) (all : List (List ℕ)) (left : List (ℕ × List ℕ)) (script : Script) : Type 0 where
  pub first : List ℕ
  pub further : List (List ℕ)
  pub all_is : all ≡ first ∷ further
  pub who_is : script.who ≡ who
  pub window_is : script.window.now ≡ first
  pub version_is : option_map (λ opening. opening.version) (opening_in_text first) ≡ Some script.version
  pub asked_is : asked_in script.version further ≡ in_front (asked_of script.requests.items) (asked_in script.version (unnumbered left))

in_front-nil : (others : Option (List (Step × List ℕ))) → in_front [] others ≡ others
in_front-nil None = refl
in_front-nil (Some asked) = refl

in_front-append : (xs ys : List (Step × List ℕ)) (others : Option (List (Step × List ℕ))) → in_front (xs ++ ys) others ≡ in_front xs (in_front ys others)
in_front-append xs ys None = refl
in_front-append xs ys (Some zs) = ap Some (append_assoc xs ys zs)

-- one line more
asked_step : (told : Option Line) (text : List ℕ) (old new : List (Step × List ℕ)) (others : Option (List (Step × List ℕ)))
    → option_map (λ t. old ++ asked_by t text) told ≡ Some new → in_front old (asked_first told text others) ≡ in_front new others
asked_step None text old new others h = absurd (grind (arith, h))
asked_step (Some told) text old new others h =
    sym (in_front-append old (asked_by told text) others) ∙ ap (λ (o : Option (List (Step × List ℕ))). in_front (unwrap_or o []) others) h

module _ (who : ℕ) (all : List (List ℕ)) where
  -- the first line begins a script
  pub going_first : (numbered : List (ℕ × List ℕ)) (first : ℕ × List ℕ) (left : List (ℕ × List ℕ)) (script : Script)
      → numbered ≡ first ∷ left → unnumbered numbered ≡ all → Begins who first.1 script → IsGoing who all left script
  going_first numbered first left script is same begins = record {
    first = first.1;
    further = unnumbered left;
    all_is = sym same ∙ ap unnumbered is;
    who_is = begins.who_is;
    window_is = begins.window_is;
    version_is = begins.version_is;
    asked_is = sym (in_front-nil (asked_in script.version (unnumbered left))) ∙ ap (λ xs. in_front xs (asked_in script.version (unnumbered left))) (sym begins.asked_is);
  }

  -- a further line goes on
  pub going_on : (line : ℕ × List ℕ) (left : List (ℕ × List ℕ)) (old new : Script)
      → IsGoing who all (line ∷ left) old
      → new.who ≡ old.who → new.version ≡ old.version → new.window.now ≡ old.window.now
      → option_map (λ told. asked_of old.requests.items ++ asked_by told line.1) (line_in_text old.version line.1) ≡ Some (asked_of new.requests.items)
      → IsGoing who all left new
  going_on line left old new h who_same version_same window_same kept = record {
    first = h.first;
    further = h.further;
    all_is = h.all_is;
    who_is = who_same ∙ h.who_is;
    window_is = window_same ∙ h.window_is;
    version_is = h.version_is ∙ ap Some (sym version_same);
    asked_is = subst (λ v. asked_in v h.further ≡ in_front (asked_of new.requests.items) (asked_in v (unnumbered left))) (sym version_same)
        (h.asked_is ∙ asked_step (line_in_text old.version line.1) line.1 (asked_of old.requests.items) (asked_of new.requests.items) (asked_in old.version (unnumbered left)) kept);
  }

  -- where no line is left it is the script of all
  pub going_end : (script : Script) → IsGoing who all [] script → ReadsScript who all (Some script)
  going_end script h = subst (λ texts. ReadsScript who texts (Some script)) (sym h.all_is) (record {
    who_is = h.who_is;
    window_is = h.window_is;
    version_is = h.version_is;
    asked_is = h.asked_is ∙ ap Some (append-nil (asked_of script.requests.items));
  })

-- WHAT IS WRITTEN OF IT

lines_kept : (b : Bool) (x : AskingLine) (xs : List AskingLine) (asked : List (Step × List ℕ)) → lines_text xs ≡ asked_text asked
    → lines_text (cond b (x ∷ xs) xs) ≡ asked_text (cond b ((x.step, x.line.now) ∷ asked) asked)
lines_kept true x xs asked h = ap (λ text. line_text x.line.now ++ text) h
lines_kept false x xs asked h = h

lines_filtered : (test : Step → Bool) (xs : List AskingLine) → lines_text (filter (λ l. test l.step) xs) ≡ asked_text (filter (λ a. test a.0) (asked_of xs))
lines_filtered test [] = refl
lines_filtered test (x ∷ xs) = lines_kept (test x.step) x (filter (λ l. test l.step) xs) (filter (λ a. test a.0) (asked_of xs)) (lines_filtered test xs)

steps_asked : (xs : List AskingLine) → steps_of xs ≡ map (λ b. b.0) (asked_of xs)
steps_asked [] = refl
steps_asked (x ∷ xs) = ap (λ steps. x.step ∷ steps) (steps_asked xs)

-- what is left of the lines is what is left of what they ask
pub lines_struck : (who : ℕ) (xs : List AskingLine) → lines_text (struck_lines who xs) ≡ asked_text (struck who (asked_of xs))
lines_struck who xs =
    lines_filtered (λ s. stays who (is_near who (steps_of xs)) s) xs
    ∙ ap (λ steps. asked_text (filter (λ a. stays who (is_near who steps) a.0) (asked_of xs))) (steps_asked xs)

struck_opened : (who : ℕ) (first : List ℕ) (further : List (List ℕ)) (script : Script) (opening : Option Opening)
    → option_map (λ o. o.version) opening ≡ Some script.version → asked_in script.version further ≡ Some (asked_of script.requests.items)
    → struck_behind who first opening further ≡ Some (line_text first ++ asked_text (struck who (asked_of script.requests.items)))
struck_opened who first further script None version is = absurd (grind (arith, version))
struck_opened who first further script (Some opening) version is =
    ap (option_map (λ asked. line_text first ++ asked_text (struck who asked)))
    (ap (λ (o : Option WireVersion). asked_in (unwrap_or o script.version) further) version ∙ is)

-- what is written of the script of these lines is what is left of them
pub struck_of_lines : (who : ℕ) (all : List (List ℕ)) (script : Script) → ReadsScript who all (Some script)
    → struck_text who all ≡ Some (line_text script.window.now ++ lines_text (struck_lines script.who script.requests.items))
struck_of_lines who [] script h = absurd h
struck_of_lines who (first ∷ further) script h =
    struck_opened who first further script (opening_in_text first) h.version_is h.asked_is
    ∙ ap (λ text. Some (line_text first ++ text)) (sym (lines_struck who script.requests.items))
    ∙ ap (λ w. Some (line_text first ++ lines_text (struck_lines w script.requests.items))) (sym h.who_is)
    ∙ ap (λ w. Some (line_text w ++ lines_text (struck_lines script.who script.requests.items))) (sym h.window_is)

-- where there is no script there are no lines
pub struck_of_none : (who : ℕ) (all : List (List ℕ)) → ReadsScript who all None → struck_text who all ≡ Some []
struck_of_none who [] h = refl
struck_of_none who (first ∷ further) h = absurd h

-- WHAT FOLLOWS

-- what holds of these holds of what is known
pub if_some : (o : Option (List ℕ)) (items : List ℕ) (P : List ℕ → Type 0) → IfSome o (λ bytes. items ≡ bytes) → P items → IfSome o P
if_some None items P h p = tt
if_some (Some bytes) items P h p = subst P h p

pub on_ok : {T E : Type 0} (r : Result T E) (P Q : Type 0) → (P → Q) → OnOk r P → OnOk r Q
on_ok (Ok x) P Q f p = f p
on_ok (Err e) P Q f p = tt
