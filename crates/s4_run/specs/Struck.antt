-- What is left of a script once a principal's strangers are struck out.
use Rattle.std.specs.Prelude.{◌≡◌, ℕ, Bool, false, nat_lt, Option, Some, None, List, [], ◌∷◌, ◌++◌, map, filter, flat_map}
use Rattle.std.specs.Io.KnownBytes.{Appends}
use Rattle.std.specs.Option.{option_map}
use Rattle.s4_types.specs.declared.principal.WireVersion.{WireVersion}
use Rattle.s4_types.specs.declared.record.Step.{Step}
use Rattle.s4_types.specs.declared.record.Step.TheVariants as step
use Rattle.s4_types.specs.Strike.{is_near, stays}
use Rattle.s4_script.specs.declared.line.Line.{Line}
use Rattle.s4_script.specs.declared.line.Line.TheVariants as line
use Rattle.s4_script.specs.declared.opening.Opening.{Opening}
use Rattle.s4_script.specs.Readings.{line_in_text, opening_in_text}
use Rattle.s4_run.specs.declared.strike.AskingLine.{AskingLine}

-- what the lines ask
abbrev pub steps_of : List AskingLine → List Step
steps_of lines = map (λ l. l.step) lines

-- the lines as they stood
abbrev pub texts_of : List AskingLine → List (List ℕ)
texts_of lines = map (λ l. l.line.now) lines

-- the lines that stay once sweeps and the principal's strangers are struck out of what all lines ask
abbrev pub struck_lines : ℕ → List AskingLine → List AskingLine
struck_lines who lines = filter (λ l. stays who (is_near who (steps_of lines)) l.step) lines

-- a line and a line feed
abbrev pub line_text : List ℕ → List ℕ
line_text line = line ++ 10 ∷ []

-- the lines as they stood, each with a line feed
abbrev pub lines_text : List AskingLine → List ℕ
lines_text lines = flat_map (λ l. line_text l.line.now) lines

-- whether the line asks for something before this moment
abbrev pub is_before : ℕ → Line → Bool
is_before newest (line.Step (step.Request moment caller request)) = nat_lt moment newest
is_before newest other = false

-- WHAT IS LEFT OF A TEXT

-- what the lines ask, each with the line as it stood
abbrev pub asked_of : List AskingLine → List (Step × List ℕ)
asked_of lines = map (λ l. (l.step, l.line.now)) lines

-- the request of a line, with the line as it stands; nothing where it has none
abbrev pub asked_by : Line → List ℕ → List (Step × List ℕ)
asked_by (line.Step (step.Request moment caller request)) text = (step.Request moment caller request, text) ∷ []
asked_by other text = []

-- these in front of others, where there are others
abbrev pub in_front : List (Step × List ℕ) → Option (List (Step × List ℕ)) → Option (List (Step × List ℕ))
in_front asked others = option_map (λ further. asked ++ further) others

-- what a line asks that tells this, in front of others
abbrev pub asked_first : Option Line → List ℕ → Option (List (Step × List ℕ)) → Option (List (Step × List ℕ))
asked_first None text others = None
asked_first (Some told) text others = in_front (asked_by told text) others

-- the requests of the lines of a script of that version, each with its line; none where a line tells nothing
abbrev pub asked_in : WireVersion → List (List ℕ) → Option (List (Step × List ℕ))
asked_in version [] = Some []
asked_in version (text ∷ texts) = asked_first (line_in_text version text) text (asked_in version texts)

-- the requests that stay once the principal's strangers are struck out
abbrev pub struck : ℕ → List (Step × List ℕ) → List (Step × List ℕ)
struck who asked = filter (λ a. stays who (is_near who (map (λ b. b.0) asked)) a.0) asked

-- the lines of requests as they stood, each with a line feed
abbrev pub asked_text : List (Step × List ℕ) → List ℕ
asked_text asked = flat_map (λ a. line_text a.1) asked

-- the first line of a script, and those of the requests that stay
abbrev pub struck_behind : ℕ → List ℕ → Option Opening → List (List ℕ) → Option (List ℕ)
struck_behind who first None further = None
struck_behind who first (Some opening) further = option_map (λ asked. line_text first ++ asked_text (struck who asked)) (asked_in opening.version further)

-- what is left of a script of these lines; none where one of them tells nothing
abbrev pub struck_text : ℕ → List (List ℕ) → Option (List ℕ)
struck_text who [] = Some []
struck_text who (first ∷ further) = struck_behind who first (opening_in_text first) further

-- what is left of a script of these lines follows what was written before
pub record WritesStruck (who : ℕ) (lines : List (List ℕ)) (before after : Option (List ℕ)) : Type 0 where
  pub text : List ℕ
  pub is : struck_text who lines ≡ Some text
  pub written : Appends before after text
