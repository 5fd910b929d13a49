-- What lines ask for.
use Rattle.std.specs.Prelude.{ℕ, Bool, Option, Some, None, List, [], ◌∷◌, ◌++◌, ◌==◌, codes, drop, flat_map, if◌then◌else◌, nat_eq}
use Rattle.std.specs.List.{starts_with}
use Rattle.s4_types.specs.declared.principal.Caller.{Caller}
use Rattle.s4_types.specs.declared.principal.WireVersion.{WireVersion}
use Rattle.s4_types.specs.declared.principal.WireVersion.TheVariants as wire
use Rattle.s4_types.specs.declared.record.Step.TheVariants as step
use Rattle.s4_types.specs.declared.reply.Reply.{Reply}
use Rattle.s4_types.specs.declared.request.Request.{Request}
use Rattle.s4_script.specs.declared.line.Line.{Line}
use Rattle.s4_script.specs.declared.line.Line.TheVariants as line
use Rattle.s4_script.specs.Readings.{line_in_text}
use Rattle.s4_script.specs.Texts.{reply_text}
use Rattle.s4_stream.specs.LoginText.{before, behind}

-- REQUESTS

-- the request of a line of a script, where it has one
abbrev pub request_of : Option Line → Option Request
request_of (Some (line.Step (step.Request at by asked))) = Some asked
request_of other = None

-- the request that a text asks for, as a line of a script does behind its moment and its caller
abbrev pub request_in : List ℕ → Option Request
request_in text = request_of (line_in_text wire.One (codes "0 0 " ++ text))

-- who asks for what
pub record Asked : Type 0 where
  pub caller : Caller
  pub request : Request

-- who asks for what in a line of a script, as this client
abbrev pub asked_of : ℕ → Option Line → Option Asked
asked_of client (Some (line.Step (step.Request at by asked))) = Some (record { caller = record by { client = client }; request = asked })
asked_of client other = None

-- the version by which a mark names the other one: /1 stands in scripts of version 2, and /2 in those of version 1
abbrev pub version_by : WireVersion → List ℕ → WireVersion
version_by version [] = version
version_by version (d ∷ []) = if d == 49 then wire.Two else if d == 50 then wire.One else version
version_by version (d ∷ e ∷ ds) = version

-- who asks for what in a text, as a line of a script does behind its moment; who has no mark speaks this version
abbrev pub asked_in : WireVersion → ℕ → List ℕ → Option Asked
asked_in version client text = asked_of client (line_in_text (version_by version (behind 47 (before 32 text))) (codes "0 " ++ text))

-- whether it begins with an arrow
abbrev pub is_arrow : List ℕ → Bool
is_arrow text = starts_with nat_eq text (codes " => ")

-- the text before the first arrow, or all where there is none
abbrev pub before_arrow : List ℕ → List ℕ
before_arrow [] = []
before_arrow (b ∷ bs) = if is_arrow (b ∷ bs) then [] else b ∷ before_arrow bs

-- the text behind the first arrow, where there is one
abbrev pub behind_arrow : List ℕ → Option (List ℕ)
behind_arrow [] = None
behind_arrow (b ∷ bs) = if is_arrow (b ∷ bs) then Some (drop 4 (b ∷ bs)) else behind_arrow bs

-- REPLIES

-- a text in one line: its lines with a semicolon and a space between each two
abbrev pub in_one_line : List ℕ → List ℕ
in_one_line text = flat_map (λ b. if b == 10 then codes "; " else b ∷ []) text

-- a reply in one line
abbrev pub told_text : Reply → List ℕ
told_text reply = in_one_line (reply_text reply)

-- the same with a line feed
abbrev pub told_line : Reply → List ℕ
told_line reply = told_text reply ++ 10 ∷ []
