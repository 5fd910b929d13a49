-- Which lines of a whole text are taken.
use Rattle.std.specs.Prelude.{◌≡◌, ◌==◌, ℕ, true, Bool, if◌then◌else◌, Option, Some, None, List, is_some, All}
use Rattle.s4_types.specs.declared.principal.WireVersion.{WireVersion}
use Rattle.s4_stream.specs.LoginText.{login_of}
use Rattle.s4_causes.specs.Taken.{takes}
use Rattle.s4_causes.specs.declared.checks.Kind.{Kind}
use Rattle.s4_causes.specs.declared.checks.Kind.TheVariants as kind
use Rattle.s4_causes.specs.declared.form.Form.{Form}
use Rattle.s4_causes.specs.declared.form.Form.TheVariants as form

-- what the line of this number is to be in a text of this kind; none in logins
abbrev pub form_of : Kind → WireVersion → ℕ → Option Form
form_of kind.Logins version number = None
form_of kind.Setup version number = Some form.Setup
form_of kind.Script version number = Some (if number == 1 then form.Opening else form.Line version)
form_of kind.Arrivals version number = Some (if number == 1 then form.Window else form.Arrival)

-- whether a line is taken that is to be of this form, or else a login
abbrev pub is_taken : Option Form → List ℕ → Bool
is_taken None line = is_some (login_of line)
is_taken (Some form) line = takes form line

-- Each of these lines is taken in a text of this kind, where it is a script's with its version.
abbrev pub AreTaken : Kind → WireVersion → List (ℕ × List ℕ) → Type 0
AreTaken kind version lines = All (λ line. is_taken (form_of kind version line.0) line.1 ≡ true) lines
