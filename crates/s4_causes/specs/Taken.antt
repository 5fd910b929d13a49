-- Which lines are taken.
use Rattle.std.specs.Prelude.{ℕ, Bool, not, ◌&&◌, nat_lt, List, ◌++◌, codes, is_some, length}
use Rattle.s4_types.specs.declared.principal.WireVersion.TheVariants as wire
use Rattle.s4_script.specs.Readings.{arrival_in_text, line_in_text, opening_in_text, window_in_text}
use Rattle.s4_stream.specs.LoginText.{before}
use Rattle.s4_causes.specs.declared.form.Form.{Form}
use Rattle.s4_causes.specs.declared.form.Form.TheVariants as form

-- whether it is a line of a script of version 1 behind these words
abbrev pub behind : List ℕ → List ℕ → Bool
behind words line = is_some (line_in_text wire.One (words ++ line))

-- whether the first word has a slash
abbrev pub is_marked : List ℕ → Bool
is_marked line = nat_lt (length (before 47 (before 32 line))) (length (before 32 line))

-- Whether a line of this form is taken: a line of a setup is one of a script that has no moment, and no version; a call has the words behind these.
abbrev pub takes : Form → List ℕ → Bool
takes form.Opening line = is_some (opening_in_text line)
takes (form.Line version) line = is_some (line_in_text version line)
takes form.Window line = is_some (window_in_text line)
takes form.Arrival line = is_some (arrival_in_text line)
takes form.Setup line = not (is_marked line) && behind (codes "0 ") line
takes form.Request line = behind (codes "0 0 ") line
