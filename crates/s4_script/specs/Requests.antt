-- The words of a request, and the line of a script that asks for it.
use Rattle.std.specs.Prelude.{ℕ, Option, Some, None, List, [], ◌∷◌, ◌++◌, codes, decimal, flat_map}
use Rattle.std.specs.List.{join_with_byte}
use Rattle.s4_types.specs.declared.object.Purse.{Purse}
use Rattle.s4_types.specs.declared.request.After.{After}
use Rattle.s4_types.specs.declared.request.Request.{Request}
use Rattle.s4_types.specs.declared.request.Request.TheVariants as request
use Rattle.s4_types.specs.declared.principal.Caller.{Caller}
use Rattle.s4_types.specs.declared.principal.WireVersion.{WireVersion}
use Rattle.s4_types.specs.declared.principal.WireVersion.TheVariants as wire
use Rattle.s4_script.specs.declared.opening.Opening.{Opening}
use Rattle.s4_script.specs.Texts.{bytes_text, object_text, user_text}

-- a purse by its creator and its number, as `7.0`
abbrev pub purse_text : Purse → List ℕ
purse_text purse = decimal purse.creator ++ codes "." ++ decimal purse.number

-- the moment that a request is about, as `at 9`, or no words where it is about now
abbrev pub at_words : Option ℕ → List (List ℕ)
at_words None = []
at_words (Some moment) = codes "at" ∷ decimal moment ∷ []

-- the place behind which a page begins, as `after 1 b`, or no words where it begins at the first name
abbrev pub after_words : Option After → List (List ℕ)
after_words None = []
after_words (Some after) = codes "after" ∷ decimal after.number ∷ after.name ∷ []

-- the verb of a request, and the words behind it
abbrev pub words_of : Request → List (List ℕ)
words_of (request.Create number) = codes "create" ∷ decimal number ∷ []
words_of (request.Delete object) = codes "delete" ∷ object_text object ∷ []
words_of (request.Read object offset length at) = codes "read" ∷ object_text object ∷ decimal offset ∷ decimal length ∷ at_words at
words_of (request.Write object offset bytes) = codes "write" ∷ object_text object ∷ decimal offset ∷ bytes_text bytes ∷ []
words_of (request.Append object bytes) = codes "append" ∷ object_text object ∷ bytes_text bytes ∷ []
words_of (request.Truncate object length) = codes "truncate" ∷ object_text object ∷ decimal length ∷ []
words_of (request.GetAttr object at) = codes "getattr" ∷ object_text object ∷ at_words at
words_of (request.SetAttr object bytes) = codes "setattr" ∷ object_text object ∷ bytes_text bytes ∷ []
words_of (request.GetAclByUser object user at) = codes "acl-user" ∷ object_text object ∷ user_text user ∷ at_words at
words_of (request.GetAclByIndex object index at) = codes "acl-index" ∷ object_text object ∷ decimal index ∷ at_words at
words_of (request.SetAcl object user rights) = codes "setacl" ∷ object_text object ∷ user_text user ∷ decimal rights ∷ []
words_of (request.PCreate name object) = codes "pcreate" ∷ name ∷ object_text object ∷ []
words_of (request.PDelete purse name) = codes "pdelete" ∷ purse_text purse ∷ name ∷ []
words_of (request.PList range after at) = codes "plist" ∷ decimal range ∷ after_words after ++ at_words at
words_of (request.PMount purse name at) = codes "pmount" ∷ purse_text purse ∷ name ∷ at_words at
words_of (request.Flush from to) = codes "flush" ∷ decimal from ∷ decimal to ∷ []
words_of (request.FlushO object from to) = codes "flusho" ∷ object_text object ∷ decimal from ∷ decimal to ∷ []
words_of (request.SetWindow ticks) = codes "setwindow" ∷ decimal ticks ∷ []
words_of (request.SetBudget purse budget) = codes "setbudget" ∷ purse_text purse ∷ decimal budget ∷ []
words_of (request.ReadAudit range skip) = codes "audit" ∷ decimal range ∷ decimal skip ∷ []

-- words, each behind a space
abbrev pub spaced : List (List ℕ) → List ℕ
spaced words = flat_map (λ word. 32 ∷ word) words

abbrev pub at_text : Option ℕ → List ℕ
at_text at = spaced (at_words at)

abbrev pub after_text : Option After → List ℕ
after_text after = spaced (after_words after)

-- a request as its verb and its words, with a space between each two
abbrev pub request_text : Request → List ℕ
request_text asked = join_with_byte 32 (words_of asked)

-- what stands behind a caller's principal, as `/2`: the version of the wire that they speak, or nothing where the
-- script's first line gives that version
abbrev pub mark_text : WireVersion → WireVersion → List ℕ
mark_text wire.One wire.One = []
mark_text wire.Two wire.Two = []
mark_text wire.One wire.Two = codes "/2"
mark_text wire.Two wire.One = codes "/1"

-- a caller as the word of a line, where the script's first line gives that version
abbrev pub caller_text : WireVersion → Caller → List ℕ
caller_text version caller = decimal caller.who ++ mark_text version caller.version

-- the line of a request in such a script, without the end of the line: when it is made, by whom, and then its verb and its words
abbrev pub request_line_text : WireVersion → ℕ → Caller → Request → List ℕ
request_line_text version moment caller asked =
    decimal moment ++ codes " " ++ caller_text version caller ++ codes " " ++ request_text asked

-- what stands behind the window, as ` wire 2`, or nothing by version 1
abbrev pub version_text : WireVersion → List ℕ
version_text wire.One = []
version_text wire.Two = codes " wire 2"

-- the first line of a script, without the end of the line
abbrev pub opening_text : Opening → List ℕ
opening_text opening = codes "window " ++ decimal opening.window ++ version_text opening.version
