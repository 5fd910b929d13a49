-- What words spell.
use Rattle.std.specs.Prelude.{◌≡◌, ℕ, ◌^◌, Bool, ◌==◌, ◌&&◌, ◌||◌, not, nat_lt, nat_le, if◌then◌else◌, Option, Some, None, Result, Ok, Err, List, [], ◌∷◌, codes, decimal, map, ok_or, length, slice_index}
use Rattle.std.specs.List.{list_all, slice_split}
use Rattle.std.specs.Char.{is_ascii_digit}
use Rattle.std.specs.Option.{option_map}
use Rattle.std.specs.Result.{result_ok}
use Rattle.std.specs.Str.{bytes_eq, is_utf8}
use Rattle.std.specs.Str.Parse.{digits_value}
use denote.Ref.{Bor}
use Rattle.hex.specs.Hex.{decode_of}
use Rattle.s4_types.specs.declared.object.ObjectId.{ObjectId}
use Rattle.s4_types.specs.declared.object.Purse.{Purse}
use Rattle.s4_types.specs.declared.request.After.{After}
use Rattle.s4_types.specs.declared.request.Request.{Request}
use Rattle.s4_types.specs.declared.request.Request.TheVariants as request
use Rattle.s4_types.specs.declared.principal.Caller.{Caller}
use Rattle.s4_types.specs.declared.principal.WireVersion.{WireVersion}
use Rattle.s4_types.specs.declared.principal.WireVersion.TheVariants as wire
use Rattle.s4_types.specs.declared.record.Step.TheVariants as step
use Rattle.s4_types.specs.Judgement.{everyone}
use Rattle.s4_types.specs.Name.{is_name}
use Rattle.s4_script.specs.declared.arrivals.ArrivalLine.{ArrivalLine}
use Rattle.s4_script.specs.declared.arrivals.ArrivalLine.TheVariants as arrival
use Rattle.s4_script.specs.declared.line.Line.{Line}
use Rattle.s4_script.specs.declared.line.Line.TheVariants as line
use Rattle.s4_script.specs.declared.opening.Opening.{Opening}
use Rattle.s4_script.specs.declared.error.ParseError.{ParseError}
use Rattle.s4_script.specs.declared.error.ParseError.TheVariants as parse_error

infixl 10 ◌>>=◌
-- what a value leads to, where there is one
abbrev pub ◌>>=◌ : {A B : Type 0} → Option A → (A → Option B) → Option B
(Some x) >>= f = f x
None >>= f = None

-- What was returned is what the words spell, or they spell nothing.
abbrev pub spelled : {X : Type 0} → Option X → Result X ParseError
spelled found = ok_or found parse_error.Bad

-- Nothing is spelled where the words are bad.
abbrev pub Fails : {X : Type 0} → ParseError → Option X → Type 0
Fails parse_error.Bad found = found ≡ None
Fails parse_error.NoMemory found = Unit {0}

-- The same, unless memory ran out.
abbrev pub Gives : {X : Type 0} → Result X ParseError → Option X → Type 0
Gives (Ok x) found = found ≡ Some x
Gives (Err why) found = Fails why found

-- the words behind references
abbrev pub texts : List (Bor (List ℕ)) → List (List ℕ)
texts words = map (λ word. word.now) words

-- the value, where it passes a test
abbrev pub tested : {X : Type 0} → (X → Bool) → Option X → Option X
tested test None = None
tested test (Some x) = if test x then Some x else None

-- whether these are digits alone, of which the first is no 0 that others follow
abbrev pub is_plain : List ℕ → Bool
is_plain text = (nat_le (length text) 1 || not (slice_index text 0 == 48)) && list_all is_ascii_digit text

-- the number, where it is the text's and fits 64 bits
abbrev pub number_of_text : ℕ → List ℕ → Option ℕ
number_of_text number text = if bytes_eq (decimal number) text && nat_lt number (2 ^ 64) then Some number else None

-- the number of which the word is the decimal text
unfoldable pub number_in : List ℕ → Option ℕ
number_in word = number_of_text (digits_value 10 word) word

-- the same, of a number below a limit
abbrev pub number_below : ℕ → List ℕ → Option ℕ
number_below limit word = tested (λ number. nat_lt number limit) (number_in word)

abbrev pub principal_in : List ℕ → Option ℕ
principal_in word = number_below 4294967295 word

unfoldable pub user_in : List ℕ → Option ℕ
user_in word = if bytes_eq word (codes "everyone") then Some everyone else principal_in word

unfoldable pub serial_in : List ℕ → Option ℕ
serial_in word = tested (λ number. nat_lt 0 number) (number_below 65536 word)

unfoldable pub name_in : List ℕ → Option (List ℕ)
name_in word = if is_name word then Some word else None

-- a byte before the first of two parts
abbrev pub longer_front : ℕ → Option (List ℕ × List ℕ) → Option (List ℕ × List ℕ)
longer_front byte None = None
longer_front byte (Some parts) = Some (byte ∷ parts.0, parts.1)

-- the parts before and behind the first such byte
unfoldable pub parts_at : ℕ → List ℕ → Option (List ℕ × List ℕ)
parts_at byte [] = None
parts_at byte (first ∷ word) = if first == byte then Some ([], word) else longer_front first (parts_at byte word)

-- the parts before and behind the first dot
abbrev pub at_dot : List ℕ → Option (List ℕ × List ℕ)
at_dot word = parts_at 46 word

-- the parts before and behind the first slash
abbrev pub at_slash : List ℕ → Option (List ℕ × List ℕ)
at_slash word = parts_at 47 word

unfoldable pub purse_in : List ℕ → Option Purse
purse_in word = do
  parts ← at_dot word
  creator ← principal_in parts.0
  number ← number_below 16 parts.1
  Some (record { creator = creator; number = number })

unfoldable pub object_in : List ℕ → Option ObjectId
object_in word = do
  parts ← at_dot word
  creator ← principal_in parts.0
  others ← at_dot parts.1
  number ← number_below 16 others.0
  serial ← serial_in others.1
  Some (record { purse = record { creator = creator; number = number }; serial = serial })

-- hexadecimal digits in either case, of which there are some
abbrev pub digits_in : List ℕ → Option (List ℕ)
digits_in [] = None
digits_in (digit ∷ word) = result_ok (decode_of (digit ∷ word))

unfoldable pub bytes_in : List ℕ → Option (List ℕ)
bytes_in word = if bytes_eq word (codes "empty") then Some [] else digits_in word

unfoldable pub at_in : List (List ℕ) → Option (Option ℕ)
at_in [] = Some None
at_in (word ∷ []) = None
at_in (word ∷ tick ∷ []) = if bytes_eq word (codes "at") then option_map Some (number_in tick) else None
at_in (word ∷ tick ∷ more ∷ words) = None

unfoldable pub after_in : List ℕ → List ℕ → Option After
after_in number name = do
  n ← number_below 16 number
  it ← name_in name
  Some (record { number = n; name = it })

abbrev pub page_in : ℕ → Option After → List (List ℕ) → Option Request
page_in range after words = option_map (λ at. request.PList range after at) (at_in words)

abbrev pub place_in : ℕ → List (List ℕ) → Option Request
place_in range (word ∷ number ∷ name ∷ words) = if bytes_eq word (codes "after")
    then (after_in number name >>= λ after. page_in range (Some after) words)
    else page_in range None (word ∷ number ∷ name ∷ words)
place_in range words = page_in range None words

-- EACH VERB

abbrev pub create_in : List (List ℕ) → Option Request
create_in (number ∷ []) = option_map request.Create (number_below 16 number)
create_in _ = None

abbrev pub delete_in : List (List ℕ) → Option Request
delete_in (object ∷ []) = option_map request.Delete (object_in object)
delete_in _ = None

abbrev pub read_in : List (List ℕ) → Option Request
read_in (object ∷ offset ∷ length ∷ words) = do
  o ← object_in object
  from ← number_below (2 ^ 32) offset
  most ← number_below (2 ^ 32) length
  at ← at_in words
  Some (request.Read o from most at)
read_in _ = None

abbrev pub write_in : List (List ℕ) → Option Request
write_in (object ∷ offset ∷ bytes ∷ []) = do
  o ← object_in object
  from ← number_below (2 ^ 32) offset
  it ← bytes_in bytes
  Some (request.Write o from it)
write_in _ = None

abbrev pub append_in : List (List ℕ) → Option Request
append_in (object ∷ bytes ∷ []) = do
  o ← object_in object
  it ← bytes_in bytes
  Some (request.Append o it)
append_in _ = None

abbrev pub truncate_in : List (List ℕ) → Option Request
truncate_in (object ∷ length ∷ []) = do
  o ← object_in object
  most ← number_below (2 ^ 32) length
  Some (request.Truncate o most)
truncate_in _ = None

abbrev pub getattr_in : List (List ℕ) → Option Request
getattr_in (object ∷ words) = do
  o ← object_in object
  at ← at_in words
  Some (request.GetAttr o at)
getattr_in _ = None

abbrev pub setattr_in : List (List ℕ) → Option Request
setattr_in (object ∷ bytes ∷ []) = do
  o ← object_in object
  it ← bytes_in bytes
  Some (request.SetAttr o it)
setattr_in _ = None

abbrev pub acl_user_in : List (List ℕ) → Option Request
acl_user_in (object ∷ user ∷ words) = do
  o ← object_in object
  who ← user_in user
  at ← at_in words
  Some (request.GetAclByUser o who at)
acl_user_in _ = None

abbrev pub acl_index_in : List (List ℕ) → Option Request
acl_index_in (object ∷ index ∷ words) = do
  o ← object_in object
  i ← number_below (2 ^ 8) index
  at ← at_in words
  Some (request.GetAclByIndex o i at)
acl_index_in _ = None

abbrev pub setacl_in : List (List ℕ) → Option Request
setacl_in (object ∷ user ∷ rights ∷ []) = do
  o ← object_in object
  who ← user_in user
  given ← number_below 32 rights
  Some (request.SetAcl o who given)
setacl_in _ = None

abbrev pub pcreate_in : List (List ℕ) → Option Request
pcreate_in (name ∷ object ∷ []) = do
  it ← name_in name
  o ← object_in object
  Some (request.PCreate it o)
pcreate_in _ = None

abbrev pub pdelete_in : List (List ℕ) → Option Request
pdelete_in (purse ∷ name ∷ []) = do
  p ← purse_in purse
  it ← name_in name
  Some (request.PDelete p it)
pdelete_in _ = None

abbrev pub plist_in : List (List ℕ) → Option Request
plist_in (range ∷ words) = principal_in range >>= λ who. place_in who words
plist_in _ = None

abbrev pub pmount_in : List (List ℕ) → Option Request
pmount_in (purse ∷ name ∷ words) = do
  p ← purse_in purse
  it ← name_in name
  at ← at_in words
  Some (request.PMount p it at)
pmount_in _ = None

abbrev pub flush_in : List (List ℕ) → Option Request
flush_in (from ∷ to ∷ []) = do
  first ← number_in from
  last ← number_in to
  Some (request.Flush first last)
flush_in _ = None

abbrev pub flusho_in : List (List ℕ) → Option Request
flusho_in (object ∷ from ∷ to ∷ []) = do
  o ← object_in object
  first ← number_in from
  last ← number_in to
  Some (request.FlushO o first last)
flusho_in _ = None

abbrev pub setwindow_in : List (List ℕ) → Option Request
setwindow_in (ticks ∷ []) = option_map request.SetWindow (number_in ticks)
setwindow_in _ = None

abbrev pub setbudget_in : List (List ℕ) → Option Request
setbudget_in (purse ∷ budget ∷ []) = do
  p ← purse_in purse
  most ← number_below (2 ^ 32) budget
  Some (request.SetBudget p most)
setbudget_in _ = None

abbrev pub audit_in : List (List ℕ) → Option Request
audit_in (range ∷ skip ∷ []) = do
  who ← principal_in range
  past ← number_below (2 ^ 32) skip
  Some (request.ReadAudit who past)
audit_in _ = None

-- the request that a verb and the words behind it spell
unfoldable pub request_in : List ℕ → List (List ℕ) → Option Request
request_in verb words =
    if bytes_eq verb (codes "create") then create_in words
    else if bytes_eq verb (codes "delete") then delete_in words
    else if bytes_eq verb (codes "read") then read_in words
    else if bytes_eq verb (codes "write") then write_in words
    else if bytes_eq verb (codes "append") then append_in words
    else if bytes_eq verb (codes "truncate") then truncate_in words
    else if bytes_eq verb (codes "getattr") then getattr_in words
    else if bytes_eq verb (codes "setattr") then setattr_in words
    else if bytes_eq verb (codes "acl-user") then acl_user_in words
    else if bytes_eq verb (codes "acl-index") then acl_index_in words
    else if bytes_eq verb (codes "setacl") then setacl_in words
    else if bytes_eq verb (codes "pcreate") then pcreate_in words
    else if bytes_eq verb (codes "pdelete") then pdelete_in words
    else if bytes_eq verb (codes "plist") then plist_in words
    else if bytes_eq verb (codes "pmount") then pmount_in words
    else if bytes_eq verb (codes "flush") then flush_in words
    else if bytes_eq verb (codes "flusho") then flusho_in words
    else if bytes_eq verb (codes "setwindow") then setwindow_in words
    else if bytes_eq verb (codes "setbudget") then setbudget_in words
    else if bytes_eq verb (codes "audit") then audit_in words
    else None

-- the request that these words spell, the first of which is its verb
abbrev pub request_in_words : List (List ℕ) → Option Request
request_in_words [] = None
request_in_words (verb ∷ words) = request_in verb words

-- CALLERS

-- client 0 of a principal, who speaks that version of the wire
abbrev pub caller_of : WireVersion → ℕ → Caller
caller_of version who = record { who = who; client = 0; version = version }

-- the version of that number, which isn't the one that the first line gives
abbrev pub other_in : WireVersion → List ℕ → Option WireVersion
other_in wire.One number = if bytes_eq number (codes "2") then Some wire.Two else None
other_in wire.Two number = if bytes_eq number (codes "1") then Some wire.One else None

-- the caller of a word with a slash: a principal stands before it, and behind it the version that they speak
abbrev pub marked_in : WireVersion → List ℕ × List ℕ → Option Caller
marked_in version parts = do
  spoken ← other_in version parts.1
  who ← principal_in parts.0
  Some (caller_of spoken who)

-- the caller of a word and its parts; without a slash they speak the version that the first line gives
abbrev pub caller_by : WireVersion → List ℕ → Option (List ℕ × List ℕ) → Option Caller
caller_by version word None = option_map (caller_of version) (principal_in word)
caller_by version word (Some parts) = marked_in version parts

-- the caller that a word of a line names, where the first line gives that version
unfoldable pub caller_in : WireVersion → List ℕ → Option Caller
caller_in version word = caller_by version word (at_slash word)

-- LINES

-- a request of client 0, who speaks that version of the wire
abbrev pub step_of : WireVersion → ℕ → ℕ → Request → Line
step_of version moment who asked = line.Step (step.Request moment (caller_of version who) asked)

abbrev pub used_in : List ℕ → Option Line
used_in word = if bytes_eq word (codes "used") then Some line.Used else None

-- a cut at a moment, or a sweep of so many
abbrev pub counted_in : List ℕ → List ℕ → Option Line
counted_in word number =
    if bytes_eq word (codes "cut") then option_map line.Cut (number_in number)
    else if bytes_eq word (codes "sweep") then option_map (λ n. line.Step (step.Sweep n)) (number_in number)
    else None

abbrev pub asked_in : WireVersion → List ℕ → List ℕ → List ℕ → List (List ℕ) → Option Line
asked_in version moment who verb words = do
  at ← number_in moment
  by ← caller_in version who
  asked ← request_in verb words
  Some (line.Step (step.Request at by asked))

-- what the words of a line after the first ask for, where the first line gives that version
abbrev pub line_in : WireVersion → List (List ℕ) → Option Line
line_in version [] = None
line_in version (word ∷ []) = used_in word
line_in version (word ∷ number ∷ []) = counted_in word number
line_in version (moment ∷ who ∷ verb ∷ words) = asked_in version moment who verb words

-- the words of a text, with one space between each two
abbrev pub words_in : List ℕ → List (List ℕ)
words_in text = slice_split (λ byte. byte == 32) text

-- what the words of a text spell
unfoldable pub in_text : {X : Type 0} → (List (List ℕ) → Option X) → List ℕ → Option X
in_text reading text = if is_utf8 text then reading (words_in text) else None

-- what a line after the first asks for, where the first line gives that version
abbrev pub line_in_text : WireVersion → List ℕ → Option Line
line_in_text version text = in_text (line_in version) text

-- a window, for callers of that version
abbrev pub opened_in : WireVersion → List ℕ → List ℕ → Option Opening
opened_in version word ticks = if bytes_eq word (codes "window")
    then option_map (λ window. record { window = window; version = version }) (number_in ticks)
    else None

-- what the words of a script's first line open: the callers speak version 1 where no version stands
-- behind the window, and no other may stand there than 2
abbrev pub opening_in : List (List ℕ) → Option Opening
opening_in (word ∷ ticks ∷ []) = opened_in wire.One word ticks
opening_in (word ∷ ticks ∷ mark ∷ number ∷ []) =
    if bytes_eq mark (codes "wire") && bytes_eq number (codes "2")
    then opened_in wire.Two word ticks
    else None
opening_in _ = None

-- what a script's first line opens
abbrev pub opening_in_text : List ℕ → Option Opening
opening_in_text text = in_text opening_in text

-- the window that the first line of arrivals opens a hall with
abbrev pub window_in : List (List ℕ) → Option ℕ
window_in (word ∷ ticks ∷ []) = if bytes_eq word (codes "window") then number_in ticks else None
window_in _ = None

abbrev pub window_in_text : List ℕ → Option ℕ
window_in_text text = in_text window_in text

-- ARRIVALS

abbrev pub swept_in : List ℕ → List ℕ → Option ArrivalLine
swept_in word most = if bytes_eq word (codes "sweep") then option_map arrival.Sweep (number_in most) else None

abbrev pub arrived_in : List ℕ → List ℕ → List ℕ → Option ArrivalLine
arrived_in moment connection piece = do
  at ← number_in moment
  on ← number_below (2 ^ 32) connection
  bytes ← bytes_in piece
  Some (arrival.Arrive at on bytes)

-- what the words of a line of arrivals after the first tell
abbrev pub arrival_in : List (List ℕ) → Option ArrivalLine
arrival_in (word ∷ most ∷ []) = swept_in word most
arrival_in (moment ∷ connection ∷ piece ∷ []) = arrived_in moment connection piece
arrival_in _ = None

abbrev pub arrival_in_text : List ℕ → Option ArrivalLine
arrival_in_text text = in_text arrival_in text
