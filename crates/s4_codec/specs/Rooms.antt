-- Which replies have a spelling, and how much room spellings take.
use Rattle.std.specs.Prelude.{ℕ, ◌+◌, ◌*◌, ◌^◌, max, min, Bool, nat_lt, ◌&&◌, length}
use Rattle.s4_types.specs.declared.principal.WireVersion.{WireVersion}
use Rattle.s4_types.specs.declared.request.Request.{Request}
use Rattle.s4_types.specs.declared.request.Request.TheVariants.{Write, Append, SetAttr}
use Rattle.s4_types.specs.declared.reply.Reply.{Reply}
use Rattle.s4_types.specs.declared.reply.Reply.TheVariants.{Data, Attr, Names, Audit}
use Rattle.s4_types.specs.Limits.{data_limit, is_shown_grant, is_within_limits}
use Rattle.s4_codec.specs.Versions.{length_width}

-- whether a reply has a spelling, be it too long for a frame: the limits of data and of attributes don't matter
abbrev pub is_spellable : WireVersion → Reply → Bool
is_spellable version (Data grant bytes) = is_shown_grant grant && nat_lt (length bytes) (256 ^ length_width version)
is_spellable version (Attr grant bytes) = is_shown_grant grant && nat_lt (length bytes) (256 ^ length_width version)
is_spellable version r = is_within_limits version r

-- the most bytes that a reply's spelling has
abbrev pub body_room : Reply → ℕ
body_room (Data grant bytes) = 15 + length bytes
body_room (Attr grant bytes) = 15 + length bytes
body_room (Names lines more) = 3 + 51 * length lines
body_room (Audit lines more) = 3 + 19 * length lines
body_room _ = 19

-- The most bytes of a frame whose reply is within the limits and gives at most so many bytes of data: a page has 64 names of 32 bytes, and data a kind, a
-- grant and a length in front.
abbrev pub reply_room : WireVersion → ℕ → ℕ
reply_room version count = 4 + max 3267 (15 + min count (data_limit version))

-- how many bytes of data or of attributes a request gives
abbrev pub data_given : Request → ℕ
data_given (Write o offset bytes) = length bytes
data_given (Append o bytes) = length bytes
data_given (SetAttr o bytes) = length bytes
data_given _ = 0

-- the most bytes that a request's spelling has
abbrev pub request_room : Request → ℕ
request_room r = 49 + data_given r
