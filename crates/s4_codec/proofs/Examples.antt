-- Worked examples of spellings, each computed.
use Rattle.std.proofs.Common.{◌≡◌, ℕ, true, false, Some, None, List, [], ◌∷◌, ◌++◌, refl}
use Rattle.std.specs.Prelude.{replicate}
use Rattle.s4_types.specs.declared.principal.WireVersion.TheVariants.{One, Two}
use Rattle.s4_types.specs.declared.object.ObjectId.{ObjectId}
use Rattle.s4_types.specs.declared.request.Request.TheVariants.{Create, Read, Write, GetAclByUser, SetAcl}
use Rattle.s4_types.specs.declared.reply.Grant.TheVariants as grant
use Rattle.s4_types.specs.declared.reply.Refusal.TheVariants.{TooLong, NoMemory}
use Rattle.s4_types.specs.declared.reply.Reply.TheVariants.{Done, Made, Data, Attr, Entry, Names, Audit, Refused}
use Rattle.s4_types.specs.Limits.{is_within_limits}
use Rattle.s4_types.specs.declared.principal.WireVersion.TheVariants.{One, Two}
use Rattle.s4_codec.specs.Versions.{frame_limit}
use Rattle.s4_codec.specs.Format.{number_at}
use Rattle.s4_codec.specs.Frames.{framed, front_of, Whole, Part, BadLength}
use Rattle.s4_codec.specs.Requests.{request, request_in}
use Rattle.s4_codec.specs.Replies.{reply, reply_in, has_body}

-- 7.0.1, and its bytes with a byte between creator and purse number
abbrev object : ObjectId
object = record { purse = record { creator = 7; number = 0 }; serial = 1 }

abbrev object_with : ℕ → List ℕ
object_with pad = 0 ∷ 0 ∷ 0 ∷ 7 ∷ pad ∷ 0 ∷ 0 ∷ 1 ∷ []

-- 'hello'
abbrev hello : List ℕ
hello = 104 ∷ 101 ∷ 108 ∷ 108 ∷ 111 ∷ []

-- ---- requests

pub a_create_is_framed : framed ((request One).spell (Create 0)) ≡ 0 ∷ 0 ∷ 0 ∷ 2 ∷ 1 ∷ 0 ∷ []
a_create_is_framed = refl

pub a_create_is_read : request_in One (1 ∷ 0 ∷ []) ≡ Some (Create 0)
a_create_is_read = refl

pub a_write_is_framed : framed ((request One).spell (Write object 0 hello)) ≡ 0 ∷ 0 ∷ 0 ∷ 20 ∷ 4 ∷ object_with 0 ++ 0 ∷ 0 ∷ 0 ∷ 0 ∷ 0 ∷ 5 ∷ hello
a_write_is_framed = refl

-- a Read of five bytes, with the byte that says whether it names a moment
abbrev read_with : ℕ → ℕ → List ℕ
read_with pad named = 3 ∷ object_with pad ++ 0 ∷ 0 ∷ 0 ∷ 0 ∷ 0 ∷ 0 ∷ 0 ∷ 5 ∷ named ∷ []

pub a_read_is_read : request_in One (read_with 0 0) ≡ Some (Read object 0 5 None)
unfolding number_at
a_read_is_read = refl

pub a_pad_of_one_is_no_spelling : request_in One (read_with 1 0) ≡ None
unfolding number_at
a_pad_of_one_is_no_spelling = refl

pub an_option_of_two_is_no_spelling : request_in One (read_with 0 2) ≡ None
unfolding number_at
an_option_of_two_is_no_spelling = refl

pub a_byte_left_over_is_no_spelling : request_in One (read_with 0 0 ++ 0 ∷ []) ≡ None
unfolding number_at
a_byte_left_over_is_no_spelling = refl

-- ---- everyone, of whom each byte is 255

abbrev all_ones : List ℕ
all_ones = 255 ∷ 255 ∷ 255 ∷ 255 ∷ []

pub an_entry_for_everyone_is_framed : framed ((request One).spell (SetAcl object 4294967295 17)) ≡ 0 ∷ 0 ∷ 0 ∷ 14 ∷ 11 ∷ object_with 0 ++ all_ones ++ 17 ∷ []
an_entry_for_everyone_is_framed = refl

pub an_entry_for_everyone_is_read : request_in One (11 ∷ object_with 0 ++ all_ones ++ 17 ∷ []) ≡ Some (SetAcl object 4294967295 17)
unfolding number_at
an_entry_for_everyone_is_read = refl

pub everyones_entry_is_asked_for : request_in One (9 ∷ object_with 0 ++ all_ones ++ 0 ∷ []) ≡ Some (GetAclByUser object 4294967295 None)
unfolding number_at
everyones_entry_is_asked_for = refl

pub everyones_entry_is_told :
    (reply One).spell (Entry (grant.Entry 1 4) 1 4294967295 17) ≡ 4 ∷ 1 ∷ 1 ∷ 0 ∷ 0 ∷ 0 ∷ 0 ∷ 0 ∷ 0 ∷ 0 ∷ 4 ∷ 1 ∷ all_ones ++ 17 ∷ []
everyones_entry_is_told = refl

pub everyone_is_no_range : request_in One (20 ∷ all_ones ++ 0 ∷ 0 ∷ 0 ∷ 0 ∷ []) ≡ None
unfolding number_at
everyone_is_no_range = refl

-- ---- replies

pub replies_are_framed :
    framed ((reply One).spell (Made object)) ++ framed ((reply One).spell Done) ++ framed ((reply One).spell (Data (grant.Entry 0 6) hello))
    ≡ 0 ∷ 0 ∷ 0 ∷ 9 ∷ 1 ∷ object_with 0 ++ 0 ∷ 0 ∷ 0 ∷ 1 ∷ 0 ∷ 0 ∷ 0 ∷ 0 ∷ 18 ∷ 2 ∷ 1 ∷ 0 ∷ 0 ∷ 0 ∷ 0 ∷ 0 ∷ 0 ∷ 0 ∷ 0 ∷ 6 ∷ 0 ∷ 5 ∷ hello
replies_are_framed = refl

pub refusals_are_spelled : (reply One).spell (Refused TooLong) ++ (reply One).spell (Refused NoMemory) ≡ 8 ∷ 7 ∷ 8 ∷ 16 ∷ []
refusals_are_spelled = refl

pub a_refusal_is_read : reply_in One (8 ∷ 7 ∷ []) ≡ Some (Refused TooLong)
a_refusal_is_read = refl

pub a_page_is_spelled :
    (reply One).spell (Names (record { name = 120 ∷ []; object = object; grant = grant.Entry 1 3 } ∷ []) true)
    ≡ 6 ∷ 1 ∷ 1 ∷ 120 ∷ object_with 0 ++ 1 ∷ 1 ∷ 0 ∷ 0 ∷ 0 ∷ 0 ∷ 0 ∷ 0 ∷ 0 ∷ 3 ∷ 1 ∷ []
a_page_is_spelled = refl

pub an_audit_is_spelled :
    (reply One).spell (Audit (record { moment = 8; who = 7; client = 0; code = 20; is_wide = false; reply = 0 } ∷ []) false)
    ≡ 7 ∷ 1 ∷ 0 ∷ 0 ∷ 0 ∷ 0 ∷ 0 ∷ 0 ∷ 0 ∷ 8 ∷ 0 ∷ 0 ∷ 0 ∷ 7 ∷ 0 ∷ 0 ∷ 0 ∷ 0 ∷ 20 ∷ 0 ∷ 0 ∷ 0 ∷ []
an_audit_is_spelled = refl

pub what_is_served_to_an_owner_has_no_body : has_body One (Data grant.Owner hello) ≡ false
what_is_served_to_an_owner_has_no_body = refl

-- ---- limits

pub what_the_last_entry_reads_is_within_limits : is_within_limits One (Data (grant.Entry 15 6) hello) ≡ true
what_the_last_entry_reads_is_within_limits = refl

pub what_a_seventeenth_entry_reads_is_not : is_within_limits One (Data (grant.Entry 16 6) hello) ≡ false
what_a_seventeenth_entry_reads_is_not = refl

pub what_is_served_to_an_owner_is_not : is_within_limits One (Data grant.Owner hello) ≡ false
what_is_served_to_an_owner_is_not = refl

pub data_of_4097_bytes_is_not : is_within_limits One (Data grant.Admin (replicate 4097 0)) ≡ false
data_of_4097_bytes_is_not = refl

pub by_version_2_it_is : is_within_limits Two (Data grant.Admin (replicate 4097 0)) ≡ true
by_version_2_it_is = refl

pub attributes_of_256_bytes_are : is_within_limits One (Attr grant.Admin (replicate 256 0)) ≡ true
attributes_of_256_bytes_are = refl

pub attributes_of_257_bytes_are_not : is_within_limits One (Attr grant.Admin (replicate 257 0)) ≡ false
attributes_of_257_bytes_are_not = refl

pub a_line_of_want_of_memory_is_not :
    is_within_limits One (Audit (record { moment = 8; who = 7; client = 0; code = 20; is_wide = false; reply = 16 } ∷ []) false) ≡ false
a_line_of_want_of_memory_is_not = refl

-- ---- frames

pub a_frame_is_taken : front_of (frame_limit One) (0 ∷ 0 ∷ 0 ∷ 2 ∷ 1 ∷ 0 ∷ 9 ∷ []) ≡ Whole (1 ∷ 0 ∷ []) (9 ∷ [])
a_frame_is_taken = refl

pub a_frame_is_awaited : front_of (frame_limit One) (0 ∷ 0 ∷ 32 ∷ 0 ∷ 1 ∷ []) ≡ Part
a_frame_is_awaited = refl

pub no_frame_is_empty : front_of (frame_limit One) (0 ∷ 0 ∷ 0 ∷ 0 ∷ []) ≡ BadLength
no_frame_is_empty = refl

pub no_frame_is_longer : front_of (frame_limit One) (0 ∷ 0 ∷ 32 ∷ 1 ∷ []) ≡ BadLength
no_frame_is_longer = refl

-- ---- version 2

pub a_write_of_version_2_is_framed : framed ((request Two).spell (Write object 4999 (97 ∷ []))) ≡ 0 ∷ 0 ∷ 0 ∷ 18 ∷ 4 ∷ object_with 0 ++ 0 ∷ 0 ∷ 19 ∷ 135 ∷ 0 ∷ 0 ∷ 0 ∷ 1 ∷ 97 ∷ []
a_write_of_version_2_is_framed = refl

pub a_longer_frame_is_awaited_in_version_2 : front_of (frame_limit Two) (0 ∷ 0 ∷ 32 ∷ 1 ∷ []) ≡ Part
a_longer_frame_is_awaited_in_version_2 = refl

pub none_is_longer_in_version_2 : front_of (frame_limit Two) (0 ∷ 2 ∷ 0 ∷ 1 ∷ []) ≡ BadLength
none_is_longer_in_version_2 = refl

pub data_of_65536_bytes_are_within_version_2 : is_within_limits Two (Data grant.Admin (replicate 65536 0)) ≡ true
data_of_65536_bytes_are_within_version_2 = refl
