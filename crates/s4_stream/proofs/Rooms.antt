-- Room that was made for the answer to an event.
use Rattle.std.proofs.Common.{◌≤◌, ℕ, arith}
use Rattle.s4_types.specs.declared.principal.WireVersion.{WireVersion}
use Rattle.s4_types.specs.declared.request.Request.{Request}
use Rattle.s4_types.specs.declared.reply.Reply.{Reply}
use Rattle.s4_types.specs.Limits.{data_asked, data_in}
use Rattle.s4_codec.specs.Rooms.{reply_room}

-- in room for as much data as is asked for, there is room for a reply that gives no more
pub room_is_enough : (version : WireVersion) (request : Request) (reply : Reply) (spare : ℕ) → data_in reply ≤ data_asked request → reply_room version (data_asked request) ≤ spare → reply_room version (data_in reply) ≤ spare
room_is_enough version request reply spare few room = omega (arith, few, room)
