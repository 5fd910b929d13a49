-- Requests of lines that are sent over one connection, and the replies that are told.
use Rattle.std.specs.Prelude.{◌≡◌, ⊤, ℕ, Bool, Option, Some, None, Result, Ok, Err, List, map, flat_map, length}
use Rattle.std.specs.List.{list_any}
use Rattle.std.specs.Io.KnownBytes.{Appends, Consumes}
use Rattle.s4_types.specs.Kinds.{is_refused}
use Rattle.s4_types.specs.declared.principal.WireVersion.{WireVersion}
use Rattle.s4_types.specs.declared.reply.Reply.{Reply}
use Rattle.s4_types.specs.declared.request.Request.{Request}
use Rattle.s4_stream.specs.Talk.{reply_frame}
use Rattle.s4_client.specs.Calls.{Begins, request_frame}
use Rattle.s4_asking.specs.declared.fault.AskFault.{AskFault}
use Rattle.s4_asking.specs.declared.fault.AskFault.TheVariants as fault
use Rattle.s4_asking.specs.Lines.{HasFront, text_of}
use Rattle.s4_asking.specs.Spelling.{request_in, told_line}

-- the frames of requests, one behind the other
abbrev pub request_frames : WireVersion → List Request → List ℕ
request_frames version requests = flat_map (request_frame version) requests

-- the frames of replies
abbrev pub reply_frames : WireVersion → List Reply → List ℕ
reply_frames version replies = flat_map (reply_frame version) replies

-- the lines of replies
abbrev pub reply_lines : List Reply → List ℕ
reply_lines replies = flat_map told_line replies

-- So many lines are taken from what is left of the input, each spells its request, and the frames of these are sent.
pub record Asks (version : WireVersion) (left left' sent sent' : Option (List ℕ)) (count : ℕ) : Type 0 where
  pub lines : List (List ℕ)
  pub requests : List Request
  pub counted : length requests ≡ count
  pub taken : Consumes left left' (text_of lines)
  pub spelled : map request_in lines ≡ map Some requests
  pub sends : Appends sent sent' (request_frames version requests)

-- A beginning is sent of the frames of the requests that lines at the front of what is left spell, and nothing else.
pub record AsksSome (version : WireVersion) (left sent sent' : Option (List ℕ)) : Type 0 where
  pub lines : List (List ℕ)
  pub requests : List Request
  pub front : HasFront left (text_of lines)
  pub spelled : map request_in lines ≡ map Some requests
  pub sends : Begins sent sent' (request_frames version requests)

-- So many replies are heard, each is told in a line, and this says whether one of them is a refusal.
pub record Tells (version : WireVersion) (left left' told told' : Option (List ℕ)) (count : ℕ) (refused : Bool) : Type 0 where
  pub replies : List Reply
  pub counted : length replies ≡ count
  pub refuses : list_any is_refused replies ≡ refused
  pub heard : Consumes left left' (reply_frames version replies)
  pub tells : Appends told told' (reply_lines replies)

-- The replies that are told stand at the front of what was to be heard.
pub record TellsSome (version : WireVersion) (left told told' : Option (List ℕ)) : Type 0 where
  pub replies : List Reply
  pub heard : HasFront left (reply_frames version replies)
  pub tells : Appends told told' (reply_lines replies)

-- A fact that holds where a fault ends it other than that of the output.
abbrev pub IfUntold : {T : Type 0} → Result T AskFault → Type 0 → Type 0
IfUntold (Ok x) P = ⊤
IfUntold (Err fault.CannotWrite) P = ⊤
IfUntold (Err other) P = P

-- Where replies were told, so many and with this refusal, there are such now.
abbrev pub TellsOn : WireVersion → Option (List ℕ) → Option (List ℕ) → Option (List ℕ) → Option (List ℕ) → ℕ → Bool → ℕ → Bool → Type 0
TellsOn version left left' told told' count refused count' refused' =
    (l o : Option (List ℕ)) → Tells version l left o told count refused → Tells version l left' o told' count' refused'

-- Where replies were told, so many and with this refusal, those that are told now stand at the front of what was to be heard.
abbrev pub TellsSomeOn : WireVersion → Option (List ℕ) → Option (List ℕ) → Option (List ℕ) → ℕ → Bool → Type 0
TellsSomeOn version left told told' count refused =
    (l o : Option (List ℕ)) → Tells version l left o told count refused → TellsSome version l o told'
