-- Calls of a served drive.
use Rattle.std.specs.Prelude.{ℕ, Option, List, [], ◌∷◌, ◌++◌}
use Rattle.std.specs.Io.KnownBytes.{Appends, Consumes}
use Rattle.s4_types.specs.declared.principal.WireVersion.{WireVersion}
use Rattle.s4_types.specs.declared.reply.Reply.{Reply}
use Rattle.s4_script.specs.Texts.{reply_text}
use Rattle.s4_stream.specs.Talk.{welcome, reply_frame}

-- the Welcome of the version and a reply in it are read, and the reply's text is written, with a line feed
abbrev pub TellsReply : WireVersion → Option (List ℕ) → Option (List ℕ) → Option (List ℕ) → Option (List ℕ) → Type 0
TellsReply version left left' held held' = (reply : Reply) × Consumes left left' (welcome version ++ reply_frame version reply)
    × Appends held held' (reply_text reply ++ 10 ∷ [])

-- the text of a reply is written, with a line feed
abbrev pub TellsSomeReply : Option (List ℕ) → Option (List ℕ) → Type 0
TellsSomeReply held held' = (reply : Reply) × Appends held held' (reply_text reply ++ 10 ∷ [])
