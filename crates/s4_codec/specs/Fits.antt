-- Replies to callers of several versions.
use Rattle.std.specs.Prelude.{ℕ, Bool, true, ◌&&◌, List, [], ◌∷◌, ◌++◌}
use Rattle.s4_types.specs.declared.reply.Reply.{Reply}
use Rattle.s4_types.specs.declared.principal.WireVersion.{WireVersion}
use Rattle.s4_codec.specs.Frames.{framed}
use Rattle.s4_codec.specs.Replies.{reply, has_body}

-- whether each reply has a spelling within a frame of its caller's version
abbrev pub fit : List WireVersion → List Reply → Bool
fit [] xs = true
fit (version ∷ versions) [] = true
fit (version ∷ versions) (x ∷ xs) = has_body version x && fit versions xs

-- the frames of replies, each in its caller's version
abbrev pub frames : List WireVersion → List Reply → List ℕ
frames [] xs = []
frames (version ∷ versions) [] = []
frames (version ∷ versions) (x ∷ xs) = framed ((reply version).spell x) ++ frames versions xs
