use Rattle.std.proofs.Common.{◌≡◌, map, take, string_bytes}
use Rattle.s4_command_line.proofs.causes.paths_in.Given as goal

-- the paths so far are the words so far
abbrev pub invariant-loop-word : goal.invariant-loop-word
invariant-loop-word l = map (λ path. string_bytes path) l.paths.items ≡ map (λ word. word.now) (take l.word-index l.words)
