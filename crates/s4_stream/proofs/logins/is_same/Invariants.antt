use Rattle.std.proofs.Common.{◌≡◌, nat_eq, take}
use Rattle.std.specs.Cmp.Lexicographic.{pointwise}
use Rattle.s4_stream.proofs.logins.is_same.Given as goal

abbrev pub invariant-loop-place : goal.invariant-loop-place
invariant-loop-place l = l.same ≡ pointwise nat_eq (take l.place l.known) (take l.place l.secret)
