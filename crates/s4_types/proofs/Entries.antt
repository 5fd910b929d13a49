-- How many entries an ACL has, once one is changed.
use Rattle.std.proofs.Common.{◌≡◌, ◌≤◌, Bool, true, false, cond, List, [], ◌∷◌, arith, length}
use Rattle.std.specs.Prelude.{◌==◌, filter, if◌then◌else◌}
use Rattle.std.proofs.lemmas.List.{length-map}
use Rattle.s4_types.specs.declared.acl.AclEntry.{AclEntry}
use Rattle.s4_types.specs.Acl.{replaced}

pub length-without : (p : AclEntry → Bool) (xs : List AclEntry) → length (filter p xs) ≤ length xs
length-without p [] = omega arith
length-without p (x ∷ xs) = of (p x) (length-without p xs)
  where
    of : (b : Bool) → length (filter p xs) ≤ length xs → length (cond b (x ∷ filter p xs) (filter p xs)) ≤ length (x ∷ xs)
    of true l = omega arith
    of false l = omega arith

pub length-replaced : (new : AclEntry) (xs : List AclEntry) → length (replaced new xs) ≡ length xs
length-replaced new xs = length-map xs (λ entry. if entry.who == new.who then new else entry)
