-- Lines that are written one behind the other.
use Rattle.std.proofs.Common.{ℕ, Option, Some, None, List, ◌++◌, ap, ◌∙◌, append_assoc}
use Rattle.std.specs.Io.KnownBytes.{Appends}

pub appends_both : (a b c : Option (List ℕ)) (xs ys : List ℕ) → Appends a b xs → Appends b c ys → Appends a c (xs ++ ys)
appends_both None b c xs ys h k = tt
appends_both (Some p) None c xs ys h k = absurd h
appends_both (Some p) (Some q) None xs ys h k = absurd k
appends_both (Some p) (Some q) (Some r) xs ys h k = k ∙ (ap (λ (z : List ℕ). z ++ ys) h ∙ append_assoc p xs ys)
