-- A text that is shorter than what was asked for is the whole of it.
use Rattle.std.specs.Prelude.{◌≡◌, ℕ, ◌+◌, ◌≤◌, List, length, Option, Some, None, IfSome, take, min}
use Rattle.std.specs.Option.{option_map}
use Rattle.std.proofs.Common.{ap, ◌∙◌, arith}
use Rattle.std.proofs.lemmas.List.{length-take, take_all}

-- so many bytes and one more were asked for, and no more than so many came
pub whole-of-taken : (limit : ℕ) (known : Option (List ℕ)) (text : List ℕ) → IfSome (option_map (take (limit + 1)) known) (λ bytes. text ≡ bytes) → length text ≤ limit → IfSome known (λ bytes. text ≡ bytes)
whole-of-taken limit None text taken short = tt
whole-of-taken limit (Some bytes) text taken short =
    let l : length text ≡ min (limit + 1) (length bytes) = ap length taken ∙ length-take (limit + 1) bytes in
    let few : length bytes ≤ limit + 1 = grind (arith, l, short) in
    taken ∙ take_all (limit + 1) bytes few
