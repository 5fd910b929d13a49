-- Lists that begin with others.
use Rattle.std.proofs.Common.{◌≡◌, List, [], ◌∷◌, ◌++◌, length, drop, append_assoc, sym, ap, ◌∙◌, refl}
use Rattle.std.proofs.lemmas.List.{append-nil}
use Rattle.std.proofs.Math.Seq.{drop-append_seam}
use Rattle.s4_calls.specs.Logs.{IsPrefix}

module _ {A : Type 0} where
  pub prefix_by : (xs more ys : List A) → ys ≡ xs ++ more → IsPrefix xs ys
  prefix_by xs more ys e = e ∙ ap (λ l. xs ++ l) (sym (ap (λ l. drop (length xs) l) e ∙ drop-append_seam xs more))

  pub prefix_of_all : (ys : List A) → IsPrefix [] ys
  prefix_of_all ys = refl

  pub prefix_of_itself : (xs : List A) → IsPrefix xs xs
  prefix_of_itself xs = prefix_by xs [] xs (sym (append-nil xs))

  -- of a list that goes on
  pub prefix_on : (xs ys more : List A) → IsPrefix xs ys → IsPrefix xs (ys ++ more)
  prefix_on xs ys more p = prefix_by xs (drop (length xs) ys ++ more) (ys ++ more) (ap (λ l. l ++ more) p ∙ append_assoc xs (drop (length xs) ys) more)
