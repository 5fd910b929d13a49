-- Parts of parts of a block.
use Rattle.std.proofs.Common.{◌≡◌, ◌∙◌, ℕ, ◌+◌, ◌-◌, ◌≤◌, List, take, drop, ap, sym, subst, arith, length, length-take, take-take, drop-drop}
use Rattle.std.proofs.lemmas.List.{drop-take}

pub part-of-part : (first room : ℕ) (start end : ℕ) (bytes : List ℕ) → start ≤ end → end ≤ room → take (first + end - (first + start)) (drop (first + start) bytes) ≡ take (end - start) (drop start (take room (drop first bytes)))
part-of-part first room start end bytes p q =
    let rest = drop first bytes in
    ap (λ n. take n (drop (first + start) bytes)) {x = first + end - (first + start)} {y = end - start} (omega arith)
    ∙ sym (ap (take (end - start)) (drop-drop start first bytes))
    ∙ sym (take-take (end - start) (room - start) (drop start rest) (omega arith))
    ∙ sym (ap (take (end - start)) (drop-take start (room - start) rest))
    ∙ ap (λ n. take (end - start) (drop start (take n rest))) {x = start + (room - start)} {y = room} (omega arith)

-- what lies in a part lies in its room
pub inside-room : (room : ℕ) (end : ℕ) (bytes : List ℕ) → end ≤ length (take room bytes) → end ≤ room
inside-room room end bytes p = let q = subst (λ n. end ≤ n) (length-take room bytes) p in omega arith
