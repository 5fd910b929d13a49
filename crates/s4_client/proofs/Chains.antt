-- Bytes that are read, and written, one after another.
use Rattle.std.proofs.Common.{◌≡◌, ℕ, ◌+◌, ◌-◌, arith, length, Option, Some, None, List, [], ◌++◌, take, drop, sym, ap, ◌∙◌, append_assoc}
use Rattle.std.proofs.lemmas.List.{append-nil, length-drop, take_all}
use Rattle.std.proofs.Math.Seq.{take-add}
use Rattle.std.specs.Io.KnownBytes.{Appends, Consumes, Keeps}

pub consumes_both : (a b c : Option (List ℕ)) (xs ys : List ℕ) → Consumes a b xs → Consumes b c ys → Consumes a c (xs ++ ys)
consumes_both None b c xs ys first second = tt
consumes_both (Some l) None c xs ys first second = absurd first
consumes_both (Some l) (Some m) None xs ys first second = absurd second
consumes_both (Some l) (Some m) (Some n) xs ys first second = first ∙ (ap (λ (w : List ℕ). xs ++ w) second ∙ sym (append_assoc xs ys n))

-- what is left of bytes is all that comes behind the first of them
left_over : (sent : ℕ) (bytes : List ℕ) → take (length bytes - sent) (drop sent bytes) ≡ drop sent bytes
left_over sent bytes = take_all (length bytes - sent) (drop sent bytes) (omega (arith, length-drop sent bytes))

-- the next n bytes are written
pub appends_more : (a b c : Option (List ℕ)) (sent n : ℕ) (bytes : List ℕ) → Appends a b (take sent bytes) → Appends b c (take n (take (length bytes - sent) (drop sent bytes))) → Appends a c (take (sent + n) bytes)
appends_more None b c sent n bytes first second = tt
appends_more (Some l) None c sent n bytes first second = absurd first
appends_more (Some l) (Some m) None sent n bytes first second = absurd second
appends_more (Some l) (Some m) (Some k) sent n bytes first second =
    second ∙ (ap (λ (w : List ℕ). m ++ take n w) (left_over sent bytes)
    ∙ (ap (λ (w : List ℕ). w ++ take n (drop sent bytes)) first
    ∙ (append_assoc l (take sent bytes) (take n (drop sent bytes)) ∙ ap (λ (w : List ℕ). l ++ w) (sym (take-add sent n bytes)))))

-- a write that failed, or was interrupted, appended nothing; where no byte was taken nothing was appended
pub kept_none : (a b : Option (List ℕ)) → Keeps a b → Appends a b []
kept_none None b kept = tt
kept_none (Some l) None kept = absurd kept
kept_none (Some l) (Some m) kept = kept ∙ sym (append-nil l)

pub none_kept : (a b : Option (List ℕ)) → Appends a b [] → Keeps a b
none_kept None b none = tt
none_kept (Some l) None none = absurd none
none_kept (Some l) (Some m) none = none ∙ append-nil l
