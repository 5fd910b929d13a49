-- A length that is set in front of bytes that are there.
use Rattle.std.proofs.Common.{◌≡◌, ℕ, ◌+◌, ◌-◌, ◌≤◌, List, [], ◌++◌, length, take, drop, sym, ap, ◌∙◌, arith}
use Rattle.std.proofs.lemmas.List.{append-nil, drop-drop, drop_all, drop_at, length-append, length-drop, length-take, take_all, take_at}
use Rattle.byteorder.specs.Endian.{big_bytes}
use Rattle.s4_codec.specs.Frames.{framed}

-- what is written over the first four bytes of those from start on
pub length_set : (start count : ℕ) (xs buf : List ℕ) → start + 4 ≤ length xs → count ≡ length xs - (start + 4) → buf ≡ big_bytes 4 count ++ drop 4 (take (length xs - start) (drop start xs))
    → take (length xs) ((take start xs ++ (buf ++ drop (length xs - start) (drop start xs))) ++ drop (length (take start xs ++ (buf ++ drop (length xs - start) (drop start xs)))) xs) ≡ take start xs ++ framed (drop (start + 4) xs)
length_set start count xs buf there is wrote =
    let behind : List ℕ = drop (start + 4) xs in
    let size = length-drop start xs in
    let rest : drop 4 (take (length xs - start) (drop start xs)) ≡ behind = ap (drop 4) (take_all (length xs - start) (drop start xs) (omega (arith, size))) ∙ drop-drop 4 start xs in
    let none : drop (length xs - start) (drop start xs) ≡ [] = drop_all (length xs - start) (drop start xs) (omega (arith, size)) in
    let framed_behind : buf ≡ framed behind = wrote ∙ ap (λ (w : List ℕ). big_bytes 4 count ++ w) rest ∙ ap (λ (n : ℕ). big_bytes 4 n ++ behind) (is ∙ sym (length-drop (start + 4) xs)) in
    let tail : buf ++ drop (length xs - start) (drop start xs) ≡ framed behind = ap (λ (w : List ℕ). buf ++ w) none ∙ append-nil buf ∙ framed_behind in
    let all : List ℕ = take start xs ++ framed behind in
    let len : length all ≡ length xs = omega (arith, there, length-append (take start xs) (framed behind), length-take start xs, length-drop (start + 4) xs) in
    ap (λ (w : List ℕ). take (length xs) ((take start xs ++ w) ++ drop (length (take start xs ++ w)) xs)) tail ∙ take_at all (drop (length all) xs) (length xs) len

-- what was added behind four bytes that were added
pub added_behind : (start : ℕ) (before head between body after : List ℕ) → start ≡ length before → length head ≡ 4 → between ≡ before ++ head → after ≡ between ++ body → drop (start + 4) after ≡ body
added_behind start before head between body after is four one two =
    let len : length (before ++ head) ≡ start + 4 = omega (arith, is, four, length-append before head) in
    ap (drop (start + 4)) (two ∙ ap (λ (w : List ℕ). w ++ body) one) ∙ drop_at (before ++ head) body (start + 4) len
