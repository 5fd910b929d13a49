-- What was asked and told, side by side.
use Rattle.std.proofs.Common.{◌≡◌, ℕ, List, [], ◌∷◌, ◌++◌, length, drop, zero, suc, refl, ap, arith}
use Rattle.s4_passes.specs.declared.call.Asked.{Asked}
use Rattle.s4_passes.specs.declared.call.Receipt.{Receipt}
use Rattle.s4_passes.specs.Calls.{call_of, calls_of, receipts_of}

pub receipts_of-calls_of : (xs : List Asked) (rs : List Receipt) → length xs ≡ length rs → receipts_of (calls_of xs rs) ≡ rs
receipts_of-calls_of [] [] e = refl
receipts_of-calls_of [] (r ∷ rs) e = cc
receipts_of-calls_of (x ∷ xs) [] e = cc
receipts_of-calls_of (x ∷ xs) (r ∷ rs) e = ap (λ l. r ∷ l) (receipts_of-calls_of xs rs (omega arith))

pub calls_of-push : (xs : List Asked) (rs : List Receipt) (x : Asked) (r : Receipt) → length xs ≡ length rs → calls_of (xs ++ x ∷ []) (rs ++ r ∷ []) ≡ calls_of xs rs ++ call_of x r ∷ []
calls_of-push [] [] x r e = refl
calls_of-push [] (s ∷ rs) x r e = cc
calls_of-push (y ∷ xs) [] x r e = cc
calls_of-push (y ∷ xs) (s ∷ rs) x r e = ap (λ l. call_of y s ∷ l) (calls_of-push xs rs x r (omega arith))

pub length-calls_of : (xs : List Asked) (rs : List Receipt) → length xs ≡ length rs → length (calls_of xs rs) ≡ length rs
length-calls_of [] [] e = refl
length-calls_of [] (r ∷ rs) e = cc
length-calls_of (x ∷ xs) [] e = cc
length-calls_of (x ∷ xs) (r ∷ rs) e = ap suc (length-calls_of xs rs (omega arith))

pub drop-calls_of : (n : ℕ) (xs : List Asked) (rs : List Receipt) → length xs ≡ length rs → calls_of (drop n xs) (drop n rs) ≡ drop n (calls_of xs rs)
drop-calls_of zero xs rs e = refl
drop-calls_of (suc n) [] [] e = refl
drop-calls_of (suc n) [] (r ∷ rs) e = cc
drop-calls_of (suc n) (x ∷ xs) [] e = cc
drop-calls_of (suc n) (x ∷ xs) (r ∷ rs) e = drop-calls_of n xs rs (omega arith)
