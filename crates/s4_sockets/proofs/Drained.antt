-- Reads one after another.
use Rattle.std.proofs.Common.{ℕ, ◌+◌, ◌≤◌, Option, Some, None, List, [], ◌++◌, take, length, refl, sym, ap, ◌∙◌, arith, append_assoc, length-append}
use Rattle.std.proofs.lemmas.List.{length-take}
use Rattle.std.specs.Io.KnownBytes.{Consumes, Keeps}
use Rattle.s4_sockets.specs.Drains.{Drains}

consumes_none : (a : Option (List ℕ)) → Consumes a a []
consumes_none None = tt
consumes_none (Some p) = refl

consumes_kept : (a b : Option (List ℕ)) → Keeps a b → Consumes a b []
consumes_kept None b h = tt
consumes_kept (Some p) None h = absurd h
consumes_kept (Some p) (Some q) h = sym h

consumes_both : (a b c : Option (List ℕ)) (xs ys : List ℕ) → Consumes a b xs → Consumes b c ys → Consumes a c (xs ++ ys)
consumes_both None b c xs ys h k = tt
consumes_both (Some p) None c xs ys h k = absurd h
consumes_both (Some p) (Some q) None xs ys h k = absurd k
consumes_both (Some p) (Some q) (Some r) xs ys h k = h ∙ (ap (λ (z : List ℕ). xs ++ z) k ∙ sym (append_assoc xs ys r))

pub Drains_none : (most : ℕ) (a : Option (List ℕ)) → Drains most a a
Drains_none most a = record { read = []; consumes = consumes_none a; few = omega arith }

pub Drains_kept : (most : ℕ) (a b : Option (List ℕ)) → Keeps a b → Drains most a b
Drains_kept most a b kept = record { read = []; consumes = consumes_kept a b kept; few = omega arith }

pub Drains_taken : (n : ℕ) (a b : Option (List ℕ)) (piece : List ℕ) → Consumes a b (take n piece) → Drains (length piece) a b
Drains_taken n a b piece consumes = record { read = take n piece; consumes = consumes; few = omega (arith, length-take n piece) }

pub Drains_both : (m n : ℕ) (a b c : Option (List ℕ)) → Drains m a b → Drains n b c → Drains (m + n) a c
Drains_both m n a b c first second = record {
  read = first.read ++ second.read;
  consumes = consumes_both a b c first.read second.read first.consumes second.consumes;
  few = (let f = first.few in let s = second.few in omega (arith, length-append first.read second.read));
}

pub Drains_within : (m n : ℕ) (a b : Option (List ℕ)) → m ≤ n → Drains m a b → Drains n a b
Drains_within m n a b within drained = record { read = drained.read; consumes = drained.consumes; few = (let f = drained.few in omega arith) }
