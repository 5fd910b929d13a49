use Rattle.std.proofs.Common.{rules, ◌≡◌, ◌++◌, ℕ, ◌+◌, ◌<◌, ◌==◌, ◌^◌, cond, List, [], ◌∷◌, refl, sym, ap, subst, ◌∙◌, append_assoc, add-one, arith}
use Rattle.std.proofs.lemmas.List.{append-nil}
use Rattle.std.proofs.lemmas.Bool.Decides.{nat_tests}
use Rattle.s4_jobs.specs.Seats.{Seat}
use Rattle.s4_sockets.specs.Accepted.{numbers_to}
use Rattle.s4_sockets.proofs.accepting.accept_all.Goals as goal

numbers_next : (n : ℕ) → numbers_to (n + 1) ≡ numbers_to n ++ ((n + 1) ∷ [])
numbers_next n = rw add-one refl

next_is : (n m c : ℕ) → m ≡ cond (n == 18446744073709551615) 1 (n + 1) → n < c → c < 2 ^ 32 → m ≡ n + 1
next_is n m c next below few = grind (arith, nat_tests)

some_next : (n m : ℕ) → m ≡ cond (n == 18446744073709551615) 1 (n + 1) → 0 < m
some_next n m next = grind (arith, nat_tests)

-- one more connection is put
put_next : (n m c : ℕ) (old put new : List ℕ) → m ≡ n + 1 → put ≡ old ++ numbers_to n → new ≡ put ++ (m ∷ []) → new ≡ old ++ numbers_to m
put_next n m c old put new next was is =
    is ∙ (ap (λ (l : List ℕ). l ++ (m ∷ [])) was
    ∙ (append_assoc old (numbers_to n) (m ∷ [])
    ∙ ap (λ (l : List ℕ). old ++ l) (subst (λ (k : ℕ). numbers_to n ++ (k ∷ []) ≡ numbers_to k) (sym next) (sym (numbers_next n)))))

pub loop-init : goal.loop-init
loop-init g c = (refl, λ some. (some, sym (append-nil c.args.seat.now.put)))

pub returns-then-number-from-clause-put : goal.returns-then-number-from-clause-put
returns-then-number-from-clause-put g c = λ _.
    let n = c.loop.number in
    let m = c.number_after-number.result in
    let last : m ≡ c.args.connections = search rules in
    let few : c.args.connections < 2 ^ 32 = search rules in
    let positive = some_next n m c.number_after-number.ensures in
    let some : 0 < c.args.connections = omega arith in
    let inv = c.loop.invariant.1 some in
    let put : c.put.new.seat.put ≡ c.loop.seat.put ++ (m ∷ []) = ap (λ (s : Seat). s.put) c.put.ensures in
    subst (λ (k : ℕ). c.put.new.seat.put ≡ c.args.seat.now.put ++ numbers_to k) last
    (put_next n m c.args.connections c.args.seat.now.put c.loop.seat.put c.put.new.seat.put (next_is n m c.args.connections c.number_after-number.ensures inv.0 few) inv.1 put)

pub returns-then-number-from-clause-fewer : goal.returns-then-number-from-clause-fewer
returns-then-number-from-clause-fewer g c = λ some.
    let n = c.loop.number in
    let m = c.number_after-number.result in
    let last : m ≡ c.args.connections = search rules in
    let few : c.args.connections < 2 ^ 32 = search rules in
    let inv = c.loop.invariant.1 some in
    let put : c.put.new.seat.put ≡ c.loop.seat.put ++ (m ∷ []) = ap (λ (s : Seat). s.put) c.put.ensures in
    record {
      count = m;
      few = omega arith;
      put = put_next n m c.args.connections c.args.seat.now.put c.loop.seat.put c.put.new.seat.put (next_is n m c.args.connections c.number_after-number.ensures inv.0 few) inv.1 put;
    }

pub loop-preserved : goal.loop-preserved
loop-preserved g c =
    let n = c.loop.number in
    let m = c.number_after-number.result in
    let few : c.args.connections < 2 ^ 32 = search rules in
    let other : ¬ (m ≡ c.args.connections) = search rules in
    let queue : c.put.new.seat.queue ≡ c.args.seat.now.queue = search rules in
    let put : c.put.new.seat.put ≡ c.loop.seat.put ++ (m ∷ []) = ap (λ (s : Seat). s.put) c.put.ensures in (
      queue,
      λ some.
          let inv = c.loop.invariant.1 some in
          let next = next_is n m c.args.connections c.number_after-number.ensures inv.0 few in
          (omega arith, put_next n m c.args.connections c.args.seat.now.put c.loop.seat.put c.put.new.seat.put next inv.1 put),
    )
