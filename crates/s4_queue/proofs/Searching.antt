-- What a search in halves has found.
use Rattle.std.proofs.Common.{◌≡◌, ◌⊎◌, inl, inr, ℕ, zero, suc, ◌+◌, ◌<◌, ◌≤◌, Bool, true, false, List, [], ◌∷◌, refl, sym, ◌∙◌, ap, subst, arith, length, get_or, Bor}
use Rattle.std.specs.Prelude.{Option, Some, None, IsSome, slice_get}
use Rattle.std.specs.Option.{option_copied}
use Rattle.std.specs.Fn.{Called, AlwaysReturns}
use Rattle.std.specs.List.{HoldsAt, AllWithin}
use Rattle.std.specs.List.Sorted.{IsPartitionPoint, IsPartitionedBy}
use Rattle.std.proofs.lemmas.Option.{get_or_from_slice_get}
use Rattle.std.proofs.lemmas.Bool.{false≢true}
use denote.Param.Members.{Mut}

-- what a call answers, and what calls after it will
pub answers_next : {F X R : Type 0} (g : Mut F X R) (P : X → R → Type 0) (f : F) (a : X) (r : R) (f' : F) → Called g f a r f' → AlwaysReturns g P f → P a r × AlwaysReturns g P f'
answers_next g P f a r f' c h = ((h.at (a ∷ []) r f' c).0, record { at = λ xs. (h.at (a ∷ xs) r f' c).1 })

fails : (b : Bool) → (b ≡ true → ⊥) → b ≡ false
fails true h = absurd (h refl)
fails false h = refl

module _ {T : Type 0} (p : T → Bool) (xs : List T) where
  -- The first of so many items passes, or is the first of all. None behind them does.
  pub record Halved (base size : ℕ) : Type 0 where
    pub low : (base ≡ 0) ⊎ HoldsAt (λ y. p y ≡ true) xs base
    pub high : IsPartitionedBy p xs → AllWithin (λ y. p y ≡ false) xs (base + size) (length xs)

  from-failing : (m low : ℕ) → m ≤ low → HoldsAt (λ y. p y ≡ false) xs m → IsPartitionedBy p xs → AllWithin (λ y. p y ≡ false) xs low (length xs)
  from-failing m low h q first k d a b = fails _ (λ t. false≢true (sym (q d) ∙ first m k d (omega arith) b t))

  pub unhalved : Halved 0 (length xs)
  unhalved = record { low = inl refl; high = λ first k d a b. absurd (omega arith) }

  pub failed : (base size mid left : ℕ) → mid ≤ base + left → Halved base size → HoldsAt (λ y. p y ≡ false) xs mid → Halved base left
  failed base size mid left h n q = record { low = n.low; high = from-failing mid (base + left) h q }

  pub passed : (base size mid left : ℕ) → base + size ≤ mid + left → Halved base size → HoldsAt (λ y. p y ≡ true) xs mid → Halved mid left
  passed base size mid left h n q = record { low = inr q; high = λ first k d a b. n.high first k d (omega arith) b }

  pub after_passing : (base size : ℕ) → size ≤ 1 → base < length xs → Halved base size → HoldsAt (λ y. p y ≡ true) xs base → IsPartitionedBy p xs
      → IsPartitionPoint (λ y. p y ≡ true) (λ y. p y ≡ false) xs (base + 1)
  after_passing base size one within n q first = (λ k d a b. first k base d (omega arith) within (q d), λ k d a b. n.high first k d (omega arith) b)

  pub at_failing : (base size : ℕ) → Halved base size → HoldsAt (λ y. p y ≡ false) xs base → IsPartitionedBy p xs → IsPartitionPoint (λ y. p y ≡ true) (λ y. p y ≡ false) xs base
  at_failing base size n q first = (below n.low, from-failing base base (omega arith) q first)
    where
      below : (base ≡ 0) ⊎ HoldsAt (λ y. p y ≡ true) xs base → AllWithin (λ y. p y ≡ true) xs 0 base
      below (inl e) k d a b = absurd (omega arith)
      below (inr t) k d a b = absurd (false≢true (sym (q d) ∙ t d))

-- what was read is the item at that place
pub read_of : {T : Type 0} (xs : List T) (i : ℕ) (got : Option (Bor T)) (b : Bor T) → option_copied got ≡ slice_get xs i → got ≡ Some b → (d : T) → get_or xs i d ≡ b.now
read_of xs i got b e is d = get_or_from_slice_get xs i b.now d (sym e ∙ ap option_copied is)

pub holds_read : {T : Type 0} (P : T → Type 0) (xs : List T) (i : ℕ) (got : Option (Bor T)) (b : Bor T) → option_copied got ≡ slice_get xs i → got ≡ Some b → P b.now → HoldsAt P xs i
holds_read P xs i got b e is q d = subst P (sym (read_of xs i got b e is d)) q

pub some_read : {T : Type 0} (xs : List T) (i : ℕ) (got : Option (Bor T)) → option_copied got ≡ slice_get xs i → i < length xs → IsSome got
some_read xs i (Some b) e l = refl
some_read [] i None e l = absurd (omega arith)
some_read (x ∷ xs) zero None e l = absurd cc
some_read (x ∷ xs) (suc i) None e l = some_read xs i None e (omega arith)
