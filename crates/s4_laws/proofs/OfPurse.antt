-- A purse depends on the records that concern it.
use Rattle.std.proofs.Common.{◌≡◌, ℕ, Bool, true, false, not, cond, List, [], ◌∷◌, refl, sym, ◌∙◌, ap, fold, filter}
use Rattle.std.specs.Prelude.{◌&&◌}
use Rattle.std.specs.Option.{option_map}
use Rattle.s4_types.specs.declared.object.Purse.{Purse}
use Rattle.s4_types.specs.declared.object.ObjectId.{ObjectId}
use Rattle.s4_types.specs.declared.record.Record.{Record}
use Rattle.s4_laws.specs.Agree.{AgreeOn}
use Rattle.s4_types.specs.Base.{Base}
use Rattle.s4_types.specs.Serials.{drawn, draws}
use Rattle.s4_types.specs.Kinds.{concerns, is_create}
use Rattle.s4_types.specs.Bindings.{rebound, bindings_after, bindings, bound_at, named_by, names_after, names_of}
use Rattle.s4_types.specs.Versions.{Track, Value, in_force_by, versions, versions_after, after_change, only_kept}
use Rattle.s4_types.proofs.Booleans.{by_test}

-- records that a step passes over may be left out
pub fold-filter : {A X : Type 0} (p : X → Bool) (step : A → X → A) → ((a : A) (x : X) → p x ≡ false → step a x ≡ a) → (a : A) (xs : List X) → fold step a (filter p xs) ≡ fold step a xs
fold-filter p step idle a [] = refl
fold-filter p step idle a (x ∷ xs) = by_test (p x)
    (λ e. ap (λ b. fold step a (cond b (x ∷ filter p xs) (filter p xs))) e ∙ fold-filter p step idle (step a x) xs)
    (λ e. ap (λ b. fold step a (cond b (x ∷ filter p xs) (filter p xs))) e ∙ fold-filter p step idle a xs ∙ ap (λ y. fold step y xs) (sym (idle a x e)))

versions-filter : {V : Type 0} (base : Base) (track : Track V) (o : ObjectId) (h : List Record) → versions base track o (filter (concerns o.purse) h) ≡ versions base track o h
versions-filter base track o h = fold-filter (concerns o.purse) (versions_after track o) (λ values r e. ap (λ b. cond b (after_change track o values r) values) e) (only_kept (option_map track.kept (base.object o))) h

drawn-filter : (base : Base) (purse : Purse) (h : List Record) → drawn base purse (filter (concerns purse) h) ≡ drawn base purse h
drawn-filter base purse h = ap (λ n. Rattle.std.proofs.Common.◌+◌ (base.drawn purse) n) (fold-filter (concerns purse) (λ (n : ℕ) (r : Record). Rattle.std.proofs.Common.◌+◌ n (cond (draws purse r) 1 0))
    (λ n r e. ap (λ b. Rattle.std.proofs.Common.◌+◌ n (cond (b && is_create r.request) 1 0)) e ∙ Rattle.std.proofs.Common.add-zero n) 0 h)

bindings-filter : (base : Base) (purse : Purse) (name : List ℕ) (h : List Record) → bindings base purse name (filter (concerns purse) h) ≡ bindings base purse name h
bindings-filter base purse name h = fold-filter (concerns purse) (bindings_after purse name) (λ old r e. ap (λ b. cond b (rebound purse name r.moment r.request old) old) e) (only_kept (base.binding purse name)) h

names_of-filter : (base : Base) (purse : Purse) (h : List Record) → names_of base purse (filter (concerns purse) h) ≡ names_of base purse h
names_of-filter base purse h = fold-filter (concerns purse) (names_after purse) (λ names r e. ap (λ b. cond b (named_by purse r.request names) names) e) (base.names purse) h

-- two histories that agree on the records of a purse
pub versions-agree : {V : Type 0} (base : Base) (track : Track V) (o : ObjectId) (h k : List Record) → AgreeOn o.purse h k → versions base track o h ≡ versions base track o k
versions-agree base track o h k e = sym (versions-filter base track o h) ∙ ap (versions base track o) e ∙ versions-filter base track o k

pub drawn-agree : (base : Base) (purse : Purse) (h k : List Record) → AgreeOn purse h k → drawn base purse h ≡ drawn base purse k
drawn-agree base purse h k e = sym (drawn-filter base purse h) ∙ ap (drawn base purse) e ∙ drawn-filter base purse k

pub bindings-agree : (base : Base) (purse : Purse) (name : List ℕ) (h k : List Record) → AgreeOn purse h k → bindings base purse name h ≡ bindings base purse name k
bindings-agree base purse name h k e = sym (bindings-filter base purse name h) ∙ ap (bindings base purse name) e ∙ bindings-filter base purse name k

pub names_of-agree : (base : Base) (purse : Purse) (h k : List Record) → AgreeOn purse h k → names_of base purse h ≡ names_of base purse k
names_of-agree base purse h k e = sym (names_of-filter base purse h) ∙ ap (names_of base purse) e ∙ names_of-filter base purse k

pub bound_at-agree : (base : Base) (purse : Purse) (name : List ℕ) (m : ℕ) (h k : List Record) → AgreeOn purse h k → bound_at base purse name m h ≡ bound_at base purse name m k
bound_at-agree base purse name m h k e = ap (λ values. option_map (λ (v : Value ℕ). v.value) (in_force_by m values)) (bindings-agree base purse name h k e)
