-- Records that leave all that is kept as it is.
use Rattle.std.proofs.Common.{◌≡◌, ℕ, true, false, not, List, [], ◌∷◌, ◌++◌, refl, ◌∙◌, ap, ◌+◌}
use Rattle.std.specs.Prelude.{◌&&◌}
use Rattle.s4_types.specs.declared.object.Purse.{Purse}
use Rattle.s4_types.specs.declared.object.ObjectId.{ObjectId}
use Rattle.s4_types.specs.declared.request.Request.{Request}
use Rattle.s4_types.specs.declared.request.Request.TheVariants.{Create, Delete, Write, Append, Truncate, SetAttr, SetAcl, PCreate, PDelete, Flush, FlushO, SetWindow, SetBudget}
use Rattle.s4_types.specs.declared.record.Record.{Record}
use Rattle.s4_types.specs.declared.version.Version.{Version}
use Rattle.s4_types.specs.Kinds.{is_refused, only_reads}
use Rattle.s4_types.specs.Base.{Base}
use Rattle.s4_types.proofs.Booleans.{&&-false}
use Rattle.s4_store.specs.Chains.{Chains}
use Rattle.s4_parts.specs.declared.parts.Parts.{Parts as Table}
use Rattle.s4_objects.specs.declared.objects.Objects.{Objects}
use Rattle.s4_types.specs.Counts.{counted, made_by}
use Rattle.s4_state.specs.Flushes.{is_flush}
use Rattle.s4_state.specs.Sound.{IsSound, IsNext}
use Rattle.s4_state.specs.Stands.{StandsFor}
use Rattle.s4_state.proofs.Standing.{stands_idle}
use Rattle.s4_state.proofs.Binding.{stands_window, stands_budget}

-- a request that is neither kind of flush
pub no_flush : (q : Request) → ((from to : ℕ) → q ≡ Flush from to → ⊥) → ((o : ObjectId) (from to : ℕ) → q ≡ FlushO o from to → ⊥) → is_flush q ≡ false
no_flush (Flush from to) a b = absurd (a from to refl)
no_flush (FlushO o from to) a b = absurd (b o from to refl)
no_flush _ a b = refl

-- the request is none of those that change objects or names, flushes aside
pub record IsOther (q : Request) : Type 0 where
  pub create : (number : ℕ) → q ≡ Create number → ⊥
  pub delete : (o : ObjectId) → q ≡ Delete o → ⊥
  pub write : (o : ObjectId) (offset : ℕ) (bytes : List ℕ) → q ≡ Write o offset bytes → ⊥
  pub append : (o : ObjectId) (bytes : List ℕ) → q ≡ Append o bytes → ⊥
  pub truncate : (o : ObjectId) (length : ℕ) → q ≡ Truncate o length → ⊥
  pub attributes : (o : ObjectId) (bytes : List ℕ) → q ≡ SetAttr o bytes → ⊥
  pub acl : (o : ObjectId) (user rights : ℕ) → q ≡ SetAcl o user rights → ⊥
  pub bind : (name : List ℕ) (o : ObjectId) → q ≡ PCreate name o → ⊥
  pub unbind : (purse : Purse) (name : List ℕ) → q ≡ PDelete purse name → ⊥

module _ {base : Base} {size : ℕ} {chains : Chains Version} {kept : Objects} {serials : Purse → ℕ} {table : Table} {h : List Record} (s : StandsFor base size chains kept serials table h) (r : Record) (sound : IsSound base (h ++ r ∷ [])) where
  -- a record that was refused
  pub stands_refused : is_refused r.reply ≡ true → StandsFor base (size + counted made_by r) chains kept serials table (h ++ r ∷ [])
  stands_refused refused = stands_idle s r sound (ap (λ b. not b && not (only_reads r.request)) refused)

  -- a record that only reads
  stands_read : only_reads r.request ≡ true → StandsFor base (size + counted made_by r) chains kept serials table (h ++ r ∷ [])
  stands_read reads = stands_idle s r sound (ap (λ b. not (is_refused r.reply) && not b) reads ∙ &&-false (not (is_refused r.reply)))

  -- a record that does neither of these changes, and is no flush
  module _ (n : IsNext base h r) (granted : is_refused r.reply ≡ false) where
    pub stands_rest : (q : Request) → r.request ≡ q → is_flush q ≡ false → IsOther q → StandsFor base (size + counted made_by r) chains kept serials table (h ++ r ∷ [])
    stands_rest (SetWindow ticks) asked f other = stands_window s n granted asked sound
    stands_rest (SetBudget purse budget) asked f other = stands_budget s n granted asked sound
    stands_rest (Flush from to) asked f other = cc
    stands_rest (FlushO o from to) asked f other = cc
    stands_rest (Create number) asked f other = absurd (other.create number refl)
    stands_rest (Delete o) asked f other = absurd (other.delete o refl)
    stands_rest (Write o offset bytes) asked f other = absurd (other.write o offset bytes refl)
    stands_rest (Append o bytes) asked f other = absurd (other.append o bytes refl)
    stands_rest (Truncate o length) asked f other = absurd (other.truncate o length refl)
    stands_rest (SetAttr o bytes) asked f other = absurd (other.attributes o bytes refl)
    stands_rest (SetAcl o user rights) asked f other = absurd (other.acl o user rights refl)
    stands_rest (PCreate name o) asked f other = absurd (other.bind name o refl)
    stands_rest (PDelete purse name) asked f other = absurd (other.unbind purse name refl)
    stands_rest _ asked f other = stands_read (ap only_reads asked)
