-- What is current began by now.
use Rattle.std.proofs.Common.{◌≡◌, ℕ, ◌≤◌, Bool, true, false, Option, Some, None, List, [], ◌∷◌, refl, sym, subst}
use Rattle.std.specs.Prelude.{IfSome, nat_le, is_some, if◌then◌else◌}
use Rattle.std.specs.Option.{option_map}
use Rattle.std.proofs.lemmas.Bool.{leb-true}
use Rattle.s4_types.specs.Base.{Base}
use Rattle.s4_types.specs.declared.object.Purse.{Purse}
use Rattle.s4_types.specs.declared.object.ObjectId.{ObjectId}
use Rattle.s4_types.specs.declared.record.Record.{Record}
use Rattle.s4_types.specs.declared.version.Version.{Version}
use Rattle.s4_types.specs.declared.version.Item.{Item}
use Rattle.s4_types.specs.declared.version.Item.TheVariants as item
use Rattle.s4_types.specs.Versions.{Track, Value, versions, value_at, ends_by, in_force_by, lives_at, data_track, attribute_track, acl_track}
use Rattle.s4_types.specs.Play.{last_of}
use Rattle.s4_store.specs.Chains.{Chains, newest_of}
use Rattle.s4_tracks.specs.Chain.{endless}
use Rattle.s4_objects.specs.declared.kept.Which.{Which}
use Rattle.s4_objects.specs.declared.kept.Which.TheVariants as which
use Rattle.s4_objects.specs.declared.objects.Objects.{Objects}
use Rattle.s4_objects.specs.Table.{held_in}
use Rattle.s4_parts.specs.declared.parts.Parts.{Parts as Table}
use Rattle.s4_state.specs.Laid.{version_of, version_at}
use Rattle.s4_state.specs.Stands.{StandsFor}
use Rattle.s4_state.proofs.Reading.{held-told, current-held}

pub by_then : {V : Type 0} (m : ℕ) (vs : List (Value V)) → IfSome (in_force_by m vs) (λ v. v.begin ≤ m)
by_then m [] = tt
by_then {V} m (v ∷ past) = (elim (nat_le v.begin m) as (λ b. nat_le v.begin m ≡ b → IfSome (if b then (if ends_by m v.end then None else Some v) else in_force_by m past) (λ (x : Value V). x.begin ≤ m)) [
  | true ↦ λ e. elim (ends_by m v.end) as (λ b. IfSome (if b then None else Some v) (λ (x : Value V). x.begin ≤ m)) [ true ↦ tt | false ↦ leb-true v.begin m e ]
  | false ↦ λ e. by_then m past
]) refl

mapped : {V : Type 0} (track : Track V) (wrap : V → Item) (m : ℕ) (x : Option (Value V)) → IfSome x (λ v. v.begin ≤ m) → IfSome (option_map (version_of track wrap) x) (λ v. v.begin ≤ m)
mapped track wrap m None h = tt
mapped track wrap m (Some v) h = h

version-then : (base : Base) (w : Which) (o : ObjectId) (m : ℕ) (h : List Record) → IfSome (version_at base w o m h) (λ v. v.begin ≤ m)
version-then base which.Data o m h = mapped data_track item.Data m (value_at base data_track o m h) (by_then m (versions base data_track o h))
version-then base which.Attributes o m h = mapped attribute_track item.Attr m (value_at base attribute_track o m h) (by_then m (versions base attribute_track o h))
version-then base which.Acl o m h = mapped acl_track item.Acl m (value_at base acl_track o m h) (by_then m (versions base acl_track o h))

pub newest-then : (m : ℕ) (x : Option Version) → is_some (endless x) ≡ true → IfSome (endless x) (λ v. v.begin ≤ m) → IfSome x (λ v. v.begin ≤ m)
newest-then m None e h = tt
newest-then m (Some v) e h = go (is_some v.end) e h
  where
    go : (b : Bool) → is_some (if b then None else Some v) ≡ true → IfSome (if b then None else Some v) (λ (x : Version). x.begin ≤ m) → v.begin ≤ m
    go true e h = cc
    go false e h = h

-- where the object lives, the newest value that is held of a track began by now
pub newest_began : {base : Base} {size : ℕ} {chains : Chains Version} {kept : Objects} {serials : Purse → ℕ} {table : Table} {h : List Record} (s : StandsFor base size chains kept serials table h) (o : ObjectId)
    (t : ℕ) → last_of h ≤ t → lives_at base t o h ≡ true → (w : Which) → IfSome (newest_of (held_in chains kept o w)) (λ v. v.begin ≤ t)
newest_began {base} {size} {chains} {kept} {serials} {table} {h} s o t l lives w =
    newest-then t (newest_of (held_in chains kept o w)) (current-held s o t l lives w)
    (subst (λ (x : Option Version). IfSome x (λ v. v.begin ≤ t)) (sym (held-told s o t l None tt w)) (version-then base w o t h))
