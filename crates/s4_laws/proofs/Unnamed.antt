-- No entry serves a principal in the ACLs of a purse in which nobody named it or everyone.
use Rattle.std.proofs.Common.{◌≡◌, ℕ, Bool, true, false, cond, not, ◌&&◌, ◌||◌, nat_le, Option, Some, None, List, [], ◌∷◌, fold, refl, ap, sym, subst, ◌∙◌}
use Rattle.std.specs.Option.{option_map}
use Rattle.s4_types.specs.declared.object.Purse.{Purse}
use Rattle.s4_types.specs.declared.object.ObjectId.{ObjectId}
use Rattle.s4_types.specs.declared.acl.AclEntry.{AclEntry}
use Rattle.s4_types.specs.declared.record.Record.{Record}
use Rattle.s4_types.specs.declared.request.Request.{Request}
use Rattle.s4_types.specs.declared.request.Request.TheVariants.{SetAcl}
use Rattle.s4_types.specs.Acl.{acl_with}
use Rattle.s4_types.specs.Names.{same_object}
use Rattle.s4_types.specs.Kinds.{concerns, is_accepted, is_wide, is_about, purse_of}
use Rattle.s4_types.specs.Versions.{Value, versions, versions_after, after_mutation, after_change, span_of, makes, deletes, begun, on_current, with_value, with_effect, with_end, only_kept, ends_by, in_force_by, acl_track, acl_effect}
use Rattle.s4_types.specs.Base.{Base}
use Rattle.s4_types.specs.Judgement.{Held, held_of, held_at, reaches}
use Rattle.s4_types.proofs.Booleans.{both}
use Rattle.s4_types.proofs.Erasing.{flushed-whole}
use Rattle.s4_types.proofs.SameNames.{object_is}
use Rattle.s4_laws.proofs.Entryless.{serves, acl_with-lacks}
use Rattle.s4_laws.proofs.Strangers.{Each, not-true}
use Rattle.std.specs.Bool.{then_some}

-- RECORDS THAT NAME NOBODY ELSEWHERE

-- whether the request is for an entry that can serve the principal, in a purse that isn't near
abbrev pub names_elsewhere : ℕ → (Purse → Bool) → Request → Bool
names_elsewhere who near (SetAcl o user rights) = reaches who user && not (near o.purse)
names_elsewhere who near _ = false

-- whether the record, if it stands for a change, makes no entry that can serve the principal in a purse that isn't near
abbrev pub is_sound : ℕ → (Purse → Bool) → Record → Bool
is_sound who near r = not (is_accepted r && names_elsewhere who near r.request)

accepted-sound : (accepted elsewhere : Bool) → not (accepted && elsewhere) ≡ true → accepted ≡ true → elsewhere ≡ false
accepted-sound true elsewhere e a = not-true elsewhere e
accepted-sound false elsewhere e a = cc

-- VALUES WITHOUT ITS ENTRY

-- whether no entry of the ACL can serve the principal
abbrev pub is_without : ℕ → Value (List AclEntry) → Bool
is_without who v = not (serves who v.value)

-- an ACL, where there is one, has none
abbrev OptionLacks : ℕ → Option (List AclEntry) → Type 0
OptionLacks who None = Unit {0}
OptionLacks who (Some acl) = serves who acl ≡ false

other-than : (user who : ℕ) (near : Purse → Bool) (changed o : ObjectId) → near o.purse ≡ false → (reaches who user && not (near changed.purse)) ≡ false → same_object changed o ≡ true → reaches who user ≡ false
other-than user who near changed o n f e =
    of (reaches who user) (sym (ap (λ b. reaches who user && not b) (ap (λ (x : ObjectId). near x.purse) (object_is changed o e) ∙ n)) ∙ f)
  where
    of : (b : Bool) → (b && true) ≡ false → b ≡ false
    of true g = cc
    of false g = refl

effect-lacks : (who : ℕ) (near : Purse → Bool) (o : ObjectId) (request : Request) (acl : List AclEntry) → near o.purse ≡ false → names_elsewhere who near request ≡ false → serves who acl ≡ false → OptionLacks who (acl_effect o request acl)
effect-lacks who near o (SetAcl changed user rights) acl n f e = of (same_object changed o) (other-than user who near changed o n f)
  where
    of : (b : Bool) → (b ≡ true → reaches who user ≡ false) → OptionLacks who (then_some b (acl_with user rights acl))
    of true other = acl_with-lacks who user rights acl (other refl) e
    of false other = tt
effect-lacks who near o _ acl n f e = tt

with_value-lacks : (who m : ℕ) (next : Option (List AclEntry)) (v : Value (List AclEntry)) (past : List (Value (List AclEntry))) → OptionLacks who next → Each (is_without who) (v ∷ past) → Each (is_without who) (with_value m next v past)
with_value-lacks who m None v past f s = s
with_value-lacks who m (Some acl) v past f s = (ap not f, s)

with_effect-lacks : (who m : ℕ) (near : Purse → Bool) (o : ObjectId) (request : Request) (values : List (Value (List AclEntry))) → near o.purse ≡ false → names_elsewhere who near request ≡ false → Each (is_without who) values → Each (is_without who) (with_effect m (acl_track.effect o request) values)
with_effect-lacks who m near o request [] n f s = tt
with_effect-lacks who m near o request (v ∷ past) n f s = with_value-lacks who m (on_current (acl_effect o request) v.end v.value) v past (of v.end) s
  where
    of : (end : Option ℕ) → OptionLacks who (on_current (acl_effect o request) end v.value)
    of None = effect-lacks who near o request v.value n f (not-true (serves who v.value) s.0)
    of (Some end) = tt

with_end-lacks : (who m : ℕ) (values : List (Value (List AclEntry))) → Each (is_without who) values → Each (is_without who) (with_end m values)
with_end-lacks who m [] s = tt
with_end-lacks who m (v ∷ past) s = s

-- the object stands in a purse that isn't near
pub record IsAway (who : ℕ) (near : Purse → Bool) (purse : Purse) : Type 0 where
  pub creator : reaches who purse.creator ≡ false
  pub far : near purse ≡ false

change-lacks : (who : ℕ) (near : Purse → Bool) (o : ObjectId) (r : Record) (values : List (Value (List AclEntry))) → IsAway who near o.purse → names_elsewhere who near r.request ≡ false → Each (is_without who) values → Each (is_without who) (after_change acl_track o values r)
change-lacks who near o r values a f s = subst (Each (is_without who)) (sym (flushed-whole o (span_of o r.request) (after_mutation acl_track o values r))) (of (makes o r) (deletes o r))
  where
    of : (made ends : Bool) → Each (is_without who) (cond made (begun r.moment (acl_track.start o) ∷ values) (cond ends (with_end r.moment values) (with_effect r.moment (acl_track.effect o r.request) values)))
    of true ends = (ap (λ b. not (b || false)) a.creator, s)
    of false true = with_end-lacks who r.moment values s
    of false false = with_effect-lacks who r.moment near o r.request values a.far f s

fold-lacks : (who : ℕ) (near : Purse → Bool) (o : ObjectId) → IsAway who near o.purse → (h : List Record) → Each (is_sound who near) h → (values : List (Value (List AclEntry))) → Each (is_without who) values → Each (is_without who) (fold (versions_after acl_track o) values h)
fold-lacks who near o a [] s values e = e
fold-lacks who near o a (r ∷ h) s values e = fold-lacks who near o a h s.1 (versions_after acl_track o values r) (of (concerns o.purse r) refl)
  where
    of : (b : Bool) → concerns o.purse r ≡ b → Each (is_without who) (cond b (after_change acl_track o values r) values)
    of true c =
        change-lacks who near o r values a
        (accepted-sound (is_accepted r) (names_elsewhere who near r.request) s.0 (both (is_accepted r) (is_wide r.caller r.request || is_about o.purse (purse_of r.caller r.request)) c).0) e
    of false c = e

-- IN FORCE

-- an ACL in force, where there is one, has no entry that can serve the principal
abbrev pub HeldWithout : ℕ → Option Held → Type 0
HeldWithout who None = Unit {0}
HeldWithout who (Some held) = serves who held.acl ≡ false

force-lacks : (who m : ℕ) (values : List (Value (List AclEntry))) → Each (is_without who) values → HeldWithout who (option_map held_of (in_force_by m values))
force-lacks who m [] s = tt
force-lacks who m (v ∷ past) s = of (nat_le v.begin m) (ends_by m v.end) (force-lacks who m past s.1)
  where
    of : (b c : Bool) → HeldWithout who (option_map held_of (in_force_by m past)) → HeldWithout who (option_map held_of (cond b (cond c None (Some v)) (in_force_by m past)))
    of true true rest = tt
    of true false rest = not-true (serves who v.value) s.0
    of false c rest = rest

-- HISTORIES THAT NAME NOBODY ELSEWHERE

-- the base keeps no ACL with an entry that can serve the principal in a purse that isn't near
abbrev pub KeptWithout : ℕ → (Purse → Bool) → Base → Type 0
KeptWithout who near base = (o : ObjectId) → IsAway who near o.purse → Each (is_without who) (only_kept (option_map acl_track.kept (base.object o)))

-- neither the base nor a record has an entry that can serve the principal in a purse that isn't near
pub record IsUnnamed (who : ℕ) (near : Purse → Bool) (base : Base) (h : List Record) : Type 0 where
  pub kept : KeptWithout who near base
  pub sound : Each (is_sound who near) h

pub held-lacks : (who : ℕ) (near : Purse → Bool) (base : Base) (o : ObjectId) (m : ℕ) (h : List Record) → IsAway who near o.purse → IsUnnamed who near base h → HeldWithout who (held_at base o m h)
held-lacks who near base o m h a s =
    force-lacks who m (versions base acl_track o h) (fold-lacks who near o a h s.sound (only_kept (option_map acl_track.kept (base.object o))) (s.kept o a))
