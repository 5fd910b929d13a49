-- What a record changes of a base, kind by kind.
use Rattle.std.specs.Prelude.{◌≡◌, ℕ, Bool, true, false, ◌+◌, ◌&&◌, ◌==◌, max, Option, Some, None, Ok, List, [], ◌∷◌, ◌++◌, filter, not, if◌then◌else◌}
use Rattle.std.specs.Option.{option_map}
use Rattle.s4_types.specs.declared.principal.Caller.{Caller}
use Rattle.s4_types.specs.declared.object.Purse.{Purse}
use Rattle.s4_types.specs.declared.object.ObjectId.{ObjectId}
use Rattle.s4_types.specs.declared.acl.AclEntry.{AclEntry}
use Rattle.s4_types.specs.declared.request.Request.{Request}
use Rattle.s4_types.specs.declared.request.Request.TheVariants.{Create, Delete, Write, Append, Truncate, SetAttr, SetAcl, PCreate, PDelete, SetWindow, SetBudget}
use Rattle.s4_types.specs.declared.reply.Reply.{Reply}
use Rattle.s4_types.specs.declared.reply.Reply.TheVariants.{Done, Made}
use Rattle.s4_types.specs.declared.record.Record.{Record}
use Rattle.s4_types.specs.Acl.{first_acl, acl_with}
use Rattle.s4_types.specs.Names.{same_purse, same_object, object_in}
use Rattle.s4_types.specs.Name.{same_name}
use Rattle.s4_types.specs.Kinds.{is_accepted}
use Rattle.s4_types.specs.Answer.{settable}
use Rattle.s4_types.specs.Base.{Base, Standing, KeptObject}
use Rattle.s4_types.specs.Bindings.{with_name}
use Rattle.s4_types.specs.Horizon.{Guarded, windowed}
use Rattle.s4_types.specs.Versions.{of_length, written}
use Rattle.s4_cuts.specs.Cut.{left}

-- LOOK-UPS

-- the look-up of objects that finds this at the object
abbrev pub object_put : ObjectId → Option KeptObject → (ObjectId → Option KeptObject) → ObjectId → Option KeptObject
object_put o kept find q = if same_object o q then kept else find q

-- the look-up of objects that finds the object changed, if it lives
abbrev pub object_changed : ObjectId → (KeptObject → KeptObject) → (ObjectId → Option KeptObject) → ObjectId → Option KeptObject
object_changed o change find = object_put o (option_map change (find o)) find

-- the look-up by purses with the purse's changed
abbrev pub purse_changed : {A : Type 0} → Purse → (A → A) → (Purse → A) → Purse → A
purse_changed purse change find p = if same_purse purse p then change (find p) else find p

-- the look-up of bindings that finds this at the name in the purse
abbrev pub name_put : Purse → List ℕ → Option (Standing ℕ) → (Purse → List ℕ → Option (Standing ℕ)) → Purse → List ℕ → Option (Standing ℕ)
name_put purse name bound find p n = if same_purse purse p && same_name name n then bound else find p n

-- the names without this one
abbrev pub without_name : List ℕ → List (List ℕ) → List (List ℕ)
without_name name names = filter (λ n. not (same_name name n)) names

-- ONE THING CHANGED

-- what is kept of the object
abbrev pub with_object : ObjectId → Option KeptObject → Base → Base
with_object o kept base = record {
  window = base.window;
  floor = base.floor;
  cut = base.cut;
  count = base.count;
  object = object_put o kept base.object;
  names = base.names;
  binding = base.binding;
  drawn = base.drawn;
  budget = base.budget;
}

-- the name bound
abbrev pub with_bound : Purse → List ℕ → Standing ℕ → Base → Base
with_bound purse name bound base = record {
  window = base.window;
  floor = base.floor;
  cut = base.cut;
  count = base.count;
  object = base.object;
  names = purse_changed purse (with_name name) base.names;
  binding = name_put purse name (Some bound) base.binding;
  drawn = base.drawn;
  budget = base.budget;
}

-- the name bound no longer
abbrev pub without_bound : Purse → List ℕ → Base → Base
without_bound purse name base = record {
  window = base.window;
  floor = base.floor;
  cut = base.cut;
  count = base.count;
  object = base.object;
  names = purse_changed purse (without_name name) base.names;
  binding = name_put purse name None base.binding;
  drawn = base.drawn;
  budget = base.budget;
}

-- the number of serials that the purse drew
abbrev pub with_drawn : Purse → ℕ → Base → Base
with_drawn purse drawn base = record {
  window = base.window;
  floor = base.floor;
  cut = base.cut;
  count = base.count;
  object = base.object;
  names = base.names;
  binding = base.binding;
  drawn = purse_changed purse (λ old. drawn) base.drawn;
  budget = base.budget;
}

abbrev pub with_budget : Purse → ℕ → Base → Base
with_budget purse budget base = record {
  window = base.window;
  floor = base.floor;
  cut = base.cut;
  count = base.count;
  object = base.object;
  names = base.names;
  binding = base.binding;
  drawn = base.drawn;
  budget = purse_changed purse (λ old. budget) base.budget;
}

abbrev pub with_guarded : Guarded → Base → Base
with_guarded guarded base = record {
  window = guarded.window;
  floor = guarded.floor;
  cut = base.cut;
  count = base.count;
  object = base.object;
  names = base.names;
  binding = base.binding;
  drawn = base.drawn;
  budget = base.budget;
}

-- the cut at the moment or above, and so many records more gone
abbrev pub passed : ℕ → ℕ → Base → Base
passed m n base = record {
  window = base.window;
  floor = base.floor;
  cut = max base.cut m;
  count = base.count + n;
  object = base.object;
  names = base.names;
  binding = base.binding;
  drawn = base.drawn;
  budget = base.budget;
}

-- OBJECTS

-- an object that is made at the moment
abbrev pub made : ℕ → ObjectId → KeptObject
made m o = record {
  bytes = record { begin = m; value = [] };
  attributes = record { begin = m; value = [] };
  acl = record { begin = m; value = first_acl o.purse.creator };
}

-- the object with other data, attributes or ACL from the moment on
abbrev pub with_bytes : ℕ → (List ℕ → List ℕ) → KeptObject → KeptObject
with_bytes m change kept = record {
  bytes = record { begin = m; value = change kept.bytes.value };
  attributes = kept.attributes;
  acl = kept.acl;
}

abbrev pub with_attributes : ℕ → List ℕ → KeptObject → KeptObject
with_attributes m bytes kept = record {
  bytes = kept.bytes;
  attributes = record { begin = m; value = bytes };
  acl = kept.acl;
}

abbrev pub with_acl : ℕ → (List AclEntry → List AclEntry) → KeptObject → KeptObject
with_acl m change kept = record {
  bytes = kept.bytes;
  attributes = kept.attributes;
  acl = record { begin = m; value = change kept.acl.value };
}

-- the object changed, if it lives
abbrev pub on_object : ObjectId → (KeptObject → KeptObject) → Base → Base
on_object o change base = with_object o (option_map change (base.object o)) base

-- the object made at the moment, as the newest of its purse
abbrev pub with_made : ℕ → ObjectId → Base → Base
with_made m o base = with_drawn o.purse o.serial (with_object o (Some (made m o)) base)

-- ALL KINDS

-- the purse's next object
abbrev pub next_in : Base → Purse → ObjectId
next_in base purse = object_in purse (base.drawn purse + 1)

-- a new window, which only the administrator may set
abbrev pub with_window : ℕ → ℕ → Bool → Base → Base
with_window m ticks true base = with_guarded (windowed m ticks (record { window = base.window; floor = base.floor })) base
with_window m ticks false base = base

-- the base once the request put a value on a track of an object, at the moment
abbrev pub put_by : ℕ → Request → Base → Base
put_by m (Write o offset bytes) base = on_object o (with_bytes m (written offset bytes)) base
put_by m (Append o bytes) base = on_object o (with_bytes m (λ old. old ++ bytes)) base
put_by m (Truncate o length) base = on_object o (with_bytes m (of_length length)) base
put_by m (SetAttr o bytes) base = on_object o (with_attributes m bytes) base
put_by m (SetAcl o user rights) base = on_object o (with_acl m (acl_with user rights)) base
put_by m _ base = base

-- the base once the request is carried out at the moment
abbrev pub changed_by : ℕ → Caller → Request → Base → Base
changed_by m caller (Create number) base = with_made m (next_in base (record { creator = caller.who; number = number })) base
changed_by m caller (Delete o) base = with_object o None base
changed_by m caller (PCreate name o) base = with_bound o.purse name (record { begin = m; value = o.serial }) base
changed_by m caller (PDelete purse name) base = without_bound purse name base
changed_by m caller (SetWindow ticks) base = with_window m ticks (caller.who == 0) base
changed_by m caller (SetBudget purse budget) base = with_budget purse budget base
changed_by m caller request base = put_by m request base

-- the base once the record stands, but for the cut and the count
abbrev pub changed : Record → Base → Base
changed r base = if is_accepted r then changed_by r.moment r.caller r.request base else base

-- WHICH RECORDS CAN BE FOLLOWED

-- what is told of a change that was carried out
abbrev pub told_done : Base → Caller → Request → Reply
told_done base caller (Create number) = Made (next_in base (record { creator = caller.who; number = number }))
told_done base caller _ = Done

-- the rights can be given in the object's ACL, if it lives
abbrev pub IsSettable : ℕ → ℕ → Option KeptObject → Type 0
IsSettable user rights None = Unit {0}
IsSettable user rights (Some kept) = settable user rights kept.acl.value ≡ Ok tt

abbrev pub CanSet : Base → Request → Type 0
CanSet base (SetAcl o user rights) = IsSettable user rights (base.object o)
CanSet base _ = Unit {0}

-- the change was told as it is carried out, and an ACL that it sets can be
pub record Follows (base : Base) (r : Record) : Type 0 where
  pub told : r.reply ≡ told_done base r.caller r.request
  pub settable : CanSet base r.request

-- what a record asks of the base for the base to follow it
abbrev pub CanFollow : Base → Record → Type 0
CanFollow base r = is_accepted r ≡ true → Follows base r

-- each record can be followed where those before it stand
abbrev pub CanFollowAll : Base → List Record → Type 0
CanFollowAll base [] = Unit {0}
CanFollowAll base (r ∷ h) = CanFollow base r × CanFollowAll (left base r.moment (r ∷ [])) h
