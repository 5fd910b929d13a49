-- What a history says of lives and moments.
use Rattle.std.proofs.Common.{◌≡◌, ℕ, ◌≤◌, ◌<◌, true, Option, Some, None, List, [], ◌∷◌, ◌++◌, refl, sym, ◌∙◌, ap, subst, arith, le_trans, le_refl}
use Rattle.std.specs.Prelude.{nat_le, is_some, if◌then◌else◌}
use Rattle.std.specs.List.{list_all}
use Rattle.std.proofs.lemmas.Bool.{leb-true, le-leb}
use Rattle.s4_types.specs.Base.{Base}
use Rattle.s4_types.specs.declared.object.ObjectId.{ObjectId}
use Rattle.s4_types.specs.declared.record.Record.{Record}
use Rattle.s4_types.specs.declared.version.Version.{Version}
use Rattle.s4_types.specs.declared.version.Item.{Item}
use Rattle.s4_types.specs.declared.version.Item.TheVariants as item
use Rattle.s4_types.specs.Versions.{Track, Value, versions, data_track, attribute_track, acl_track, ends_by, in_force_by, unended, standing, lives_at}
use Rattle.s4_types.specs.Serials.{drawn}
use Rattle.s4_types.specs.Play.{UpTo}
use Rattle.s4_types.specs.Horizon.{horizon_at}
use Rattle.s4_types.proofs.InTime.{up-later, up-snoc, order-snoc}
use Rattle.s4_types.proofs.Booleans.{by_test, both, not_both}
use Rattle.s4_cuts.specs.Cut.{IsHistory}
use Rattle.s4_cuts.proofs.CutTracks.{lives-track}
use Rattle.s4_cuts.proofs.CutPlay.{floor-at}
use Rattle.s4_objects.specs.declared.kept.Which.TheVariants as which
use Rattle.s4_state.specs.Laid.{item_of, version_by, laid_by}
use Rattle.s4_state.specs.Sound.{EndsBy, ValuesStand, AllFit, IsSoundBy, IsSound}

pub all_by-up : (a b : ℕ) (h : List Record) → a ≤ b → list_all (λ r. nat_le r.moment a) h ≡ true → list_all (λ r. nat_le r.moment b) h ≡ true
all_by-up a b [] l e = refl
all_by-up a b (r ∷ h) l e =
    let parts = both (nat_le r.moment a) (list_all (λ x. nat_le x.moment a) h) e in
    let low : nat_le r.moment a ≡ true = parts.0 in
    let here : nat_le r.moment b ≡ true = grind arith in
    let rest : list_all (λ x. nat_le x.moment b) h ≡ true = all_by-up a b h l parts.1 in
    rw (here, rest) refl

up-all : (m : ℕ) (h : List Record) → UpTo m h → list_all (λ r. nat_le r.moment m) h ≡ true
up-all m [] u = refl
up-all m (r ∷ h) u =
    let here : nat_le r.moment m ≡ true = le-leb r.moment m u.0 in
    rw (here, up-all m h u.1) refl

-- no record is newer
pub none-newer : {base : Base} {last : ℕ} {h : List Record} → IsSoundBy base last h → list_all (λ r. nat_le r.moment last) h ≡ true
none-newer {base} {last} {h} s = up-all last h s.history.last

-- the floor of the horizon isn't to come
pub floor-now : {base : Base} {last : ℕ} {h : List Record} → IsSoundBy base last h → base.floor ≤ last
floor-now s = le_trans s.history.is_base.floor s.history.now

-- nor is the horizon
pub horizon_by-last : {base : Base} {last : ℕ} {h : List Record} → IsHistory base h last → horizon_at base h last ≤ last
horizon_by-last {base} {last} {h} is =
    let floor = floor-at base h last (le_trans is.is_base.floor is.now) is.last in
    omega (arith, floor)

-- a record that isn't older goes on
pub history_next : (base : Base) (last : ℕ) (h : List Record) (r : Record) → IsHistory base h last → last ≤ r.moment → IsHistory base (h ++ r ∷ []) r.moment
history_next base last h r is later = record {
  is_base = is.is_base;
  order = order-snoc base.cut h r (le_trans is.now later) is.order (up-later last r.moment h later is.last);
  last = up-snoc r.moment h r (up-later last r.moment h later is.last) (le_refl r.moment);
  now = le_trans is.now later;
}

-- NOW

ended-now : (t last : ℕ) (end : Option ℕ) → last ≤ t → EndsBy last end → ends_by t end ≡ is_some end
ended-now t last None l s = refl
ended-now t last (Some end) l s = grind (arith, l, s)

module _ {V : Type 0} {t last : ℕ} (l : last ≤ t) where
  -- from the last moment on the newest value is in force, where it has no end
  pub newest-now : (v : Value V) (past : List (Value V)) → ValuesStand last (v ∷ past) → in_force_by t (v ∷ past) ≡ (if is_some v.end then None else Some v)
  newest-now v past s =
      let low : v.begin ≤ last = s.0 in
      let begun : nat_le v.begin t ≡ true = grind (arith, low, l) in
      ap (λ b. if b then (if ends_by t v.end then None else Some v) else in_force_by t past) begun
      ∙ ap (λ b. if b then None else Some v) (ended-now t last v.end l s.1)

  pub in_force-now : (values : List (Value V)) → ValuesStand last values → is_some (in_force_by t values) ≡ is_some (standing values)
  in_force-now [] s = refl
  in_force-now (v ∷ past) s = ap is_some (newest-now v past s) ∙ of v.end
    where
      of : (end : Option ℕ) → is_some (if is_some end then None else Some v) ≡ is_some (unended end v)
      of None = refl
      of (Some end) = refl

-- what is current on a track
pub record IsLive {V : Type 0} (values : List (Value V)) : Type 0 where
  pub newest : Value V
  pub past : List (Value V)
  pub whole : values ≡ newest ∷ past
  pub current : newest.end ≡ None

pub live-newest : {V : Type 0} (values : List (Value V)) → is_some (standing values) ≡ true → IsLive values
live-newest [] e = cc
live-newest {V} (v ∷ past) e = record { newest = v; past = past; whole = refl; current = of v.end e }
  where
    of : (end : Option ℕ) → is_some (unended end v) ≡ true → end ≡ None
    of None f = refl
    of (Some end) f = cc

-- it fits where all values do
pub live-fits : {V : Type 0} (Fits : V → Type 0) {values : List (Value V)} (live : IsLive values) → AllFit Fits values → Fits live.newest.value
live-fits Fits live all = (subst (AllFit Fits) live.whole all).0

module _ {t last : ℕ} (base : Base) (o : ObjectId) (h : List Record) (l : last ≤ t) (acl : ValuesStand last (versions base acl_track o h)) where
  -- from the last moment on each track of an object has a current value just if the object lives
  pub lives-now : {V : Type 0} (track : Track V) → is_some (standing (versions base track o h)) ≡ lives_at base t o h
  lives-now track = lives-track track o base h ∙ sym (lives-track acl_track o base h) ∙ sym (in_force-now l (versions base acl_track o h) acl)

  pub live-track : {V : Type 0} (track : Track V) → lives_at base t o h ≡ true → IsLive (versions base track o h)
  live-track track lives = live-newest (versions base track o h) (lives-now track ∙ lives)

-- NO VALUES

-- where nothing is laid out there are no values
pub laid-none : {V : Type 0} (cost : V → ℕ) (hold : Value V → Option Item) (values : List (Value V)) → laid_by cost hold values ≡ [] → values ≡ []
laid-none cost hold [] e = refl
laid-none {V} cost hold (v ∷ past) e = absurd (more (laid_by cost hold past) (version_by cost hold v) e)
  where
    more : (ws : List Version) (w : Version) → ws ++ w ∷ [] ≡ [] → ⊥
    more [] w f = cc
    more (x ∷ ws) w f = cc

-- so an object whose serial wasn't drawn has none
module _ {base : Base} {last : ℕ} {h : List Record} (s : IsSoundBy base last h) (o : ObjectId) (new : drawn base o.purse h < o.serial) where
  pub no-data : versions base data_track o h ≡ []
  no-data = laid-none data_track.cost (item_of item.Data) (versions base data_track o h) (s.undrawn o which.Data new)

  pub no-attributes : versions base attribute_track o h ≡ []
  no-attributes = laid-none attribute_track.cost (item_of item.Attr) (versions base attribute_track o h) (s.undrawn o which.Attributes new)

  pub no-acl : versions base acl_track o h ≡ []
  no-acl = laid-none acl_track.cost (item_of item.Acl) (versions base acl_track o h) (s.undrawn o which.Acl new)

-- and one that lives has a serial that was drawn
pub drawn-now : {base : Base} {h : List Record} → IsSound base h → (o : ObjectId) (t : ℕ) → lives_at base t o h ≡ true → o.serial ≤ drawn base o.purse h
drawn-now {base} {h} s o t lives = by_test (nat_le o.serial (drawn base o.purse h))
    (λ e. leb-true o.serial (drawn base o.purse h) e)
    (λ e. let new : drawn base o.purse h < o.serial = grind (arith, e) in absurd (not_both (lives_at base t o h) lives (ap (λ values. is_some (in_force_by t values)) (no-acl s o new))))
