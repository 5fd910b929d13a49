-- What the values in force cost, and that they are short.
use Rattle.std.proofs.Common.{◌≡◌, ℕ, ◌≤◌, false, Option, Some, None, List, [], length, refl, sym, ◌∙◌, ap, subst, arith}
use Rattle.std.specs.Prelude.{is_some}
use Rattle.std.specs.Option.{option_map}
use Rattle.s4_types.specs.Base.{Base}
use Rattle.s4_types.specs.declared.object.ObjectId.{ObjectId}
use Rattle.s4_types.specs.declared.record.Record.{Record}
use Rattle.s4_types.specs.declared.version.Version.{Version}
use Rattle.s4_types.specs.declared.version.Item.TheVariants as item
use Rattle.s4_types.specs.Answer.{value_or_empty}
use Rattle.s4_types.specs.Play.{last_of}
use Rattle.s4_types.specs.Versions.{Track, Value, versions, value_at, lives_at, data_track, attribute_track, acl_track}
use Rattle.s4_types.proofs.Booleans.{by_test}
use Rattle.s4_objects.specs.declared.kept.Which.{Which}
use Rattle.s4_objects.specs.declared.kept.Which.TheVariants as which
use Rattle.s4_state.specs.Laid.{version_of, version_at}
use Rattle.s4_state.specs.Sound.{IsSound, ValuesStand, DataFits, AttributesFit, AclFits}
use Rattle.s4_state.specs.Weights.{cost_now}
use Rattle.s4_state.proofs.Living.{in_force-now, lives-now, live-track, live-fits}
use Rattle.s4_state.proofs.Fitting.{acl-entries}
use Rattle.s4_state.proofs.Reading.{data-in-force, attributes-in-force, acl-in-force}
use Rattle.s4_types.specs.Contents.{data_of, attributes_of, acl_of}

-- the cost of a version that is there
abbrev pub cost_in : Option Version → ℕ
cost_in None = 64
cost_in (Some v) = v.cost

listed : {X : Type 0} (track : Track (List X)) (wrap : List X → Rattle.s4_types.specs.declared.version.Item.Item) → track.cost [] ≡ 64 → (x : Option (Value (List X))) → cost_in (option_map (version_of track wrap) x) ≡ track.cost (value_or_empty x)
listed track wrap e None = sym e
listed track wrap e (Some v) = refl

pub cost-now : (w : Which) (o : ObjectId) (t : ℕ) (base : Base) (h : List Record) → cost_in (version_at base w o t h) ≡ cost_now base w o t h
cost-now which.Data o t base h = listed data_track item.Data refl (value_at base data_track o t h)
cost-now which.Attributes o t base h = listed attribute_track item.Attr refl (value_at base attribute_track o t h)
cost-now which.Acl o t base h = listed acl_track item.Acl refl (value_at base acl_track o t h)

-- the cost that is told of a version
pub cost-told : (found : Option Version) (w : Which) (o : ObjectId) (t : ℕ) (base : Base) (h : List Record) → found ≡ version_at base w o t h → cost_in found ≡ cost_now base w o t h
cost-told found w o t base h e = ap cost_in e ∙ cost-now w o t base h

module _ {base : Base} {h : List Record} (s : IsSound base h) (o : ObjectId) (t : ℕ) (later : last_of h ≤ t) where
  -- where an object doesn't live there is no value
  absent : {X : Type 0} (track : Track (List X)) → ValuesStand (last_of h) (versions base track o h) → lives_at base t o h ≡ false → value_or_empty (value_at base track o t h) ≡ []
  absent {X} track stands e = none (value_at base track o t h) (in_force-now later (versions base track o h) stands ∙ lives-now base o h later (s.tracks o which.Acl) track ∙ e)
    where
      none : (x : Option (Value (List X))) → is_some x ≡ false → value_or_empty x ≡ []
      none None f = refl
      none (Some v) f = cc

  pub data-short : length (data_of base o t h) ≤ 65536
  data-short = by_test (lives_at base t o h)
      (λ e. let live = live-track base o h later (s.tracks o which.Acl) data_track e in
      subst DataFits (data-in-force s o t later e live.newest live.past live.whole) (live-fits DataFits live (s.values o which.Data)))
      (λ e. let none : length (data_of base o t h) ≡ 0 = ap length (absent data_track (s.tracks o which.Data) e) in omega (arith, none))

  pub attributes-short : length (attributes_of base o t h) ≤ 256
  attributes-short = by_test (lives_at base t o h)
      (λ e. let live = live-track base o h later (s.tracks o which.Acl) attribute_track e in
      subst AttributesFit (attributes-in-force s o t later e live.newest live.past live.whole) (live-fits AttributesFit live (s.values o which.Attributes)))
      (λ e. let none : length (attributes_of base o t h) ≡ 0 = ap length (absent attribute_track (s.tracks o which.Attributes) e) in omega (arith, none))

  pub acl-short : length (acl_of base o t h) ≤ 16
  acl-short = by_test (lives_at base t o h)
      (λ e. let live = live-track base o h later (s.tracks o which.Acl) acl_track e in
      (acl-entries (acl_of base o t h) (subst AclFits (acl-in-force s o t later e live.newest live.past live.whole) (live-fits AclFits live (s.values o which.Acl)))).0)
      (λ e. let none : length (acl_of base o t h) ≡ 0 = ap length (absent acl_track (s.tracks o which.Acl) e) in omega (arith, none))
