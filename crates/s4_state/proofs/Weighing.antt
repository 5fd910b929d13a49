-- What the past of a purse weighs, as the next record comes.
use Rattle.std.proofs.Common.{◌≡◌, ℕ, zero, suc, ◌+◌, ◌≤◌, Bool, true, false, cond, Option, Some, None, List, [], ◌∷◌, ◌++◌, refl, sym, ◌∙◌, ap, subst, arith, add-zero}
use Rattle.std.specs.Prelude.{◌&&◌, ◌||◌, ◌==◌, map, if◌then◌else◌}
use Rattle.std.proofs.lemmas.List.Sums.{sum_by-cons}
use Rattle.std.proofs.lemmas.Bool.{eqb-true, eq-eqb}
use Rattle.std.proofs.Math.Numerals.{suc-eq-add-one}
use Rattle.s4_types.specs.Base.{Base}
use Rattle.s4_types.specs.declared.object.Purse.{Purse}
use Rattle.s4_types.specs.declared.object.ObjectId.{ObjectId}
use Rattle.s4_types.specs.declared.request.Request.{Request}
use Rattle.s4_types.specs.declared.request.Request.TheVariants.{PDelete}
use Rattle.s4_types.specs.declared.record.Record.{Record}
use Rattle.s4_types.specs.Kinds.{concerns}
use Rattle.s4_types.specs.Names.{same_purse, same_object, object_in}
use Rattle.s4_types.specs.Serials.{drawn}
use Rattle.s4_types.specs.Spending.{sum_to, binding_cost}
use Rattle.s4_types.specs.Versions.{Track, Value, Span, is_within, begun, end_at, ended, erased, flushed_by, versions, data_track, attribute_track, acl_track}
use Rattle.s4_types.specs.Erased.{span_by, is_in, covers}
use Rattle.s4_types.proofs.Booleans.{by_test, &&-false}
use Rattle.s4_types.proofs.SameNames.{object_is, purse_is}
use Rattle.s4_state.specs.Weights.{weight_of, value_weight, values_weight, track_weight, object_weight, names_weight, purse_weight, track_freed, object_freed, freed_weight}

-- SUMS

pub sum_to-cong : (n : ℕ) (f g : ℕ → ℕ) → ((k : ℕ) → k ≤ n → f k ≡ g k) → sum_to n f ≡ sum_to n g
sum_to-cong zero f g e = e zero (omega arith)
sum_to-cong (suc n) f g e =
    let rest : sum_to n f ≡ sum_to n g = sum_to-cong n f g (λ k l. e k (omega (arith, l))) in
    let last : f (suc n) ≡ g (suc n) = e (suc n) (omega arith) in
    omega (arith, rest, last)

sum_to-add : (n : ℕ) (f g : ℕ → ℕ) → sum_to n (λ k. f k + g k) ≡ sum_to n f + sum_to n g
sum_to-add zero f g = refl
sum_to-add (suc n) f g = let rest = sum_to-add n f g in omega (arith, rest)

pub sum_to-zero : (n : ℕ) (f : ℕ → ℕ) → ((k : ℕ) → k ≤ n → f k ≡ 0) → sum_to n f ≡ 0
sum_to-zero zero f e = e zero (omega arith)
sum_to-zero (suc n) f e =
    let rest : sum_to n f ≡ 0 = sum_to-zero n f (λ k l. e k (omega (arith, l))) in
    let last : f (suc n) ≡ 0 = e (suc n) (omega arith) in
    omega (arith, rest, last)

abbrev at : ℕ → ℕ → ℕ → ℕ
at i d k = cond (i == k) d 0

at-here : (i d k : ℕ) → i ≡ k → at i d k ≡ d
at-here i d k e = ap (λ b. cond b d 0) (eq-eqb i k e)

at-elsewhere : (i d k : ℕ) → (i == k) ≡ false → at i d k ≡ 0
at-elsewhere i d k e = ap (λ b. cond b d 0) e

sum_to-at : (n i d : ℕ) → i ≤ n → sum_to n (at i d) ≡ d
sum_to-at zero i d l = at-here i d zero (omega (arith, l))
sum_to-at (suc n) i d l = by_test (i == suc n)
    (λ e. let is : i ≡ suc n = eqb-true i (suc n) e in
    let rest : sum_to n (at i d) ≡ 0 = sum_to-zero n (at i d) (λ k low. at-elsewhere i d k (by_test (i == k) (λ f. let same : i ≡ k = eqb-true i k f in absurd (omega (arith, is, same, low))) (λ f. f))) in
    let last : at i d (suc n) ≡ d = at-here i d (suc n) is in
    omega (arith, rest, last))
    (λ e. let rest : sum_to n (at i d) ≡ d = sum_to-at n i d (below i n l e) in
    let last : at i d (suc n) ≡ 0 = at-elsewhere i d (suc n) e in
    omega (arith, rest, last))
  where
    below : (i n : ℕ) → i ≤ suc n → (i == suc n) ≡ false → i ≤ n
    below i n l e = grind (arith, l, e)

-- ONE TRACK

module _ {V : Type 0} (f : ℕ → ℕ → ℕ) (cost : V → ℕ) where
  pub weight-cons : (v : Value V) (past : List (Value V)) → values_weight f cost (v ∷ past) ≡ value_weight f cost v + values_weight f cost past
  weight-cons v past = sum_by-cons (value_weight f cost) v past

  -- a value without an end weighs nothing
  pub unended-weight : (v : Value V) → v.end ≡ None → value_weight f cost v ≡ 0
  unended-weight v e = ap (λ (end : Option ℕ). cond v.is_erased 0 (weight_of f end (cost v.value))) e ∙ nothing v.is_erased
    where
      nothing : (b : Bool) → cond b zero zero ≡ zero
      nothing true = refl
      nothing false = refl

  -- with an end it weighs what it costs
  ended-weight : (m : ℕ) (v : Value V) → v.end ≡ None → v.is_erased ≡ false → value_weight f cost (ended m v) ≡ f m (cost v.value)
  ended-weight m v e whole =
      ap (λ (b : Bool). cond b 0 (weight_of f (end_at m v.end) (cost v.value))) whole
      ∙ ap (λ (end : Option ℕ). weight_of f (end_at m end) (cost v.value)) e

  pub first-weight : (m : ℕ) (x : V) → values_weight f cost (begun m x ∷ []) ≡ 0
  first-weight m x = weight-cons (begun m x) []

  pub begun-weight : (m : ℕ) (x : V) (past : List (Value V)) → values_weight f cost (begun m x ∷ past) ≡ values_weight f cost past
  begun-weight m x past =
      let more = weight-cons (begun m x) past in
      let none = unended-weight (begun m x) refl in
      omega (arith, more, none)

  pub end-weight : (m : ℕ) (v : Value V) (past : List (Value V)) → v.end ≡ None → v.is_erased ≡ false → values_weight f cost (ended m v ∷ past) ≡ values_weight f cost (v ∷ past) + f m (cost v.value)
  end-weight m v past e whole =
      let new = weight-cons (ended m v) past in
      let old = weight-cons v past in
      let none = unended-weight v e in
      let some = ended-weight m v e whole in
      omega (arith, new, old, none, some)

  pub put-weight : (m : ℕ) (x : V) (v : Value V) (past : List (Value V)) → v.end ≡ None → v.is_erased ≡ false
      → values_weight f cost (begun m x ∷ ended m v ∷ past) ≡ values_weight f cost (v ∷ past) + f m (cost v.value)
  put-weight m x v past e whole = begun-weight m x (ended m v ∷ past) ∙ end-weight m v past e whole

module _ {V : Type 0} (f : ℕ → ℕ → ℕ) (track : Track V) where
  -- what a flush erases weighs nothing from then on
  flush-weight : (o : ObjectId) (r : Record) (span : Span) → span_by o r ≡ Some span → (values : List (Value V))
      → track_weight f track (map (erased span) values) + track_freed f track o r values ≡ track_weight f track values
  flush-weight o r span e [] = refl
  flush-weight o r span e (v ∷ past) =
      let new = weight-cons f track.cost (erased span v) (map (erased span) past) in
      let old = weight-cons f track.cost v past in
      let freed : track_freed f track o r (v ∷ past) ≡ (if covers o v.begin v.end r then value_weight f track.cost v else 0) + track_freed f track o r past = sum_by-cons (λ x. if covers o x.begin x.end r then value_weight f track.cost x else 0) v past in
      let here : value_weight f track.cost (erased span v) + (if covers o v.begin v.end r then value_weight f track.cost v else 0) ≡ value_weight f track.cost v
      = ap (λ (s : Option Span). value_weight f track.cost (erased span v) + cond (is_in s v.begin v.end) (value_weight f track.cost v) 0) e ∙ parted v.is_erased (is_within span v.begin v.end) (weight_of f v.end (track.cost v.value)) in
      let rest = flush-weight o r span e past in
      omega (arith, new, old, freed, here, rest)
    where
      parted : (b c : Bool) (x : ℕ) → cond (b || c) 0 x + cond c (cond b 0 x) 0 ≡ cond b 0 x
      parted true true x = refl
      parted true false x = refl
      parted false true x = omega arith
      parted false false x = add-zero x

  -- a record that erases nothing here takes nothing back
  pub freed-none : (o : ObjectId) (r : Record) → span_by o r ≡ None → (values : List (Value V)) → track_freed f track o r values ≡ 0
  freed-none o r e [] = refl
  freed-none o r e (v ∷ past) =
      let freed : track_freed f track o r (v ∷ past) ≡ (if covers o v.begin v.end r then value_weight f track.cost v else 0) + track_freed f track o r past = sum_by-cons (λ x. if covers o x.begin x.end r then value_weight f track.cost x else 0) v past in
      let here : (if covers o v.begin v.end r then value_weight f track.cost v else 0) ≡ 0 = ap (λ (s : Option Span). cond (is_in s v.begin v.end) (value_weight f track.cost v) 0) e in
      let rest = freed-none o r e past in
      omega (arith, freed, here, rest)

  -- a flush, or none
  pub flushed-weight : (o : ObjectId) (r : Record) (span : Option Span) → span_by o r ≡ span → (values : List (Value V))
      → track_weight f track (flushed_by span true values) + track_freed f track o r values ≡ track_weight f track values
  flushed-weight o r None e values = ap (λ n. track_weight f track values + n) (freed-none o r e values) ∙ add-zero (track_weight f track values)
  flushed-weight o r (Some span) e values = flush-weight o r span e values

-- ONE OBJECT

-- the record changes nothing of what the object ever had, but for what it erases
pub record OnlyErases (base : Base) (h : List Record) (r : Record) (q : ObjectId) : Type 0 where
  pub data_left : versions base data_track q (h ++ r ∷ []) ≡ flushed_by (span_by q r) true (versions base data_track q h)
  pub attributes_left : versions base attribute_track q (h ++ r ∷ []) ≡ flushed_by (span_by q r) true (versions base attribute_track q h)
  pub acl_left : versions base acl_track q (h ++ r ∷ []) ≡ versions base acl_track q h

module _ (f : ℕ → ℕ → ℕ) (base : Base) (h : List Record) (r : Record) where
  -- the object's past weighs so much more, but for what the record takes back of it
  abbrev pub Moves : ObjectId → ℕ → Type 0
  Moves q d = object_weight base f (h ++ r ∷ []) q + object_freed base f h r q ≡ object_weight base f h q + d

  pub object-freed-none : (q : ObjectId) → span_by q r ≡ None → object_freed base f h r q ≡ 0
  object-freed-none q e =
      let a = freed-none f data_track q r e (versions base data_track q h) in
      let b = freed-none f attribute_track q r e (versions base attribute_track q h) in
      omega (arith, a, b)

  pub erases-moves : (q : ObjectId) → OnlyErases base h r q → Moves q 0
  erases-moves q only =
      let a = ap (track_weight f data_track) only.data_left in
      let b = ap (track_weight f attribute_track) only.attributes_left in
      let c = ap (track_weight f acl_track) only.acl_left in
      let x = flushed-weight f data_track q r (span_by q r) refl (versions base data_track q h) in
      let y = flushed-weight f attribute_track q r (span_by q r) refl (versions base attribute_track q h) in
      omega (arith, a, b, c, x, y)

  -- a record that adds to the past of one object
  pub moves-one : (o : ObjectId) (d : ℕ) → Moves o d → ((q : ObjectId) → same_object o q ≡ false → Moves q 0) → (q : ObjectId) → Moves q (if same_object o q then d else 0)
  moves-one o d here there q = by_test (same_object o q)
      (λ e. subst (λ x. Moves x d) (object_is o q e) here ∙ sym (ap (λ b. object_weight base f h q + cond b d 0) e))
      (λ e. there q e ∙ sym (ap (λ b. object_weight base f h q + cond b d 0) e))

-- ONE PURSE

-- what a request weighs as the end of a binding
abbrev pub unbinding_weight : (ℕ → ℕ → ℕ) → ℕ → Request → ℕ
unbinding_weight weight m (PDelete purse name) = weight m (binding_cost name)
unbinding_weight weight m _ = 0

abbrev pub unbound_weight : (ℕ → ℕ → ℕ) → Purse → Record → ℕ
unbound_weight weight p r = if concerns p r then unbinding_weight weight r.moment r.request else 0

-- the past of the purse's names weighs so much more
abbrev pub NamesMove : Base → (ℕ → ℕ → ℕ) → List Record → Record → Purse → Type 0
NamesMove base f h r p = names_weight base f p (h ++ r ∷ []) ≡ names_weight base f p h + unbound_weight f p r

-- a share of one serial alone
abbrev share : ObjectId → ℕ → Purse → ℕ → ℕ
share o d p serial = if same_object o (object_in p serial) then d else 0

pub share-sum : (o : ObjectId) (d : ℕ) (p : Purse) (n : ℕ) → (same_purse o.purse p ≡ true → o.serial ≤ n) → sum_to n (λ serial. if same_object o (object_in p serial) then d else 0) ≡ (if same_purse o.purse p then d else 0)
share-sum o d p n low = by_test (same_purse o.purse p)
    (λ e. sum_to-cong n (share o d p) (at o.serial d) (λ k l. ap (λ b. cond (b && (o.serial == k)) d 0) e) ∙ sum_to-at n o.serial d (low e) ∙ sym (ap (λ b. cond b d 0) e))
    (λ e. sum_to-zero n (share o d p) (λ k l. ap (λ b. cond (b && (o.serial == k)) d 0) e) ∙ sym (ap (λ b. cond b d 0) e))

-- a record that erases nothing in the purse takes nothing back
pub freed_weight-none : (f : ℕ → ℕ → ℕ) (p : Purse) (base : Base) (h : List Record) (r : Record) → ((serial : ℕ) → span_by (object_in p serial) r ≡ None) → freed_weight base f p h r ≡ 0
freed_weight-none f p base h r none = sum_to-zero (drawn base p h) (λ k. object_freed base f h r (object_in p k)) (λ k l. object-freed-none f base h r (object_in p k) (none k))

-- a record that draws no serial
pub purse-moves : (f : ℕ → ℕ → ℕ) (base : Base) (h : List Record) (r : Record) (part : ObjectId → ℕ) → ((p : Purse) → drawn base p (h ++ r ∷ []) ≡ drawn base p h) → ((q : ObjectId) → Moves f base h r q (part q))
    → (p : Purse) → NamesMove base f h r p → purse_weight base f p (h ++ r ∷ []) + freed_weight base f p h r ≡ purse_weight base f p h + sum_to (drawn base p h) (λ serial. part (object_in p serial)) + unbound_weight f p r
purse-moves f base h r part same moves p names =
    let n : ℕ = drawn base p h in
    let old : ℕ → ℕ = λ serial. object_weight base f h (object_in p serial) in
    let new : ℕ → ℕ = λ serial. object_weight base f (h ++ r ∷ []) (object_in p serial) in
    let freed : ℕ → ℕ = λ serial. object_freed base f h r (object_in p serial) in
    let more : ℕ → ℕ = λ serial. part (object_in p serial) in
    let count : sum_to (drawn base p (h ++ r ∷ [])) new ≡ sum_to n new = ap (λ k. sum_to k new) (same p) in
    let before : sum_to n (λ k. new k + freed k) ≡ sum_to n new + sum_to n freed = sum_to-add n new freed in
    let each : sum_to n (λ k. new k + freed k) ≡ sum_to n (λ k. old k + more k) = sum_to-cong n (λ k. new k + freed k) (λ k. old k + more k) (λ k l. moves (object_in p k)) in
    let after : sum_to n (λ k. old k + more k) ≡ sum_to n old + sum_to n more = sum_to-add n old more in
    omega (arith, count, before, each, after, names)

-- a record that makes an object, and draws its serial: the object has no past
pub purse-made : (f : ℕ → ℕ → ℕ) (base : Base) (h : List Record) (r : Record) (o : ObjectId) → ((p : Purse) → drawn base p (h ++ r ∷ []) ≡ drawn base p h + (if same_purse o.purse p then 1 else 0)) → o.serial ≡ drawn base o.purse h + 1
    → object_weight base f (h ++ r ∷ []) o ≡ 0 → ((q : ObjectId) → same_object o q ≡ false → object_weight base f (h ++ r ∷ []) q ≡ object_weight base f h q) → ((p : Purse) → unbound_weight f p r ≡ 0)
    → (p : Purse) → NamesMove base f h r p → purse_weight base f p (h ++ r ∷ []) ≡ purse_weight base f p h
purse-made f base h r o draws next fresh elsewhere none p names =
    let nothing : unbound_weight f p r ≡ 0 = none p in
    let objects : sum_to (drawn base p (h ++ r ∷ [])) new ≡ sum_to (drawn base p h) old = by_test (same_purse o.purse p) mine others in
    omega (arith, names, nothing, objects)
  where
    old : ℕ → ℕ
    old serial = object_weight base f h (object_in p serial)

    new : ℕ → ℕ
    new serial = object_weight base f (h ++ r ∷ []) (object_in p serial)

    -- a serial of another object
    apart : (k : ℕ) → same_object o (object_in p k) ≡ false → new k ≡ old k
    apart k e = elsewhere (object_in p k) e

    others : same_purse o.purse p ≡ false → sum_to (drawn base p (h ++ r ∷ [])) new ≡ sum_to (drawn base p h) old
    others e =
        let count : drawn base p (h ++ r ∷ []) ≡ drawn base p h = draws p ∙ ap (λ b. drawn base p h + cond b 1 0) e ∙ add-zero (drawn base p h) in
        ap (λ k. sum_to k new) count ∙ sum_to-cong (drawn base p h) new old (λ k l. apart k (ap (λ b. b && (o.serial == k)) e))

    mine : same_purse o.purse p ≡ true → sum_to (drawn base p (h ++ r ∷ [])) new ≡ sum_to (drawn base p h) old
    mine e =
        let is : o.purse ≡ p = purse_is o.purse p e in
        let last : o.serial ≡ drawn base p h + 1 = next ∙ ap (λ x. drawn base x h + 1) is in
        let count : drawn base p (h ++ r ∷ []) ≡ suc (drawn base p h) = draws p ∙ ap (λ b. drawn base p h + cond b 1 0) e ∙ sym (suc-eq-add-one (drawn base p h)) in
        let below : sum_to (drawn base p h) new ≡ sum_to (drawn base p h) old = sum_to-cong (drawn base p h) new old (λ k l. apart k (ap (λ b. same_purse o.purse p && b) (by_test (o.serial == k) (λ f. let same : o.serial ≡ k = eqb-true o.serial k f in absurd (omega (arith, same, last, l))) (λ f. f)) ∙ &&-false (same_purse o.purse p))) in
        let itself : object_in p (suc (drawn base p h)) ≡ o = λ i. object_in (sym is i) ((suc-eq-add-one (drawn base p h) ∙ sym last) i) in
        let top : new (suc (drawn base p h)) ≡ 0 = ap (object_weight base f (h ++ r ∷ [])) itself ∙ fresh in
        let whole : sum_to (drawn base p (h ++ r ∷ [])) new ≡ sum_to (drawn base p h) new + new (suc (drawn base p h)) = ap (λ k. sum_to k new) count in
        omega (arith, below, top, whole)
