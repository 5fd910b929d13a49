-- What a name has was changed, on its chain and on its shelf.
use Rattle.std.proofs.Common.{◌≡◌, ℕ, suc, ◌+◌, Bool, true, cond, Option, Some, None, List, [], ◌∷◌, ◌++◌, refl, sym, ◌∙◌, ap, subst, arith, length, filter, ◌⊎◌, inl, inr}
use Rattle.std.specs.Prelude.{◌&&◌, ◌==◌, is_some, count_by, slice_get, if◌then◌else◌}
use Rattle.std.specs.List.{list_any, remove}
use Rattle.std.specs.Ordering.{is_eq}
use Rattle.std.specs.Option.{option_map}
use Rattle.std.specs.FinMap as finmap
use Rattle.std.specs.BTreeMap.{get}
use Rattle.std.proofs.lemmas.Bool.{eqb-true}
use Rattle.s4_types.specs.declared.object.Purse.{Purse}
use Rattle.s4_types.specs.declared.object.ObjectId.{ObjectId}
use Rattle.s4_types.specs.declared.version.Version.{Version}
use Rattle.s4_types.specs.Names.{same_purse, purse_cmp}
use Rattle.s4_types.specs.Name.{same_name, name_cmp}
use Rattle.s4_types.specs.Bindings.{with_name}
use Rattle.s4_types.proofs.Booleans.{by_test, both}
use Rattle.s4_types.proofs.SameNames.{purse_is, name_is}
use Rattle.s4_types.proofs.Snoc.{newest-snoc}
use Rattle.s4_store.specs.Chains.{Chains, items_of, item_count}
use Rattle.s4_store.specs.Counts.{item_count-more}
use Rattle.s4_store.specs.Laws.{items_elsewhere, StillOpen-insert}
use Rattle.s4_tracks.specs.Chain.{endless, current_of, with_end, ended, end_at}
use Rattle.s4_tracks.proofs.Ending.{with_end-snoc}
use Rattle.s4_parts.specs.declared.parts.Parts.{Parts}
use Rattle.s4_parts.specs.declared.shelf.Shelf.{Shelf}
use Rattle.s4_parts.specs.Table.{shelf_of, chain_at, chain_on, names_on, serials_on, items_on, bindings_in, names_in, is_any, object_of, serial_now, passes, binding, HoldsFor, Holds, KeepsOthers}
use Rattle.s4_types.proofs.Ordered.{tally}
use Rattle.s4_parts.specs.Table.{IsTimely}
use Rattle.s4_parts.proofs.Counting.{any-count}
use Rattle.s4_parts.proofs.Shelving.{alike, any-at, count-more, count-less}
use Rattle.s4_parts.proofs.Standing.{changed-at, names-more, names-same, holds-changed}

-- what holds of some functions holds of the same functions
pub moved : (chains : Chains Version) (f g : Purse → List ℕ → Option ℕ) (a b : Purse → List (List ℕ)) (x y : Purse → List ℕ) → ((p : Purse) (n : List ℕ) → g p n ≡ f p n) → ((p : Purse) → b p ≡ a p) → ((p : Purse) → y p ≡ x p)
    → HoldsFor chains f a x → HoldsFor chains g b y
moved chains f g a b x y e d z s = record {
  opened = λ p n c got. s.opened p n c (sym (e p n) ∙ got);
  apart = λ p q n m c got has. s.apart p q n m c (sym (e p n) ∙ got) (sym (e q m) ∙ has);
  named = λ p n. ap is_some (e p n) ∙ s.named p n ∙ ap (list_any (same_name n)) (sym (d p));
  sorted = λ p. subst (λ ks. Rattle.std.specs.List.Sorted.IsStrictlySortedBy name_cmp ks) (sym (d p)) (s.sorted p);
  timely = λ p n. subst (λ o. IsTimely (items_on chains o)) (sym (e p n)) (s.timely p n);
  known = λ p test. ap (count_by test) (z p) ∙ s.known p test ∙ sym (λ i. count_by (λ n. passes test (serial_now (items_on chains (e p n i)))) (d p i));
}

module _ (chains : Chains Version) (before after : Parts) (s : Holds chains before) (purse : Purse) (name : List ℕ) (shelf new : Shelf) (found : shelf_of before purse ≡ Some shelf)
    (replaced : (q : Purse) → shelf_of after q ≡ cond (is_eq (purse_cmp purse q)) (Some new) (shelf_of before q)) (tracks : new.tracks ≡ shelf.tracks)
    (c : ℕ) (track : chain_on (Some shelf) name ≡ Some c) (f : List Version → List Version) (opened : Chains Version) (changed : opened ≡ finmap.insert chains c (f (items_of chains c))) where
  has : chain_at before purse name ≡ Some c
  has = ap (λ x. chain_on x name) found ∙ track

  old : bindings_in chains before purse name ≡ items_of chains c
  old = ap (items_on chains) has

  pub own : (q : Purse) (m : List ℕ) → chain_at after q m ≡ chain_at before q m
  own q m = alike before after purse shelf new found replaced (λ x. chain_on x m) (ap (λ t. option_map (λ r. r.chain) (get name_cmp t m)) tracks) q

  names-own : (q : Purse) → names_on (shelf_of after q) ≡ names_on (shelf_of before q)
  names-own q = alike before after purse shelf new found replaced names_on (ap (λ t. Rattle.std.specs.BTreeMap.keys t) tracks) q

  pub rebound-bindings : (q : Purse) (m : List ℕ) → bindings_in opened after q m ≡ (if same_purse purse q && same_name name m then f (bindings_in chains before q m) else bindings_in chains before q m)
  rebound-bindings q m =
      ap (items_on opened) (own q m) ∙ changed-at s purse name c has (f (items_of chains c)) opened changed q m ∙ by_test (same_purse purse q && same_name name m)
      (λ e. let parts = both (same_purse purse q) (same_name name m) e in
      ap (λ b. if b then f (items_of chains c) else bindings_in chains before q m) e
      ∙ ap f (sym old ∙ ap (λ x. bindings_in chains before x name) (purse_is purse q parts.0) ∙ ap (bindings_in chains before q) (name_is name m parts.1))
      ∙ sym (ap (λ b. if b then f (bindings_in chains before q m) else bindings_in chains before q m) e))
      (λ e. ap (λ b. if b then f (items_of chains c) else bindings_in chains before q m) e ∙ sym (ap (λ b. if b then f (bindings_in chains before q m) else bindings_in chains before q m) e))

  names-through : (q : Purse) → names_in opened after q ≡ filter (λ m. is_any (items_on opened (chain_at before q m))) (names_on (shelf_of before q))
  names-through q = λ i. filter (λ m. is_any (items_on opened (own q m i))) (names-own q i)

  pub rebound-more : is_any (f (items_of chains c)) ≡ true → (q : Purse) → names_in opened after q ≡ (if same_purse purse q then with_name name (names_in chains before q) else names_in chains before q)
  rebound-more some q = names-through q ∙ names-more s purse name c has (f (items_of chains c)) opened changed some q

  pub rebound-same : is_any (f (items_of chains c)) ≡ is_any (items_of chains c) → (q : Purse) → names_in opened after q ≡ names_in chains before q
  rebound-same same q = names-through q ∙ names-same s purse name c has (f (items_of chains c)) opened changed (same ∙ ap is_any (sym old)) q

  pub rebound-holds : ((test : ℕ → Bool) → count_by test (serials_on (Some new)) + tally (passes test (serial_now (items_of chains c))) ≡ count_by test (serials_on (Some shelf)) + tally (passes test (serial_now (f (items_of chains c))))) → IsTimely (f (items_of chains c)) → Holds opened after
  rebound-holds counted timely = moved opened (chain_at before) (chain_at after) (λ p. names_on (shelf_of before p)) (λ p. names_on (shelf_of after p)) (λ p. serials_on (shelf_of after p)) (λ p. serials_on (shelf_of after p)) own names-own (λ p. refl)
      (holds-changed s purse name c has (f (items_of chains c)) opened changed (λ p. serials_on (shelf_of after p))
      (λ test. ap (λ x. count_by test (serials_on x) + tally (passes test (serial_now (bindings_in chains before purse name)))) (Rattle.s4_parts.proofs.Shelving.shelf-here before after purse shelf new found replaced purse (Rattle.s4_types.proofs.SameNames.purse_self purse))
      ∙ ap (λ vs. count_by test (serials_on (Some new)) + tally (passes test (serial_now vs))) old ∙ counted test
      ∙ ap (λ x. count_by test (serials_on x) + tally (passes test (serial_now (f (items_of chains c))))) (sym found))
      (λ q e. ap serials_on (Rattle.s4_parts.proofs.Shelving.shelf-there before after purse shelf new found replaced q e)) timely)

  pub rebound-others : KeepsOthers chains opened before
  rebound-others = record {
    still = StillOpen-insert chains opened c (f (items_of chains c)) changed;
    items = λ d open' foreign. ap (λ m. items_of m d) changed ∙ items_elsewhere chains c d (f (items_of chains c)) (by_test (d == c)
        (λ e. absurd (foreign purse name (has ∙ ap (λ x. Some x) (sym (eqb-true d c e)))))
        (λ e. e));
  }

-- WHAT IS BOUND NOW

-- a binding that was put at the end, and one that ended
pub bound-now : (vs : List Version) (m : ℕ) (name : List ℕ) (o : ObjectId) → serial_now (vs ++ binding m name o ∷ []) ≡ Some o.serial
bound-now vs m name o = ap (λ x. option_map (λ y. y.serial) (object_of (endless x))) (newest-snoc vs (binding m name o))

with_end-any : (m : ℕ) (vs : List Version) → is_any (with_end m vs) ≡ is_any vs
with_end-any m [] = refl
with_end-any m (v ∷ []) = refl
with_end-any m (v ∷ w ∷ vs) = refl

pub ended-any : (m : ℕ) (vs : List Version) → is_any (with_end m vs) ≡ is_any vs
ended-any = with_end-any

pub any-snoc : (vs : List Version) (v : Version) → is_any (vs ++ v ∷ []) ≡ true
any-snoc [] v = refl
any-snoc (w ∷ vs) v = refl

-- a list is empty, or it has a last element
pub record HasLast (vs : List Version) : Type 0 where
  pub front : List Version
  pub last : Version
  pub is : vs ≡ front ++ last ∷ []

split-last : (vs : List Version) → (vs ≡ []) ⊎ HasLast vs
split-last [] = inl refl
split-last (v ∷ vs) = of (split-last vs)
  where
    of : (vs ≡ []) ⊎ HasLast vs → (v ∷ vs ≡ []) ⊎ HasLast (v ∷ vs)
    of (inl e) = inr (record { front = []; last = v; is = ap (λ us. v ∷ us) e })
    of (inr h) = inr (record { front = v ∷ h.front; last = h.last; is = ap (λ us. v ∷ us) h.is })

pub current-ended : (m : ℕ) (vs : List Version) → current_of (with_end m vs) ≡ None
current-ended m vs = of (split-last vs)
  where
    ends : (v : Version) (e : Option ℕ) → endless (Some (record v { end = end_at m e })) ≡ None
    ends v None = refl
    ends v (Some x) = refl

    of : (vs ≡ []) ⊎ HasLast vs → current_of (with_end m vs) ≡ None
    of (inl e) = ap (λ us. current_of (with_end m us)) e
    of (inr h) = ap (λ us. current_of (with_end m us)) h.is ∙ ap current_of (with_end-snoc m h.front h.last) ∙ ap endless (newest-snoc h.front (ended m h.last)) ∙ ends h.last h.last.end

-- the serial of what is bound now is known
pub known-now : {chains : Chains Version} (parts : Parts) (s : Holds chains parts) (p : Purse) (n : List ℕ) (serial : ℕ) → is_some (chain_at parts p n) ≡ true → serial_now (bindings_in chains parts p n) ≡ Some serial → list_any (λ y. y == serial) (serials_on (shelf_of parts p)) ≡ true
known-now {chains} parts s p n serial there now =
    let test : List ℕ → Bool = λ m. passes (λ y. y == serial) (serial_now (bindings_in chains parts p m)) in
    any-count (λ y. y == serial) (serials_on (shelf_of parts p)) ∙ ap (Rattle.std.specs.Prelude.nat_lt 0) (s.known p (λ y. y == serial)) ∙ sym (any-count test (names_on (shelf_of parts p)))
    ∙ any-at test n (names_on (shelf_of parts p)) (ap (passes (λ y. y == serial)) now ∙ Rattle.std.proofs.lemmas.Bool.eq-eqb serial serial refl) (sym (s.named p n) ∙ there)

pub bound-counted : (test : ℕ → Bool) (items : List Version) (m : ℕ) (name : List ℕ) (o : ObjectId) (serials serials' : List ℕ) → object_of (current_of items) ≡ None → serials' ≡ serials ++ o.serial ∷ []
    → count_by test serials' + tally (passes test (serial_now items)) ≡ count_by test serials + tally (passes test (serial_now (items ++ binding m name o ∷ [])))
bound-counted test items m name o serials serials' none is =
    let more : count_by test serials' ≡ count_by test serials + tally (test o.serial) = ap (count_by test) is ∙ count-more test serials o.serial in
    let before : tally (passes test (serial_now items)) ≡ 0 = ap (λ v. tally (passes test (option_map (λ x. x.serial) v))) none in
    let now : tally (passes test (serial_now (items ++ binding m name o ∷ []))) ≡ tally (test o.serial) = ap (λ x. tally (passes test x)) (bound-now items m name o) in
    omega arith

pub unbound-counted : (test : ℕ → Bool) (items : List Version) (m serial : ℕ) (serials serials' : List ℕ) (i : ℕ) → serial_now items ≡ Some serial → slice_get serials i ≡ Some serial → serials' ≡ remove serials i
    → count_by test serials' + tally (passes test (serial_now items)) ≡ count_by test serials + tally (passes test (serial_now (with_end m items)))
unbound-counted test items m serial serials serials' i now got is =
    let less : count_by test serials' + tally (test serial) ≡ count_by test serials = ap (λ x. count_by test x + tally (test serial)) is ∙ count-less test serials i serial got in
    let before : tally (passes test (serial_now items)) ≡ tally (test serial) = ap (λ x. tally (passes test x)) now in
    let ended' : tally (passes test (serial_now (with_end m items))) ≡ 0 = ap (λ v. tally (passes test (option_map (λ x. x.serial) (object_of v)))) (current-ended m items) in
    omega arith

length-with_end : (m : ℕ) (vs : List Version) → length (with_end m vs) ≡ length vs
length-with_end m [] = refl
length-with_end m (v ∷ []) = refl
length-with_end m (v ∷ w ∷ vs) = ap suc (length-with_end m (w ∷ vs))

-- a binding that ends is held still
pub unbound-used : (m : Chains Version) (c t : ℕ) {new : Chains Version} → new ≡ finmap.insert m c (with_end t (items_of m c)) → item_count new ≡ item_count m
unbound-used m c t changed =
    let same : length (with_end t (items_of m c)) ≡ length (items_of m c) = length-with_end t (items_of m c) in
    let all : item_count (finmap.insert m c (with_end t (items_of m c))) ≡ item_count m + 0 = item_count-more m c 0 (with_end t (items_of m c)) (omega arith) in
    ap item_count changed ∙ omega arith
