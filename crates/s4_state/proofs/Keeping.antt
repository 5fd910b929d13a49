-- How many values and bindings are current once records stand.
use Rattle.std.proofs.Common.{◌≡◌, ℕ, ◌+◌, ◌*◌, Bool, true, false, cond, List, [], ◌∷◌, ◌++◌, refl, sym, ◌∙◌, ap, subst, arith, length, filter, append_assoc}
use Rattle.std.specs.Prelude.{◌&&◌, ◌||◌, ◌==◌, not, is_some, replicate, if◌then◌else◌}
use Rattle.std.proofs.lemmas.List.{append-nil, length-append, length-replicate}
use Rattle.std.proofs.lemmas.List.Sums.{fold-append, sum_by-cons}
use Rattle.s4_types.specs.declared.principal.Caller.{Caller}
use Rattle.s4_types.specs.declared.object.Purse.{Purse}
use Rattle.s4_types.specs.declared.object.ObjectId.{ObjectId}
use Rattle.s4_types.specs.declared.request.Request.{Request}
use Rattle.s4_types.specs.declared.request.Request.TheVariants.{Create, Delete, PCreate, PDelete}
use Rattle.s4_types.specs.declared.reply.Reply.{Reply}
use Rattle.s4_types.specs.declared.reply.Reply.TheVariants.{Done, Made}
use Rattle.s4_types.specs.declared.record.Record.{Record}
use Rattle.s4_types.specs.Base.{Base}
use Rattle.s4_types.specs.Bindings.{bindings, bindings_after, rebound}
use Rattle.s4_types.specs.Kinds.{is_accepted, is_wide, is_about, concerns, purse_of}
use Rattle.s4_types.specs.Name.{same_name}
use Rattle.s4_types.specs.Names.{same_purse, same_object, object_in}
use Rattle.s4_types.specs.Versions.{Value, begun, with_end, standing, makes, deletes, is_deleted}
use Rattle.s4_types.proofs.Snoc.{bindings-snoc}
use Rattle.s4_types.proofs.Booleans.{by_test, both}
use Rattle.s4_types.proofs.SameNames.{purse_is, purse_self, object_is, object_self, name_is, name_self}
use Rattle.s4_cuts.specs.Cut.{object_left, is_left}
use Rattle.s4_cuts.proofs.CutTracks.{lives_after, lives-left, end-standing}
use Rattle.s4_cuts.proofs.Cutting.{standing-kept, object-kept}
use Rattle.s4_types.specs.Changes.{change_of}
use Rattle.s4_types.specs.Counts.{made_by, values_ended_by, bindings_ended_by, counted, made_count, object_ends, binding_ends}
use Rattle.s4_state.specs.Current.{same_place, AreCurrent, Keeps, Leaves}
use Rattle.s4_state.specs.Sound.{Finds, AllFind}
use Rattle.s4_state.proofs.Once.{once-more, once-less, once-shorter, once-length}

-- NAMES IN PURSES

place_self : (a : Purse × List ℕ) → same_place a a ≡ true
place_self a = ap (λ b. b && same_name a.1 a.1) (purse_self a.0) ∙ name_self a.1

place_is : (a b : Purse × List ℕ) → same_place a b ≡ true → a ≡ b
place_is a b e =
    let parts = both (same_purse a.0 b.0) (same_name a.1 b.1) e in
    let purse : a.0 ≡ b.0 = purse_is a.0 b.0 parts.0 in
    let name : a.1 ≡ b.1 = name_is a.1 b.1 parts.1 in
    λ i. (purse i, name i)

-- COUNTS

pub current_as : {f g : ObjectId → Bool} {p q : Purse × List ℕ → Bool} {n : ℕ} → ((o : ObjectId) → g o ≡ f o) → ((a : Purse × List ℕ) → q a ≡ p a) → AreCurrent f p n → AreCurrent g q n
current_as e d k = record {
  objects = k.objects;
  names = k.names;
  objects_are = λ o. k.objects_are o ∙ sym (ap (λ b. cond b 1 0) (e o));
  names_are = λ a. k.names_are a ∙ sym (ap (λ b. cond b 1 0) (d a));
  sum = k.sum;
}

-- the count is determined
pub current_one : {f : ObjectId → Bool} {p : Purse × List ℕ → Bool} {n m : ℕ} → AreCurrent f p n → AreCurrent f p m → n ≡ m
current_one {f} {p} a b =
    let objects = once-length same_object object_self object_is f a.objects b.objects a.objects_are b.objects_are in
    let names = once-length same_place place_self place_is p a.names b.names a.names_are b.names_are in
    omega (arith, objects, names, a.sum, b.sum)

-- ONE RECORD

-- what the record leaves, as many as it makes and ends
pub record Moves (base : Base) (early : List Record) (r : Record) (count : ℕ) : Type 0 where
  pub next : ℕ
  pub leaves : Leaves base (early ++ r ∷ []) next
  pub even : next + (counted values_ended_by r + counted bindings_ended_by r) ≡ count + counted made_by r

module _ (base : Base) (early : List Record) where
  lives-next : (r : Record) (o : ObjectId) → is_some (object_left base (early ++ r ∷ []) o) ≡ lives_after o (is_some (object_left base early o)) r
  lives-next r o = lives-left base (early ++ r ∷ []) o ∙ fold-append (lives_after o) (is_some (base.object o)) early (r ∷ []) ∙ ap (λ b. lives_after o b r) (sym (lives-left base early o))

  bound-next : (r : Record) (p : Purse) (n : List ℕ) → is_left base (early ++ r ∷ []) p n ≡ is_some (standing (bindings_after p n (bindings base p n early) r))
  bound-next r p n = ap (λ vs. is_some (standing vs)) (bindings-snoc p n base early r)

  -- a record that makes and ends no object and no binding
  still : (r : Record) {count : ℕ} → ((o : ObjectId) (b : Bool) → lives_after o b r ≡ b) → ((p : Purse) (n : List ℕ) (old : List (Value ℕ)) → bindings_after p n old r ≡ old)
      → counted values_ended_by r + counted bindings_ended_by r ≡ counted made_by r → Leaves base early count → Moves base early r count
  still r {count} lives bound even k = record {
    next = count;
    leaves = current_as (λ o. lives-next r o ∙ lives o (is_some (object_left base early o))) (λ a. bound-next r a.0 a.1 ∙ ap (λ vs. is_some (standing vs)) (bound a.0 a.1 (bindings base a.0 a.1 early))) k;
    even = ap (λ d. count + d) even;
  }

  idle : (r : Record) {count : ℕ} → is_accepted r ≡ false → Leaves base early count → Moves base early r count
  idle r e k = still r
      (λ o b. ap (λ c. if c then (if makes o r then true else (if deletes o r then false else b)) else b) (strange o.purse))
      (λ p n old. ap (λ c. if c then rebound p n r.moment r.request old else old) (strange p))
      (ap (λ c. cond c (values_ended_by (change_of r.request)) 0 + cond c (bindings_ended_by (change_of r.request)) 0) e ∙ sym (ap (λ c. cond c (made_by (change_of r.request)) 0) e)) k
    where
      strange : (p : Purse) → concerns p r ≡ false
      strange p = ap (λ b. b && (is_wide r.caller r.request || is_about p (purse_of r.caller r.request))) e

  module _ (m : ℕ) (caller : Caller) {count : ℕ} (k : Leaves base early count) where
    abbrev by : Request → Reply → Record
    by request reply = record { moment = m; caller = caller; request = request; reply = reply }

    quiet : (request : Request) (reply : Reply) → ((o : ObjectId) → is_deleted o request ≡ false) → ((p : Purse) (n : List ℕ) (old : List (Value ℕ)) → rebound p n m request old ≡ old)
        → counted values_ended_by (by request Done) + counted bindings_ended_by (by request Done) ≡ counted made_by (by request Done) → reply ≡ Done → Moves base early (by request reply) count
    quiet request reply undeleted unbound even told = subst (λ x. Moves base early (by request x) count) (sym told) (still (by request Done) lives bound even k)
      where
        lives : (o : ObjectId) (b : Bool) → lives_after o b (by request Done) ≡ b
        lives o b = of (concerns o.purse (by request Done)) (is_deleted o request) (undeleted o)
          where
            of : (c d : Bool) → d ≡ false → (if c then (if c && false then true else (if c && d then false else b)) else b) ≡ b
            of true true e = cc
            of true false e = refl
            of false d e = refl

        bound : (p : Purse) (n : List ℕ) (old : List (Value ℕ)) → bindings_after p n old (by request Done) ≡ old
        bound p n old = of (concerns p (by request Done))
          where
            of : (c : Bool) → (if c then rebound p n m request old else old) ≡ old
            of true = unbound p n old
            of false = refl

    abbrev new-object : ℕ → ℕ → ObjectId
    new-object number serial = object_in (record { creator = caller.who; number = number }) serial

    -- an object is made
    create : (number serial : ℕ) → is_some (object_left base early (new-object number serial)) ≡ false
        → Moves base early (by (Create number) (Made (new-object number serial))) count
    create number serial new = record {
      next = count + 3;
      leaves = record {
        objects = new-object number serial ∷ k.objects;
        names = k.names;
        objects_are = once-more same_object object_self object_is _ _ (new-object number serial) k.objects k.objects_are new (λ q. lives-next (by (Create number) (Made (new-object number serial))) q ∙ of (same_purse (new-object number serial).purse q.purse) (serial == q.serial) (is_some (object_left base early q)));
        names_are = λ a. k.names_are a ∙ sym (ap (λ b. cond b 1 0) (bound-next (by (Create number) (Made (new-object number serial))) a.0 a.1 ∙ ap (λ vs. is_some (standing vs)) (unbound (concerns a.0 (by (Create number) (Made (new-object number serial)))) (bindings base a.0 a.1 early))));
        sum = let sum = k.sum in omega (arith, sum);
      };
      even = omega arith;
    }
      where
        of : (c d b : Bool) → (if c then (if c && (c && d) then true else (if c && false then false else b)) else b) ≡ ((c && d) || b)
        of true true b = refl
        of true false b = refl
        of false d b = refl

        unbound : (c : Bool) (old : List (Value ℕ)) → (if c then old else old) ≡ old
        unbound true old = refl
        unbound false old = refl

    -- an object is deleted
    delete : (o : ObjectId) → is_some (object_left base early o) ≡ true → Moves base early (by (Delete o) Done) count
    delete o here =
        let sum = k.sum in
        let fewer : length (filter (λ q. not (same_object o q)) k.objects) + 1 ≡ length k.objects = once-shorter same_object object_self object_is _ o k.objects k.objects_are here in
        record {
          next = 3 * length (filter (λ q. not (same_object o q)) k.objects) + length k.names;
          leaves = record {
            objects = filter (λ q. not (same_object o q)) k.objects;
            names = k.names;
            objects_are = once-less same_object object_self object_is _ _ o k.objects k.objects_are (λ q. lives-next (by (Delete o) Done) q ∙ of (same_purse o.purse q.purse) (o.serial == q.serial) (is_some (object_left base early q)));
            names_are = λ a. k.names_are a ∙ sym (ap (λ b. cond b 1 0) (bound-next (by (Delete o) Done) a.0 a.1 ∙ ap (λ vs. is_some (standing vs)) (unbound (concerns a.0 (by (Delete o) Done)) (bindings base a.0 a.1 early))));
            sum = refl;
          };
          even = omega (arith, sum, fewer);
        }
      where
        of : (c d b : Bool) → (if c then (if c && false then true else (if c && (c && d) then false else b)) else b) ≡ (if c && d then false else b)
        of true true b = refl
        of true false b = refl
        of false d b = refl

        unbound : (c : Bool) (old : List (Value ℕ)) → (if c then old else old) ≡ old
        unbound true old = refl
        unbound false old = refl

    -- a request about names leaves the objects
    lives-on : (request : Request) → ((q : ObjectId) → is_deleted q request ≡ false) → (q : ObjectId) (b : Bool) → lives_after q b (by request Done) ≡ b
    lives-on request undeleted q b = of (concerns q.purse (by request Done)) (is_deleted q request) (undeleted q)
      where
        of : (c d : Bool) → d ≡ false → (if c then (if c && false then true else (if c && d then false else b)) else b) ≡ b
        of true true e = cc
        of true false e = refl
        of false d e = refl

    -- a name is bound
    bind : (name : List ℕ) (o : ObjectId) → is_left base early o.purse name ≡ false → Moves base early (by (PCreate name o) Done) count
    bind name o new = record {
      next = count + 1;
      leaves = record {
        objects = k.objects;
        names = (o.purse, name) ∷ k.names;
        objects_are = λ q. k.objects_are q ∙ sym (ap (λ b. cond b 1 0) (lives-next (by (PCreate name o) Done) q ∙ lives-on (PCreate name o) (λ q. refl) q (is_some (object_left base early q))));
        names_are = once-more same_place place_self place_is _ _ (o.purse, name) k.names k.names_are new (λ a. bound-next (by (PCreate name o) Done) a.0 a.1 ∙ of (same_purse o.purse a.0) (same_name name a.1) (bindings base a.0 a.1 early));
        sum = let sum = k.sum in omega (arith, sum);
      };
      even = omega arith;
    }
      where
        of : (c d : Bool) (old : List (Value ℕ)) → is_some (standing (if c then (if c && d then begun m o.serial ∷ old else old) else old)) ≡ ((c && d) || is_some (standing old))
        of true true old = refl
        of true false old = refl
        of false d old = refl

    -- a name is bound no longer
    unbind : (purse : Purse) (name : List ℕ) → is_left base early purse name ≡ true → Moves base early (by (PDelete purse name) Done) count
    unbind purse name here =
        let sum = k.sum in
        let fewer : length (filter (λ a. not (same_place (purse, name) a)) k.names) + 1 ≡ length k.names = once-shorter same_place place_self place_is _ (purse, name) k.names k.names_are here in
        record {
          next = 3 * length k.objects + length (filter (λ a. not (same_place (purse, name) a)) k.names);
          leaves = record {
            objects = k.objects;
            names = filter (λ a. not (same_place (purse, name) a)) k.names;
            objects_are = λ q. k.objects_are q ∙ sym (ap (λ b. cond b 1 0) (lives-next (by (PDelete purse name) Done) q ∙ lives-on (PDelete purse name) (λ q. refl) q (is_some (object_left base early q))));
            names_are = once-less same_place place_self place_is _ _ (purse, name) k.names k.names_are (λ a. bound-next (by (PDelete purse name) Done) a.0 a.1 ∙ of (same_purse purse a.0) (same_name name a.1) (bindings base a.0 a.1 early));
            sum = refl;
          };
          even = omega (arith, sum, fewer);
        }
      where
        of : (c d : Bool) (old : List (Value ℕ)) → is_some (standing (if c then (if c && d then with_end m old else old) else old)) ≡ (if c && d then false else is_some (standing old))
        of true true old = end-standing m old
        of true false old = refl
        of false d old = refl

    by-kind : (request : Request) (reply : Reply) → Finds base early caller request reply → Moves base early (by request reply) count
    by-kind (Create number) reply f = subst (λ x. Moves base early (by (Create number) x) count) (sym f.1) (create number f.0 f.2)
    by-kind (Delete o) reply f = subst (λ x. Moves base early (by (Delete o) x) count) (sym f.0) (delete o f.1)
    by-kind (PCreate name o) reply f = subst (λ x. Moves base early (by (PCreate name o) x) count) (sym f.0) (bind name o f.1)
    by-kind (PDelete purse name) reply f = subst (λ x. Moves base early (by (PDelete purse name) x) count) (sym f.0) (unbind purse name f.1)
    by-kind request reply f = quiet request reply (λ q. refl) (λ p n old. refl) refl f

  one_moves : (r : Record) {count : ℕ} → (is_accepted r ≡ true → Finds base early r.caller r.request r.reply) → Leaves base early count → Moves base early r count
  one_moves r f k = by_test (is_accepted r) (λ e. by-kind r.moment r.caller k r.request r.reply (f e)) (λ e. idle r e k)

-- RECORDS

-- as many are left as were there and were made, but for those that ended
pub record Amount (base : Base) (early late : List Record) (count : ℕ) : Type 0 where
  pub left : ℕ
  pub leaves : Leaves base (early ++ late) left
  pub even : left + (length (object_ends late) + length (binding_ends late)) ≡ count + made_count late

pub all_move : (base : Base) (early late : List Record) {count : ℕ} → AllFind base early late → Leaves base early count → Amount base early late count
all_move base early [] {count} f k = record { left = count; leaves = subst (λ h. Leaves base h count) (sym (append-nil early)) k; even = omega arith }
all_move base early (r ∷ late) {count} f k =
    let one : Moves base early r count = one_moves base early r f.0 k in
    let rest : Amount base (early ++ r ∷ []) late one.next = all_move base (early ++ r ∷ []) late f.1 one.leaves in
    let values : length (object_ends (r ∷ late)) ≡ counted values_ended_by r + length (object_ends late) = more (counted values_ended_by r) r.moment (object_ends late) in
    let bindings : length (binding_ends (r ∷ late)) ≡ counted bindings_ended_by r + length (binding_ends late) = more (counted bindings_ended_by r) r.moment (binding_ends late) in
    let made : made_count (r ∷ late) ≡ counted made_by r + made_count late = sum_by-cons (counted made_by) r late in
    let first = one.even in
    let others = rest.even in
    record {
      left = rest.left;
      leaves = subst (λ h. Leaves base h rest.left) (append_assoc early (r ∷ []) late) rest.leaves;
      even = omega (arith, values, bindings, made, first, others);
    }
  where
    more : (n x : ℕ) (ends : List ℕ) → length (replicate n x ++ ends) ≡ n + length ends
    more n x ends = length-append (replicate n x) ends ∙ ap (λ k. k + length ends) (length-replicate n x)

-- a base is what no records leave
pub kept_left : (base : Base) {count : ℕ} → Keeps base count → Leaves base [] count
kept_left base k = current_as (λ o. ap is_some (object-kept (base.object o))) (λ a. ap is_some (standing-kept (base.binding a.0 a.1))) k
