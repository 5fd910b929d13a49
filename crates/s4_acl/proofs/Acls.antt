-- Which lists are ACLs, once one of their entries is changed.
use Rattle.std.proofs.Common.{take, drop, ◌≡◌, ℕ, ◌+◌, ◌≤◌, ◌<◌, Bool, true, false, not, cond, List, [], ◌∷◌, ◌++◌, refl, sym, ◌∙◌, ap, subst, arith, length, length-append, add-zero}
use Rattle.std.specs.Prelude.{is_some, Some, Ok, Err, slice_index_or, ◌&&◌, ◌||◌, ◌==◌, nat_le, nat_lt, filter, if◌then◌else◌, Option, None}
use Rattle.std.specs.List.{list_all}
use Rattle.std.proofs.lemmas.List.Folds.{list_all-append, list_any-append}
use Rattle.std.proofs.lemmas.List.{take-append-drop, map_more, take_more, length-take}
use Rattle.std.proofs.lemmas.List.Elements.{filter_more}
use Rattle.s4_types.specs.declared.acl.AclEntry.{AclEntry}
use Rattle.s4_types.specs.declared.reply.Refusal.TheVariants.{AclFull, NoEntry}
use Rattle.s4_types.specs.Acl.{names, one_each, IsAcl, without_entry, replaced}
use Rattle.s4_types.specs.Judgement.{Found, found_from}
use Rattle.s4_types.specs.Answer.{settable}
use Rattle.s4_types.proofs.Booleans.{by_test, both, not_both, ||-true}
use Rattle.s4_types.proofs.Entries.{length-without, length-replaced}
use Rattle.std.specs.Option.{option_or}

-- what makes a list an ACL
record AclParts (acl : List AclEntry) : Type 0 where
  short : length acl ≤ 16
  once : one_each acl ≡ true
  given : list_all (λ entry. nat_lt 0 entry.rights) acl ≡ true

parts : (acl : List AclEntry) → IsAcl acl → AclParts acl
parts acl is =
    let outer = both (nat_le (length acl) 16 && one_each acl) (list_all (λ entry. nat_lt 0 entry.rights) acl) is in
    let inner = both (nat_le (length acl) 16) (one_each acl) outer.0 in
    let low : nat_le (length acl) 16 ≡ true = inner.0 in
    record { short = grind arith; once = inner.1; given = outer.1 }

whole : (acl : List AclEntry) → AclParts acl → IsAcl acl
whole acl p =
    let short : length acl ≤ 16 = p.short in
    let low : nat_le (length acl) 16 ≡ true = grind arith in
    rw (low, p.once, p.given) refl

-- A BEGINNING OF AN ACL

names-front : (who : ℕ) (xs ys : List AclEntry) → names who (xs ++ ys) ≡ false → names who xs ≡ false
names-front who [] ys e = refl
names-front who (x ∷ xs) ys e = of (x.who == who) (names-front who xs ys) e
  where
    of : (b : Bool) → (names who (xs ++ ys) ≡ false → names who xs ≡ false) → (b || names who (xs ++ ys)) ≡ false → (b || names who xs) ≡ false
    of true rest f = cc
    of false rest f = rest f

not-true : (b : Bool) → not b ≡ true → b ≡ false
not-true true e = cc
not-true false e = refl

one_each-front : (xs ys : List AclEntry) → one_each (xs ++ ys) ≡ true → one_each xs ≡ true
one_each-front [] ys e = refl
one_each-front (x ∷ xs) ys e =
    let parts = both (not (names x.who (xs ++ ys))) (one_each (xs ++ ys)) e in
    rw (names-front x.who xs ys (not-true (names x.who (xs ++ ys)) parts.0), one_each-front xs ys parts.1) refl

pub is_acl-front : (xs ys : List AclEntry) → IsAcl (xs ++ ys) → IsAcl xs
is_acl-front xs ys is =
    let p = parts (xs ++ ys) is in
    let low : length (xs ++ ys) ≤ 16 = p.short in
    let sum : length (xs ++ ys) ≡ length xs + length ys = length-append xs ys in
    let all : (list_all (λ (entry : AclEntry). nat_lt 0 entry.rights) xs && list_all (λ (entry : AclEntry). nat_lt 0 entry.rights) ys) ≡ true
    = sym (list_all-append (λ (entry : AclEntry). nat_lt 0 entry.rights) xs ys) ∙ p.given in
    whole xs (record {
      short = omega arith;
      once = one_each-front xs ys p.once;
      given = (both (list_all (λ (entry : AclEntry). nat_lt 0 entry.rights) xs) _ all).0;
    })

-- AN ACL WITHOUT AN ENTRY

names-without : (p : AclEntry → Bool) (who : ℕ) (xs : List AclEntry) → names who xs ≡ false → names who (filter p xs) ≡ false
names-without p who [] e = refl
names-without p who (x ∷ xs) e = of (x.who == who) (p x) refl (names-without p who xs) e
  where
    of : (b c : Bool) → (x.who == who) ≡ b → (names who xs ≡ false → names who (filter p xs) ≡ false) → (b || names who xs) ≡ false → names who (cond c (x ∷ filter p xs) (filter p xs)) ≡ false
    of true c is rest f = cc
    of false true is rest f = ap (λ d. d || names who (filter p xs)) is ∙ rest f
    of false false is rest f = rest f

one_each-without : (p : AclEntry → Bool) (xs : List AclEntry) → one_each xs ≡ true → one_each (filter p xs) ≡ true
one_each-without p [] e = refl
one_each-without p (x ∷ xs) e =
    let parts = both (not (names x.who xs)) (one_each xs) e in
    of (p x) (names-without p x.who xs (not-true (names x.who xs) parts.0)) (one_each-without p xs parts.1)
  where
    of : (b : Bool) → names x.who (filter p xs) ≡ false → one_each (filter p xs) ≡ true → one_each (cond b (x ∷ filter p xs) (filter p xs)) ≡ true
    of true f g = rw (f, g) refl
    of false f g = g

all-without : (p q : AclEntry → Bool) (xs : List AclEntry) → list_all q xs ≡ true → list_all q (filter p xs) ≡ true
all-without p q [] e = refl
all-without p q (x ∷ xs) e = let parts = both (q x) (list_all q xs) e in of (p x) parts.0 (all-without p q xs parts.1)
  where
    of : (b : Bool) → q x ≡ true → list_all q (filter p xs) ≡ true → list_all q (cond b (x ∷ filter p xs) (filter p xs)) ≡ true
    of true f g = rw (f, g) refl
    of false f g = g

pub is_acl-without : (who : ℕ) (xs : List AclEntry) → IsAcl xs → IsAcl (without_entry who xs)
is_acl-without who xs is =
    let p = parts xs is in
    let low : length xs ≤ 16 = p.short in
    let shorter : length (without_entry who xs) ≤ length xs = length-without (λ entry. not (entry.who == who)) xs in
    whole (without_entry who xs) (record {
      short = omega arith;
      once = one_each-without (λ entry. not (entry.who == who)) xs p.once;
      given = all-without (λ entry. not (entry.who == who)) (λ entry. nat_lt 0 entry.rights) xs p.given;
    })

-- AN ACL WITH AN ENTRY CHANGED

-- the entry in the place of its user's
abbrev pub in_place : AclEntry → AclEntry → AclEntry
in_place new entry = if entry.who == new.who then new else entry

in_place-who : (new entry : AclEntry) → (in_place new entry).who ≡ entry.who
in_place-who new entry = by_test (entry.who == new.who)
    (λ e. let same : entry.who ≡ new.who = grind arith in ap (λ b. (cond b new entry).who) e ∙ sym same)
    (λ e. ap (λ b. (cond b new entry).who) e)

names-replaced : (new : AclEntry) (who : ℕ) (xs : List AclEntry) → names who (replaced new xs) ≡ names who xs
names-replaced new who [] = refl
names-replaced new who (x ∷ xs) = ap (λ w. (w == who) || names who (replaced new xs)) (in_place-who new x) ∙ ap (λ b. (x.who == who) || b) (names-replaced new who xs)

one_each-replaced : (new : AclEntry) (xs : List AclEntry) → one_each (replaced new xs) ≡ one_each xs
one_each-replaced new [] = refl
one_each-replaced new (x ∷ xs) =
    ap (λ w. not (names w (replaced new xs)) && one_each (replaced new xs)) (in_place-who new x)
    ∙ ap (λ b. not b && one_each (replaced new xs)) (names-replaced new x.who xs)
    ∙ ap (λ b. not (names x.who xs) && b) (one_each-replaced new xs)

all-replaced : (new : AclEntry) (xs : List AclEntry) → nat_lt 0 new.rights ≡ true → list_all (λ entry. nat_lt 0 entry.rights) xs ≡ true → list_all (λ entry. nat_lt 0 entry.rights) (replaced new xs) ≡ true
all-replaced new [] g e = refl
all-replaced new (x ∷ xs) g e =
    let parts = both (nat_lt 0 x.rights) (list_all (λ (entry : AclEntry). nat_lt 0 entry.rights) xs) e in
    of (x.who == new.who) parts.0 (all-replaced new xs g parts.1)
  where
    of : (b : Bool) → nat_lt 0 x.rights ≡ true → list_all (λ entry. nat_lt 0 entry.rights) (replaced new xs) ≡ true → (nat_lt 0 (cond b new x).rights && list_all (λ entry. nat_lt 0 entry.rights) (replaced new xs)) ≡ true
    of true f r = rw (g, r) refl
    of false f r = rw (f, r) refl

pub is_acl-replaced : (new : AclEntry) (xs : List AclEntry) → 0 < new.rights → IsAcl xs → IsAcl (replaced new xs)
is_acl-replaced new xs given is =
    let p = parts xs is in
    let low : length xs ≤ 16 = p.short in
    let same : length (replaced new xs) ≡ length xs = length-replaced new xs in
    let some : nat_lt 0 new.rights ≡ true = grind arith in
    whole (replaced new xs) (record {
      short = omega arith;
      once = one_each-replaced new xs ∙ p.once;
      given = all-replaced new xs some p.given;
    })

-- AN ACL WITH ONE MORE ENTRY

names-more : (who : ℕ) (new : AclEntry) (xs : List AclEntry) → names who xs ≡ false → (new.who == who) ≡ false → names who (xs ++ new ∷ []) ≡ false
names-more who new xs e f = list_any-append (λ entry. entry.who == who) xs (new ∷ []) ∙ ap (λ b. b || ((new.who == who) || false)) e ∙ ap (λ b. b || false) f

one_each-more : (new : AclEntry) (xs : List AclEntry) → names new.who xs ≡ false → one_each xs ≡ true → one_each (xs ++ new ∷ []) ≡ true
one_each-more new [] e o = refl
one_each-more new (x ∷ xs) e o =
    let once = both (not (names x.who xs)) (one_each xs) o in
    by_test (x.who == new.who)
    (λ f. absurd (not_both true refl (ap (λ b. b || names new.who xs) (sym f) ∙ e)))
    (λ f. let other : (new.who == x.who) ≡ false = grind arith in
    let rest : names new.who xs ≡ false = ap (λ b. b || names new.who xs) (sym f) ∙ e in
    rw (names-more x.who new xs (not-true (names x.who xs) once.0) other, one_each-more new xs rest once.1) refl)

pub is_acl-more : (new : AclEntry) (xs : List AclEntry) → 0 < new.rights → names new.who xs ≡ false → length xs < 16 → IsAcl xs → IsAcl (xs ++ new ∷ [])
is_acl-more new xs given free room is =
    let p = parts xs is in
    let sum : length (xs ++ new ∷ []) ≡ length xs + 1 = length-append xs (new ∷ []) in
    let some : nat_lt 0 new.rights ≡ true = grind arith in
    whole (xs ++ new ∷ []) (record {
      short = omega arith;
      once = one_each-more new xs free p.once;
      given = list_all-append (λ entry. nat_lt 0 entry.rights) xs (new ∷ []) ∙ rw (p.given, some) refl;
    })

-- the last entry is the only one of its user
names-last : (xs : List AclEntry) (x : AclEntry) → one_each (xs ++ x ∷ []) ≡ true → names x.who xs ≡ false
names-last [] x e = refl
names-last (y ∷ xs) x e =
    let once = both (not (names y.who (xs ++ x ∷ []))) (one_each (xs ++ x ∷ [])) e in
    let apart : (names y.who xs || ((x.who == y.who) || false)) ≡ false = sym (list_any-append (λ entry. entry.who == y.who) xs (x ∷ [])) ∙ not-true (names y.who (xs ++ x ∷ [])) once.0 in
    by_test (y.who == x.who)
    (λ f. let same : (x.who == y.who) ≡ true = grind arith in
    absurd (not_both true refl (sym (||-true (names y.who xs)) ∙ ap (λ b. names y.who xs || (b || false)) (sym same) ∙ apart)))
    (λ f. rw (f, names-last xs x once.1) refl)

-- LOOKING UP

is_none : (found : Option Found) → is_some found ≡ false → found ≡ None
is_none None e = refl
is_none (Some f) e = cc

or_none : (found : Option Found) → option_or found None ≡ found
or_none None = refl
or_none (Some f) = refl

-- one more entry is found where none before it is
pub found-more : (i who : ℕ) (xs : List AclEntry) (x : AclEntry) → found_from i who (xs ++ x ∷ []) ≡ option_or (found_from i who xs) (if x.who == who then Some (record { index = i + length xs; rights = x.rights }) else None)
found-more i who [] x = ap (λ n. if x.who == who then Some (record { index = n; rights = x.rights }) else None) (sym (add-zero i))
found-more i who (y ∷ xs) x = of (y.who == who) (found-more (i + 1) who xs x)
  where
    of : (b : Bool) → found_from (i + 1) who (xs ++ x ∷ []) ≡ option_or (found_from (i + 1) who xs) (if x.who == who then Some (record { index = i + 1 + length xs; rights = x.rights }) else None)
        → cond b (Some (record { index = i; rights = y.rights })) (found_from (i + 1) who (xs ++ x ∷ [])) ≡ option_or (cond b (Some (record { index = i; rights = y.rights })) (found_from (i + 1) who xs)) (if x.who == who then Some (record { index = i + length (y ∷ xs); rights = x.rights }) else None)
    of true e = refl
    of false e = e ∙ ap (λ n. option_or (found_from (i + 1) who xs) (if x.who == who then Some (record { index = n; rights = x.rights }) else None)) (omega arith)

pub found-names : (i who : ℕ) (xs : List AclEntry) → names who xs ≡ is_some (found_from i who xs)
found-names i who [] = refl
found-names i who (x ∷ xs) = of (x.who == who) (found-names (i + 1) who xs)
  where
    of : (b : Bool) → names who xs ≡ is_some (found_from (i + 1) who xs) → (b || names who xs) ≡ is_some (cond b (Some (record { index = i; rights = x.rights })) (found_from (i + 1) who xs))
    of true e = refl
    of false e = e

-- ONE ENTRY AFTER THE OTHER

beginning : (n : ℕ) (xs : List AclEntry) → IsAcl xs → IsAcl (take n xs)
beginning n xs is = is_acl-front (take n xs) (drop n xs) (subst IsAcl (sym (take-append-drop n xs)) is)

module _ (xs : List AclEntry) (i : ℕ) (x : AclEntry) (low : i < length xs) (is : x ≡ slice_index_or xs i x) where
  pub replaced-next : (new : AclEntry) → replaced new (take (i + 1) xs) ≡ replaced new (take i xs) ++ in_place new x ∷ []
  replaced-next new = map_more (in_place new) xs i x low ∙ ap (λ y. replaced new (take i xs) ++ in_place new y ∷ []) (sym is)

  pub is_acl-replaced-next : (new : AclEntry) → 0 < new.rights → IsAcl xs → IsAcl (replaced new (take i xs) ++ in_place new x ∷ [])
  is_acl-replaced-next new given acl = subst IsAcl (replaced-next new) (is_acl-replaced new (take (i + 1) xs) given (beginning (i + 1) xs acl))

  take-next : take (i + 1) xs ≡ take i xs ++ x ∷ []
  take-next = take_more xs i x low ∙ ap (λ y. take i xs ++ y ∷ []) (sym is)

  pub is_acl-next : IsAcl xs → IsAcl (take i xs ++ x ∷ [])
  is_acl-next acl = subst IsAcl take-next (beginning (i + 1) xs acl)

  -- where the next entry is the user's, it is the one that is found
  pub found-next : (who : ℕ) → (x.who == who) ≡ true → IsAcl xs → Some (record { index = i; rights = x.rights }) ≡ found_from 0 who (take (i + 1) xs)
  found-next who e acl =
      let same : x.who ≡ who = grind arith in
      let once : one_each (take i xs ++ x ∷ []) ≡ true = (parts (take i xs ++ x ∷ []) (is_acl-next acl)).once in
      let free : names who (take i xs) ≡ false = subst (λ w. names w (take i xs) ≡ false) same (names-last (take i xs) x once) in
      let index : 0 + length (take i xs) ≡ i = simp length-take (omega arith) in
      sym (ap (found_from 0 who) take-next ∙ found-more 0 who (take i xs) x
      ∙ ap (λ b. option_or (found_from 0 who (take i xs)) (if b then Some (record { index = 0 + length (take i xs); rights = x.rights }) else None)) e
      ∙ ap (λ n. option_or (found_from 0 who (take i xs)) (Some (record { index = n; rights = x.rights }))) index
      ∙ ap (λ f. option_or f (Some (record { index = i; rights = x.rights }))) (is_none (found_from 0 who (take i xs)) (sym (found-names 0 who (take i xs)) ∙ free)))

  -- and else the one that was found stays
  pub found-stays : (who : ℕ) → (x.who == who) ≡ false → found_from 0 who (take i xs) ≡ found_from 0 who (take (i + 1) xs)
  found-stays who e = sym (ap (found_from 0 who) take-next ∙ found-more 0 who (take i xs) x
      ∙ ap (λ b. option_or (found_from 0 who (take i xs)) (if b then Some (record { index = 0 + length (take i xs); rights = x.rights }) else None)) e
      ∙ or_none (found_from 0 who (take i xs)))

  pub without-next : (who : ℕ) → without_entry who (take (i + 1) xs) ≡ without_entry who (take i xs) ++ cond (not (x.who == who)) (x ∷ []) []
  without-next who = filter_more (λ entry. not (entry.who == who)) xs i x low
      ∙ ap (λ (y : AclEntry). without_entry who (take i xs) ++ cond (not (y.who == who)) (y ∷ []) []) (sym is)

  pub is_acl-without-next : (who : ℕ) → not (x.who == who) ≡ true → IsAcl xs → IsAcl (without_entry who (take i xs) ++ x ∷ [])
  is_acl-without-next who e acl =
      subst IsAcl (without-next who ∙ ap (λ b. without_entry who (take i xs) ++ cond b (x ∷ []) []) e) (is_acl-without who (take (i + 1) xs) (beginning (i + 1) xs acl))

-- WHAT A CHANGE COMES TO

pub none-to-take : (who rights : ℕ) (acl : List AclEntry) → names who acl ≡ false → (rights == 0) ≡ true → Err NoEntry ≡ settable who rights acl
none-to-take who rights acl e f = rw (e, f) refl

pub full : (who rights : ℕ) (acl : List AclEntry) → names who acl ≡ false → (rights == 0) ≡ false → 16 ≤ length acl → Err AclFull ≡ settable who rights acl
full who rights acl e f low = let g : nat_le 16 (length acl) ≡ true = grind arith in rw (e, f, g) refl

-- rights are taken away only where there is an entry
pub entry-to-take : (who : ℕ) (acl : List AclEntry) → settable who 0 acl ≡ Ok tt → names who acl ≡ true
entry-to-take who acl e = by_test (names who acl) (λ f. f) (λ f. let none : settable who 0 acl ≡ Err NoEntry = rw f refl in cc)

-- and a new entry is added only where there is room
pub room-to-add : (who rights : ℕ) (acl : List AclEntry) → (rights == 0) ≡ false → names who acl ≡ false → settable who rights acl ≡ Ok tt → length acl < 16
room-to-add who rights acl given free e = by_test (nat_le 16 (length acl))
    (λ f. let none : settable who rights acl ≡ Err AclFull = rw (free, given, f) refl in cc)
    (λ f. grind arith)

some-of-names : (who : ℕ) (acl : List AclEntry) → names who acl ≡ true → 0 < length acl
some-of-names who [] e = cc
some-of-names who (x ∷ acl) e = omega arith

pub some-to-take : (who rights : ℕ) (acl : List AclEntry) → (rights == 0) ≡ true → settable who rights acl ≡ Ok tt → 0 < length acl
some-to-take who rights acl given e =
    let zero : rights ≡ 0 = grind arith in
    some-of-names who acl (entry-to-take who acl (subst (λ r. settable who r acl ≡ Ok tt) zero e))

pub is_acl-added : (who rights : ℕ) (acl : List AclEntry) → (rights == 0) ≡ false → names who acl ≡ false → settable who rights acl ≡ Ok tt → IsAcl acl → IsAcl (acl ++ record { who = who; rights = rights } ∷ [])
is_acl-added who rights acl given free e is =
    let some : 0 < rights = grind arith in
    is_acl-more (record { who = who; rights = rights }) acl some free (room-to-add who rights acl given free e) is
