-- The lines of a purse, as its shelf lists them.
use Rattle.std.proofs.Common.{◌≡◌, ℕ, ◌+◌, ◌≤◌, ◌<◌, Bool, true, false, cond, not, Option, Some, None, List, [], ◌∷◌, ◌++◌, refl, sym, ◌∙◌, ap, arith, take, length, filter, filter_map, flat_map, get_or, take-take}
use Rattle.std.specs.Prelude.{◌&&◌, nat_lt}
use Rattle.std.specs.List.{All, cons_option}
use Rattle.std.specs.Option.{option_map}
use Rattle.std.specs.Map.{keys_of}
use Rattle.std.specs.BTreeMap.{get}
use Rattle.std.specs.BTreeMap.Range.{is_from_start, entries_between}
use Rattle.std.specs.declared.collections.Bound.{Bound}
use Rattle.std.specs.declared.collections.Bound.TheVariants.{Unbounded}
use Rattle.std.proofs.lemmas.List.{take_all, take-append-le, take_more, append-nil, length-take}
use Rattle.std.proofs.lemmas.Grind.{flat_map-append}
use Rattle.std.proofs.lemmas.List.FromFn.{get_or-map-range_with_len}
use Rattle.std.proofs.lemmas.List.Elements.{All-head, All-tail}
use Rattle.s4_types.specs.declared.object.Purse.{Purse}
use Rattle.s4_types.specs.declared.object.ObjectId.{ObjectId}
use Rattle.s4_types.specs.declared.version.Version.{Version}
use Rattle.s4_types.specs.declared.request.After.{After}
use Rattle.s4_types.specs.declared.reply.Grant.{Grant}
use Rattle.s4_types.specs.declared.reply.NameLine.{NameLine}
use Rattle.s4_types.specs.Name.{name_cmp}
use Rattle.s4_types.specs.Answer.{is_after, purse_numbers}
use Rattle.s4_types.proofs.Booleans.{by_test, &&-true}
use Rattle.s4_store.specs.Chains.{Chains, items_of}
use Rattle.s4_tracks.specs.declared.track.Track.{Track}
use Rattle.s4_parts.specs.declared.parts.Parts.{Parts}
use Rattle.s4_parts.specs.declared.shelf.Shelf.{Shelf}
use Rattle.s4_parts.specs.Table.{shelf_of, chain_at, names_on, items_on, bindings_in, names_in, is_any}
use Rattle.s4_parts.specs.Page.{line_of, lines_in}

-- LISTS

filter_map-alike : {A B : Type 0} (f g : A → Option B) (xs : List A) → All (λ x. f x ≡ g x) xs → filter_map f xs ≡ filter_map g xs
filter_map-alike f g [] a = refl
filter_map-alike f g (x ∷ xs) a =
    ap (λ o. cons_option o (filter_map f xs)) (All-head (λ x. f x ≡ g x) x xs a) ∙ ap (cons_option (g x)) (filter_map-alike f g xs (All-tail (λ x. f x ≡ g x) x xs a))

filter_map-keys : {X B : Type 0} (h : List ℕ → Option B) (p q : List ℕ → Bool) (es : List (List ℕ × X)) → ((n : List ℕ) → p n ≡ q n) → filter_map (λ e. h e.0) (filter (λ e. p e.0) es) ≡ filter_map h (filter q (keys_of es))
filter_map-keys h p q [] same = refl
filter_map-keys h p q (e ∷ es) same = by_test (q e.0)
    (λ t. ap (λ b. filter_map (λ e. h e.0) (cond b (e ∷ filter (λ e. p e.0) es) (filter (λ e. p e.0) es))) (same e.0 ∙ t)
    ∙ ap (cons_option (h e.0)) (filter_map-keys h p q es same)
    ∙ sym (ap (λ b. filter_map h (cond b (e.0 ∷ filter q (keys_of es)) (filter q (keys_of es)))) t))
    (λ t. ap (λ b. filter_map (λ e. h e.0) (cond b (e ∷ filter (λ e. p e.0) es) (filter (λ e. p e.0) es))) (same e.0 ∙ t)
    ∙ filter_map-keys h p q es same
    ∙ sym (ap (λ b. filter_map h (cond b (e.0 ∷ filter q (keys_of es)) (filter q (keys_of es)))) t))

-- what gives nothing may be left out before
filter_map-skips : {A B : Type 0} (h : A → Option B) (p q : A → Bool) (xs : List A) → ((x : A) → p x ≡ false → h x ≡ None) → filter_map h (filter q (filter p xs)) ≡ filter_map h (filter q xs)
filter_map-skips h p q [] none = refl
filter_map-skips h p q (x ∷ xs) none = by_test (p x)
    (λ e. ap (λ b. filter_map h (filter q (cond b (x ∷ filter p xs) (filter p xs)))) e ∙ kept (q x) (filter_map-skips h p q xs none))
    (λ e. ap (λ b. filter_map h (filter q (cond b (x ∷ filter p xs) (filter p xs)))) e ∙ left (q x) (none x e) (filter_map-skips h p q xs none))
  where
    kept : (b : Bool) → filter_map h (filter q (filter p xs)) ≡ filter_map h (filter q xs) → filter_map h (cond b (x ∷ filter q (filter p xs)) (filter q (filter p xs))) ≡ filter_map h (cond b (x ∷ filter q xs) (filter q xs))
    kept true rest = ap (cons_option (h x)) rest
    kept false rest = rest

    left : (b : Bool) → h x ≡ None → filter_map h (filter q (filter p xs)) ≡ filter_map h (filter q xs) → filter_map h (filter q (filter p xs)) ≡ filter_map h (cond b (x ∷ filter q xs) (filter q xs))
    left true e rest = rest ∙ sym (ap (λ o. cons_option o (filter_map h (filter q xs))) e)
    left false e rest = rest

filter-none : {A : Type 0} (q : A → Bool) (xs : List A) → ((x : A) → q x ≡ false) → filter q xs ≡ []
filter-none q [] none = refl
filter-none q (x ∷ xs) none = ap (λ b. cond b (x ∷ filter q xs) (filter q xs)) (none x) ∙ filter-none q xs none

-- the first so many of some, and of some that are cut already
pub take-once : {A : Type 0} (n : ℕ) (xs ys : List A) → take n (take n xs ++ ys) ≡ take n (xs ++ ys)
take-once n xs ys = of (Rattle.std.specs.Prelude.nat_le n (length xs)) refl
  where
    of : (b : Bool) → Rattle.std.specs.Prelude.nat_le n (length xs) ≡ b → take n (take n xs ++ ys) ≡ take n (xs ++ ys)
    of true e =
        let low : n ≤ length xs = grind arith in
        let all : length (take n xs) ≡ n = Rattle.std.proofs.lemmas.List.length-take-le n xs low in
        take-append-le n (take n xs) ys (omega arith) ∙ take_all n (take n xs) (omega arith) ∙ sym (take-append-le n xs ys low)
    of false e =
        let high : length xs ≤ n = grind arith in
        ap (λ zs. take n (zs ++ ys)) (take_all n xs high)

pub take-full : {A : Type 0} (n : ℕ) (xs ys : List A) → length xs ≡ n → take n (xs ++ ys) ≡ xs
take-full n xs ys e = take-append-le n xs ys (omega arith) ∙ take_all n xs (omega arith)

pub take-few : {A : Type 0} (n : ℕ) (xs : List A) → length xs ≤ n → take n (xs ++ []) ≡ xs
take-few n xs l = ap (take n) (append-nil xs) ∙ take_all n xs l

-- LINES

-- the line of an entry
abbrev pub line_at : Chains Version → (ObjectId → Option Grant) → Option ℕ → List ℕ × Track → Option NameLine
line_at chains visible at e = line_of visible at e.0 (items_of chains e.1.chain)

module _ (chains : Chains Version) (parts : Parts) (visible : ObjectId → Option Grant) (purse : Purse) (after : Option After) (at : Option ℕ) where
  line-at : List ℕ → Option NameLine
  line-at n = line_of visible at n (bindings_in chains parts purse n)

  unlisted : (n : List ℕ) → is_any (bindings_in chains parts purse n) ≡ false → line_of visible at n (bindings_in chains parts purse n) ≡ None
  unlisted n e = of at (bindings_in chains parts purse n) e
    where
      of : (a : Option ℕ) (vs : List Version) → is_any vs ≡ false → line_of visible a n vs ≡ None
      of None [] f = refl
      of (Some m) [] f = refl
      of a (v ∷ vs) f = cc

  -- no shelf, and no name after the place
  pub none-listed : shelf_of parts purse ≡ None → lines_in chains parts visible purse.creator after at purse.number ≡ []
  none-listed none = ap (λ s. filter_map (λ n. line_of visible at n (bindings_in chains parts purse n)) (filter (is_after after purse.number) (filter (λ n. is_any (bindings_in chains parts purse n)) (names_on s)))) none

  pub none-after : ((n : List ℕ) → is_after after purse.number n ≡ false) → lines_in chains parts visible purse.creator after at purse.number ≡ []
  none-after none = ap (filter_map (λ n. line_of visible at n (bindings_in chains parts purse n))) (filter-none (is_after after purse.number) (names_in chains parts purse) none)

  -- the entries from a start on
  pub listed : (shelf : Shelf) → shelf_of parts purse ≡ Some shelf → (start : Bound (List ℕ)) → ((n : List ℕ) → is_from_start name_cmp start n ≡ is_after after purse.number n)
      → (es : List (List ℕ × Track)) → es ≡ entries_between name_cmp start Unbounded shelf.tracks.entries → All (λ e. get name_cmp shelf.tracks e.0 ≡ Some e.1) es
      → filter_map (line_at chains visible at) es ≡ lines_in chains parts visible purse.creator after at purse.number
  listed shelf found start from es is mapped =
      filter_map-alike (line_at chains visible at) (λ e. line_of visible at e.0 (bindings_in chains parts purse e.0)) es
      (λ k d l. ap (λ vs. line_of visible at (Rattle.std.specs.Prelude.slice_index_or es k d).0 vs)
      (sym (ap (λ s. items_on chains (Rattle.s4_parts.specs.Table.chain_on s (Rattle.std.specs.Prelude.slice_index_or es k d).0)) found ∙ ap (λ t. items_on chains (option_map (λ r. r.chain) t)) (mapped k d l))))
      ∙ ap (filter_map (λ e. line_of visible at e.0 (bindings_in chains parts purse e.0))) is
      ∙ filter_map-keys (λ n. line_of visible at n (bindings_in chains parts purse n)) (λ n. is_from_start name_cmp start n && true) (is_after after purse.number) shelf.tracks.entries (λ n. &&-true (is_from_start name_cmp start n) ∙ from n)
      ∙ sym (filter_map-skips (λ n. line_of visible at n (bindings_in chains parts purse n)) (λ n. is_any (bindings_in chains parts purse n)) (is_after after purse.number) (keys_of shelf.tracks.entries) unlisted)
      ∙ ap (λ s. filter_map (λ n. line_of visible at n (bindings_in chains parts purse n)) (filter (is_after after purse.number) (filter (λ n. is_any (bindings_in chains parts purse n)) (names_on s)))) (sym found)

-- ALL PURSES

numbers-are : (n d : ℕ) → n < 16 → get_or purse_numbers n d ≡ n
numbers-are n d l = get_or-map-range_with_len (λ x. x) 0 16 n n d l (omega arith)

take-numbers : (n : ℕ) → n < 16 → take (n + 1) purse_numbers ≡ take n purse_numbers ++ n ∷ []
take-numbers n l = take_more purse_numbers n 0 l ∙ ap (λ x. take n purse_numbers ++ x ∷ []) (numbers-are n 0 l)

-- one purse more
pub next-purse : {A : Type 0} (f : ℕ → List A) (n : ℕ) → n < 16 → (xs ys : List A) → xs ≡ take 65 (flat_map f (take n purse_numbers)) → ys ≡ take 65 (xs ++ f n) → ys ≡ take 65 (flat_map f (take (n + 1) purse_numbers))
next-purse f n l xs ys e is =
    is ∙ ap (λ zs. take 65 (zs ++ f n)) e ∙ take-once 65 (flat_map f (take n purse_numbers)) (f n)
    ∙ ap (take 65) (ap (λ zs. flat_map f (take n purse_numbers) ++ zs) (sym (append-nil (f n))) ∙ sym (flat_map-append f (take n purse_numbers) (n ∷ [])) ∙ ap (flat_map f) (sym (take-numbers n l)))

-- the page of 65 lines or fewer tells what the page of all tells
pub cut-page : {A : Type 0} (all xs : List A) → xs ≡ take 65 all → take 64 xs ≡ take 64 all
cut-page all xs e = ap (take 64) e ∙ take-take 64 65 all (omega arith)

pub more-page : {A : Type 0} (all xs : List A) → xs ≡ take 65 all → nat_lt 64 (length xs) ≡ nat_lt 64 (length all)
more-page all xs e =
    let cut : length xs ≡ Rattle.std.proofs.Common.min 65 (length all) = ap length e ∙ length-take 65 all in
    grind arith
