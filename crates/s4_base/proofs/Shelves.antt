-- Names that are bound, by their purses, once one purse's were changed.
use Rattle.std.proofs.Common.{◌≡◌, ℕ, Bool, true, false, cond, not, Option, Some, None, unwrap_or, List, [], ◌∷◌, refl, sym, ◌∙◌, ap, filter}
use Rattle.std.specs.Prelude.{◌&&◌, if◌then◌else◌}
use Rattle.std.specs.declared.cmp.Ordering.{Ordering}
use Rattle.std.specs.declared.cmp.Ordering.TheVariants.{Less, Equal, Greater}
use Rattle.std.specs.Ordering.{match_ordering}
use Rattle.std.specs.Map.{lookup, keys_of, remove_entry}
use Rattle.std.specs.BTreeMap.{is_at, insert_entry}
use Rattle.s4_types.specs.declared.object.Purse.{Purse}
use Rattle.s4_types.specs.Base.{Standing}
use Rattle.s4_types.specs.Bindings.{with_name, in_order}
use Rattle.s4_types.specs.Name.{same_name, name_cmp}
use Rattle.s4_types.specs.Names.{same_purse, purse_cmp}
use Rattle.s4_types.proofs.Booleans.{by_test}
use Rattle.s4_types.proofs.SameNames.{purse_is, at_purse, at_name}
use Rattle.s4_base.specs.Lists.{bounds_among, binding_among}
use Rattle.s4_base.specs.Tables.{bound_among}

-- ANOTHER PURSE

module _ (before after : List (Purse × List (List ℕ × Standing ℕ))) (purse : Purse) (new : List (List ℕ × Standing ℕ)) (replaced : (q : Purse) → lookup (is_at (purse_cmp q)) after ≡ cond (is_at (purse_cmp purse) q) (Some new) (lookup (is_at (purse_cmp q)) before)) where
  bounds-changed : (p : Purse) → bounds_among after p ≡ (if same_purse purse p then new else bounds_among before p)
  bounds-changed p =
      ap (λ x. unwrap_or x []) (replaced p) ∙ ap (λ b. unwrap_or (cond b (Some new) (lookup (is_at (purse_cmp p)) before)) []) (at_purse purse p) ∙ of (same_purse purse p)
    where
      of : (b : Bool) → unwrap_or (cond b (Some new) (lookup (is_at (purse_cmp p)) before)) [] ≡ (if b then new else bounds_among before p)
      of true = refl
      of false = refl

  -- what is told of it is told of the purse
  pub told-changed : {A : Type 0} (told : List (List ℕ × Standing ℕ) → A) (x : A) → told new ≡ x → (p : Purse) → told (bounds_among after p) ≡ (if same_purse purse p then x else told (bounds_among before p))
  told-changed told x is p = ap told (bounds-changed p) ∙ of (same_purse purse p)
    where
      of : (b : Bool) → told (if b then new else bounds_among before p) ≡ (if b then x else told (bounds_among before p))
      of true = is
      of false = refl

  pub told-there : {A : Type 0} (told : List (List ℕ × Standing ℕ) → A) (f : A → A) → told new ≡ f (told (bounds_among before purse)) → (p : Purse)
      → told (bounds_among after p) ≡ (if same_purse purse p then f (told (bounds_among before p)) else told (bounds_among before p))
  told-there told f is p = told-changed told (f (told (bounds_among before purse))) is p ∙ by_test (same_purse purse p)
      (λ e. ap (λ b. cond b (f (told (bounds_among before purse))) (told (bounds_among before p))) e
      ∙ ap (λ q. f (told (bounds_among before q))) (purse_is purse p e)
      ∙ sym (ap (λ b. cond b (f (told (bounds_among before p))) (told (bounds_among before p))) e))
      (λ e. ap (λ b. cond b (f (told (bounds_among before purse))) (told (bounds_among before p))) e
      ∙ sym (ap (λ b. cond b (f (told (bounds_among before p))) (told (bounds_among before p))) e))

  -- a binding among the purse's was changed
  pub binding-there : (name : List ℕ) (x : Option (Standing ℕ)) → ((n : List ℕ) → bound_among new n ≡ (if same_name name n then x else binding_among before purse n)) → (p : Purse) (n : List ℕ)
      → binding_among after p n ≡ (if same_purse purse p && same_name name n then x else binding_among before p n)
  binding-there name x is p n = told-there (λ bounds. bound_among bounds n) (λ old. if same_name name n then x else old) (is n) p ∙ of (same_purse purse p)
    where
      of : (b : Bool) → (if b then (if same_name name n then x else binding_among before p n) else binding_among before p n) ≡ (if b && same_name name n then x else binding_among before p n)
      of true = refl
      of false = refl

-- ONE NAME

pub keys-insert : (name : List ℕ) (bound : Standing ℕ) (es : List (List ℕ × Standing ℕ)) → keys_of (insert_entry name_cmp es name bound) ≡ with_name name (keys_of es)
keys-insert name bound [] = refl
keys-insert name bound (e ∷ es) = of (name_cmp name e.0) (keys-insert name bound es)
  where
    of : (o : Ordering) → keys_of (insert_entry name_cmp es name bound) ≡ with_name name (keys_of es)
        → keys_of (match_ordering o ((name, bound) ∷ e ∷ es) ((e.0, bound) ∷ es) (e ∷ insert_entry name_cmp es name bound)) ≡ in_order o (name ∷ e.0 ∷ keys_of es) (e.0 ∷ keys_of es) (e.0 ∷ with_name name (keys_of es))
    of Less rest = refl
    of Equal rest = refl
    of Greater rest = ap (λ ks. e.0 ∷ ks) rest

keys-kept : (test : List ℕ → Bool) (es : List (List ℕ × Standing ℕ)) → lookup test es ≡ None → keys_of es ≡ filter (λ n. not (test n)) (keys_of es)
keys-kept test [] none = refl
keys-kept test (e ∷ es) none = by_test (test e.0)
    (λ pass. let is : Some e.1 ≡ None = sym (ap (λ b. cond b (Some e.1) (lookup test es)) pass) ∙ none in cc)
    (λ fail. ap (λ ks. e.0 ∷ ks) (keys-kept test es (sym (ap (λ b. cond b (Some e.1) (lookup test es)) fail) ∙ none))
    ∙ sym (ap (λ b. cond (not b) (e.0 ∷ filter (λ n. not (test n)) (keys_of es)) (filter (λ n. not (test n)) (keys_of es))) fail))

-- the one key that passes is taken out
pub keys-removed : (test : List ℕ → Bool) (es : List (List ℕ × Standing ℕ)) → lookup test (remove_entry test es) ≡ None → keys_of (remove_entry test es) ≡ filter (λ n. not (test n)) (keys_of es)
keys-removed test [] none = refl
keys-removed test (e ∷ es) none = by_test (test e.0)
    (λ pass. ap (λ b. keys_of (cond b es (e ∷ remove_entry test es))) pass
    ∙ keys-kept test es (sym (ap (λ b. lookup test (cond b es (e ∷ remove_entry test es))) pass) ∙ none)
    ∙ sym (ap (λ b. cond (not b) (e.0 ∷ filter (λ n. not (test n)) (keys_of es)) (filter (λ n. not (test n)) (keys_of es))) pass))
    (λ fail. ap (λ b. keys_of (cond b es (e ∷ remove_entry test es))) fail
    ∙ ap (λ ks. e.0 ∷ ks) (keys-removed test es (sym (ap (λ b. cond b (Some e.1) (lookup test (remove_entry test es))) fail) ∙ sym (ap (λ b. lookup test (cond b es (e ∷ remove_entry test es))) fail) ∙ none))
    ∙ sym (ap (λ b. cond (not b) (e.0 ∷ filter (λ n. not (test n)) (keys_of es)) (filter (λ n. not (test n)) (keys_of es))) fail))

pub at_names : (name : List ℕ) → is_at (name_cmp name) ≡ same_name name
at_names name i n = at_name name n i

-- a binding that was put at the name
pub bound-put : (name : List ℕ) (x : Option (Standing ℕ)) (before after : List (List ℕ × Standing ℕ)) (n : List ℕ) → bound_among after n ≡ cond (is_at (name_cmp name) n) x (bound_among before n)
    → bound_among after n ≡ (if same_name name n then x else bound_among before n)
bound-put name x before after n e = e ∙ ap (λ b. cond b x (bound_among before n)) (at_name name n)
