-- Bytes that are added to those of one connection.
use Rattle.std.proofs.Common.{◌≡◌, ℕ, Bool, false, cond, eqb, Option, Some, None, List, [], ◌++◌, refl, sym, ap, subst, ◌∙◌}
use Rattle.std.specs.Prelude.{unwrap_or, is_some, is_ok, OnOk, IfOk, Result, Ok, Err, if◌then◌else◌}
use Rattle.std.specs.Option.{option_map}
use Rattle.std.specs.List.Sorted.{IsStrictlySortedBy}
use Rattle.std.specs.Map.{lookup, keys_of}
use Rattle.std.specs.Ordering.{is_eq, nat_cmp}
use Rattle.std.specs.Global.{Vec}
use Rattle.std.proofs.lemmas.Map.Made.{lookup-map_values, keys_of-map_values}
use Rattle.s4_types.proofs.Booleans.{by_test}
use Rattle.s4_session.specs.Sent.{AreRising, bytes_for, lists_of}
use Rattle.s4_session.proofs.Numbers.{eq_is}

-- what is kept for a connection
abbrev pub kept_for : ℕ → List (ℕ × Vec ℕ) → Option (Vec ℕ)
kept_for c entries = lookup (λ d. is_eq (nat_cmp c d)) entries

abbrev items : Vec ℕ → List ℕ
items v = v.items

bytes-kept : (c : ℕ) (entries : List (ℕ × Vec ℕ)) → bytes_for c (lists_of entries) ≡ option_map items (kept_for c entries)
bytes-kept c entries = lookup-map_values items (λ d. is_eq (nat_cmp c d)) entries

pub isnt_some : {A : Type 0} (o : Option A) → is_some o ≡ false → o ≡ None
isnt_some None e = refl
isnt_some (Some x) e = cc

-- the connection's bytes are these now, and the others are as they were
abbrev pub Grows : ℕ → List ℕ → List (ℕ × List ℕ) → List (ℕ × List ℕ) → Type 0
Grows c bytes old new = (d : ℕ) → bytes_for d new ≡ cond (eqb c d) (Some (unwrap_or (bytes_for c old) [] ++ bytes)) (bytes_for d old)

module _ (c : ℕ) (bytes : List ℕ) (old new : List (ℕ × Vec ℕ)) (v : Vec ℕ)
    (updates : (d : ℕ) → kept_for d new ≡ cond (is_eq (nat_cmp c d)) (Some v) (kept_for d old)) where
  grows : items v ≡ unwrap_or (option_map items (kept_for c old)) [] ++ bytes → Grows c bytes (lists_of old) (lists_of new)
  grows e d =
      let all : List ℕ = unwrap_or (bytes_for c (lists_of old)) [] ++ bytes in
      let here : items v ≡ all = e ∙ ap (λ (o : Option (List ℕ)). unwrap_or o [] ++ bytes) (sym (bytes-kept c old)) in
      bytes-kept d new ∙ ap (option_map items) (updates d) ∙ ap (λ (b : Bool). option_map items (cond b (Some v) (kept_for d old))) (eq_is c d)
      ∙ by_test (eqb c d)
      (λ t. ap (λ (b : Bool). option_map items (cond b (Some v) (kept_for d old))) t ∙ ap (λ (w : List ℕ). Some w) here ∙ ap (λ (b : Bool). cond b (Some all) (bytes_for d (lists_of old))) (sym t))
      (λ f. ap (λ (b : Bool). option_map items (cond b (Some v) (kept_for d old))) f ∙ sym (bytes-kept d old) ∙ ap (λ (b : Bool). cond b (Some all) (bytes_for d (lists_of old))) (sym f))

  -- a connection's first bytes
  pub grows_first : kept_for c old ≡ None → items v ≡ bytes → Grows c bytes (lists_of old) (lists_of new)
  grows_first none e = grows (e ∙ ap (λ (o : Option (Vec ℕ)). unwrap_or (option_map items o) [] ++ bytes) (sym none))

  -- more of them
  pub grows_on : {A E : Type 0} (result : Result A E) (before : Vec ℕ) → kept_for c old ≡ Some before → items v ≡ (if is_ok result then items before ++ bytes else items before) → OnOk result (Grows c bytes (lists_of old) (lists_of new))
  grows_on (Ok x) before found e = grows (e ∙ ap (λ (o : Option (Vec ℕ)). unwrap_or (option_map items o) [] ++ bytes) (sym found))
  grows_on (Err x) before found e = tt

-- a list of what is kept by rising connections rises
pub rising_list : {E : Type 0} (entries : List (ℕ × Vec ℕ)) (sent : List (ℕ × List ℕ)) (result : Result (Vec (ℕ × Vec ℕ)) E) → lists_of entries ≡ sent
    → IsStrictlySortedBy nat_cmp (keys_of entries) → IfOk result (λ list. lists_of list.items ≡ sent) → IfOk result (λ list. AreRising (lists_of list.items))
rising_list entries sent (Ok list) view sorted same =
    subst AreRising (view ∙ sym same) (subst (IsStrictlySortedBy nat_cmp) (sym (keys_of-map_values items entries)) sorted)
rising_list entries sent (Err e) view sorted same = tt
