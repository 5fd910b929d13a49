-- Items that move by a place, from the last on, until one place is free for another.
use Rattle.std.proofs.Common.{◌≡◌, ℕ, suc, ◌+◌, ◌-◌, ◌<◌, ◌≤◌, List, [], ◌∷◌, ◌++◌, sym, ◌∙◌, ap, arith, length, get_or, set, take, drop, length-set}
use Rattle.std.specs.List.{insert}
use Rattle.std.proofs.lemmas.List.{take_at, take_all, take-take, take-set-le, drop_all, drop_more, drop-set, get_or-take, set_split, length_push}

-- The items below the free place are the old ones, and those above it are the others.
pub record IsParted {T : Type 0} (old items : List T) (free : ℕ) : Type 0 where
  pub long : length items ≡ length old + 1
  pub front : take free items ≡ take free old
  pub back : drop (free + 1) items ≡ drop free old

module _ {T : Type 0} where
  -- the last place is free
  pub parted_first : (old items : List T) (x : T) (free : ℕ) → items ≡ old ++ x ∷ [] → free ≡ length old → IsParted old items free
  parted_first old items x free is at =
      let long = ap length is ∙ length_push old x in
      record {
        long = long;
        front = ap (take free) is ∙ take_at old (x ∷ []) free (sym at) ∙ sym (take_all free old (omega arith));
        back = drop_all (free + 1) items (omega arith) ∙ sym (drop_all free old (omega arith));
      }

  -- the item in front of the free place moves there
  pub parted_next : (old items new : List T) (free : ℕ) (before : T) → IsParted old items free → 0 < free → free ≤ length old → before ≡ get_or items (free - 1) before
      → new ≡ set items free before → IsParted old new (free - 1)
  parted_next old items new free before p some within is moved =
      let down : free - 1 + 1 ≡ free = omega arith in
      let lower : free - 1 ≤ free = omega arith in
      let same : before ≡ get_or old (free - 1) before =
      is ∙ sym (get_or-take free items (free - 1) before (omega arith)) ∙ ap (λ xs. get_or xs (free - 1) before) p.front ∙ get_or-take free old (free - 1) before (omega arith) in
      record {
        long = ap length moved ∙ length-set items free before ∙ p.long;
        front =
            ap (take (free - 1)) moved ∙ take-set-le (free - 1) items free before lower ∙ sym (take-take (free - 1) free items lower) ∙ ap (take (free - 1)) p.front
            ∙ take-take (free - 1) free old lower;
        back =
            ap (drop (free - 1 + 1)) moved ∙ ap (λ n. drop n (set items free before)) down ∙ drop-set items free before (let long = p.long in omega arith)
            ∙ ap (λ xs. before ∷ xs) p.back ∙ ap (λ x. x ∷ drop free old) same ∙ ap (λ n. get_or old (free - 1) before ∷ drop n old) (sym down)
            ∙ sym (drop_more old (free - 1) before (omega arith));
      }

  -- the item in the free place
  pub parted_last : (old items new : List T) (free index : ℕ) (x : T) → IsParted old items free → free ≤ length old → free ≡ index → new ≡ set items index x → new ≡ insert old index x
  parted_last old items new free index x p within is put =
      put ∙ ap (λ n. set items n x) (sym is) ∙ set_split items free x (let long = p.long in omega arith) ∙ ap (λ xs. xs ++ x ∷ drop (suc free) items) p.front
      ∙ ap (λ xs. take free old ++ x ∷ xs) (ap (λ n. drop n items) {x = suc free} {y = free + 1} (omega arith) ∙ p.back) ∙ ap (λ n. insert old n x) is
