-- How many items the store holds once a track was changed.
use Rattle.std.proofs.Common.{◌≡◌, ℕ, suc, ◌+◌, List, [], ◌∷◌, ◌++◌, refl, ◌∙◌, ap, arith, length}
use Rattle.std.specs.FinMap as finmap
use Rattle.std.proofs.lemmas.List.{length-append}
use Rattle.s4_types.specs.declared.version.Version.{Version}
use Rattle.s4_types.specs.declared.version.Item.{Item}
use Rattle.s4_store.specs.Chains.{Chains, items_of, item_count}
use Rattle.s4_store.specs.Counts.{item_count-more, item_count-open}
use Rattle.s4_tracks.specs.Chain.{begun, with_end, with_put}
use Rattle.s4_objects.specs.declared.kept.Kept.{Kept}
use Rattle.s4_objects.specs.Opening.{Opens}

pub length-with_end : (m : ℕ) (vs : List Version) → length (with_end m vs) ≡ length vs
length-with_end m [] = refl
length-with_end m (v ∷ []) = refl
length-with_end m (v ∷ w ∷ vs) = ap suc (length-with_end m (w ∷ vs))

module _ (m new : Chains Version) (c : ℕ) where
  pub used_begun : (v : Version) → new ≡ finmap.insert m c (items_of m c ++ v ∷ []) → item_count new ≡ item_count m + 1
  used_begun v changed = ap item_count changed ∙ item_count-more m c 1 (items_of m c ++ v ∷ []) (length-append (items_of m c) (v ∷ []))

  pub used_ended : (t : ℕ) → new ≡ finmap.insert m c (with_end t (items_of m c)) → item_count new ≡ item_count m
  used_ended t changed =
      let same : length (with_end t (items_of m c)) ≡ length (items_of m c) = length-with_end t (items_of m c) in
      let all : item_count (finmap.insert m c (with_end t (items_of m c))) ≡ item_count m + 0 = item_count-more m c 0 (with_end t (items_of m c)) (omega arith) in
      ap item_count changed ∙ omega arith

  pub used_put : (t : ℕ) (item : Item) → new ≡ finmap.insert m c (with_put t item (items_of m c)) → item_count new ≡ item_count m + 1
  used_put t item changed =
      let same : length (with_end t (items_of m c)) ≡ length (items_of m c) = length-with_end t (items_of m c) in
      let more : length (with_put t item (items_of m c)) ≡ length (with_end t (items_of m c)) + 1 = length-append (with_end t (items_of m c)) (begun t item ∷ []) in
      ap item_count changed ∙ item_count-more m c 1 (with_put t item (items_of m c)) (omega arith)

-- to open chains changes nothing
pub used_open : {old new : Chains Version} {k : Kept} → Opens old new k → item_count new ≡ item_count old
used_open {old} {new} {k} p =
    ap item_count p.two.opened
    ∙ item_count-open (finmap.insert (finmap.insert old k.data.chain []) k.attributes.chain []) k.acl.chain p.two.second_fresh
    ∙ item_count-open (finmap.insert old k.data.chain []) k.attributes.chain p.two.first_fresh
    ∙ item_count-open old k.data.chain p.fresh
