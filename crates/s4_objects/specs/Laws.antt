-- What a change of other chains leaves of what is kept.
use Rattle.std.proofs.Common.{◌≡◌, Option, Some, None, refl, sym, ◌∙◌, ap, subst}
use Rattle.std.specs.Prelude.{◌||◌}
use Rattle.std.specs.List.{list_all}
use Rattle.std.specs.List.Sorted.{IsNonDecreasingBy}
use Rattle.s4_store.specs.Chains.{Chains, items_of, IsOpen}
use Rattle.s4_types.specs.declared.object.ObjectId.{ObjectId}
use Rattle.s4_types.specs.declared.version.Version.{Version}
use Rattle.s4_objects.specs.declared.kept.Which.{Which}
use Rattle.s4_objects.specs.declared.kept.Which.TheVariants as which
use Rattle.s4_objects.specs.declared.kept.Kept.{Kept}
use Rattle.s4_objects.specs.declared.objects.Objects.{Objects}
use Rattle.s4_objects.specs.Chains.{chain_of, held}
use Rattle.s4_objects.specs.Ends.{ends_of, HasEnds, is_any, is_timely}
use Rattle.s4_objects.specs.Table.{found_in, held_in, Holds}

-- the chains of the objects' tracks are open, and hold what they held
pub record KeepsObjects (old new : Chains Version) (objects : Objects) : Type 0 where
  pub opened : (o : ObjectId) (k : Kept) (w : Which) → found_in objects o ≡ Some k → IsOpen new (chain_of w k)
  pub items : (o : ObjectId) (k : Kept) (w : Which) → found_in objects o ≡ Some k
      → items_of new (chain_of w k) ≡ items_of old (chain_of w k)

module _ {old new : Chains Version} {objects : Objects} (k : KeepsObjects old new objects) where
  -- each track has the values that it had
  pub held_still : (o : ObjectId) (w : Which) → held_in new objects o w ≡ held_in old objects o w
  held_still o w = of (found_in objects o) refl
    where
      of : (f : Option Kept) → found_in objects o ≡ f → held new f w ≡ held old f w
      of None got = refl
      of (Some l) got = k.items o l w got

  -- what is kept stands
  pub holds_still : Holds old objects → Holds new objects
  holds_still h = record {
    chained = record { opened = k.opened; apart = h.chained.apart };
    queued = λ o w. subst (HasEnds (ends_of o w objects.ends.items)) (sym (held_still o w)) (h.queued o w);
    rising = h.rising;
    begun = λ o w. subst (IsNonDecreasingBy (λ (v : Version). v.begin)) (sym (held_still o w)) (h.begun o w);
    living = λ o l got.
        ap (λ vs. is_any vs || is_any (items_of new l.attributes.chain) || is_any (items_of new l.acl.chain)) (k.items o l which.Data got)
        ∙ ap (λ vs. is_any (items_of old l.data.chain) || is_any vs || is_any (items_of new l.acl.chain)) (k.items o l which.Attributes got)
        ∙ ap (λ vs. is_any (items_of old l.data.chain) || is_any (items_of old l.attributes.chain) || is_any vs) (k.items o l which.Acl got)
        ∙ h.living o l got;
    timely = λ never o w. ap (list_all is_timely) (held_still o w) ∙ h.timely never o w;
  }
