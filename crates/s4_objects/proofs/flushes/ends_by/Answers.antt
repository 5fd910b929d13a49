use Rattle.std.proofs.Common.{rules, ◌≡◌, ℕ, true, false, List, get_or}
use Rattle.std.specs.List.Sorted.{IsPartitionPoint}
use Rattle.std.specs.Ordering.{nat_cmp, is_le}
use Rattle.std.proofs.lemmas.List.Sorted.{IsPartitionPoint-from_clause}
use Rattle.s4_objects.specs.declared.ends.Ended.{Ended}
use Rattle.s4_objects.proofs.Spanning.{parted_le, le_by, le_above}
use Rattle.s4_objects.proofs.flushes.ends_by.Goals as goal

pub returns-clause-point : goal.returns-clause-point
returns-clause-point c =
    let es : List Ended = c.args.ends.now.items in
    let m : ℕ = c.args.moment in
    let point : IsPartitionPoint (λ e. is_le (nat_cmp e.end m) ≡ true) (λ e. is_le (nat_cmp e.end m) ≡ false) es c.partition_point.result =
    IsPartitionPoint-from_clause (λ e. is_le (nat_cmp e.end m)) _ _ c.partition_point.ensures.partitioned (parted_le es m c.requires) (λ a r q k. search rules) in
    (λ k d low high. le_by (get_or es k d).end m (point.0 k d low high), λ k d low high. le_above (get_or es k d).end m (point.1 k d low high))
