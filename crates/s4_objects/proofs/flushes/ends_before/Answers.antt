use Rattle.std.proofs.Common.{rules, ◌≡◌, ℕ, true, false, List, get_or}
use Rattle.std.specs.List.Sorted.{IsPartitionPoint}
use Rattle.std.specs.Ordering.{nat_cmp, is_lt}
use Rattle.std.proofs.lemmas.List.Sorted.{IsPartitionPoint-from_clause}
use Rattle.s4_objects.specs.declared.ends.Ended.{Ended}
use Rattle.s4_objects.proofs.Spanning.{parted_lt, lt_before, lt_from}
use Rattle.s4_objects.proofs.flushes.ends_before.Goals as goal

pub returns : goal.returns
returns c =
    let es : List Ended = c.args.ends.now.items in
    let m : ℕ = c.args.moment in
    let point : IsPartitionPoint (λ e. is_lt (nat_cmp e.end m) ≡ true) (λ e. is_lt (nat_cmp e.end m) ≡ false) es c.partition_point.result =
    IsPartitionPoint-from_clause (λ e. is_lt (nat_cmp e.end m)) _ _ c.partition_point.ensures.partitioned (parted_lt es m c.requires) (λ a r q k. search rules) in
    (λ k d low high. lt_before (get_or es k d).end m (point.0 k d low high), λ k d low high. lt_from (get_or es k d).end m (point.1 k d low high))
