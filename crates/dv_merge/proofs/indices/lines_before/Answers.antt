use Rattle.std.proofs.Common.{◌≡◌, true, false, rules}
use Rattle.std.specs.List.Sorted.{IsPartitionPoint}
use Rattle.std.proofs.lemmas.List.Sorted.{IsPartitionPoint-from_clause}
use Rattle.dv_bag.specs.declared.entry.Outer.{Outer}
use Rattle.dv_merge.proofs.Searching.{early, early_first, front_passes, rest_fails}
use Rattle.dv_merge.proofs.indices.lines_before.Goals as goal

-- what is before the time is in front of the point
point : (c : goal.After-partition_point) → let test = early (λ (o : Outer). o.time) c.args.time in
    IsPartitionPoint (λ o. test o ≡ true) (λ o. test o ≡ false) c.args.lines.now c.partition_point.result
point c =
    IsPartitionPoint-from_clause (early (λ (o : Outer). o.time) c.args.time) c.args.lines.now c.partition_point.result
    c.partition_point.ensures.partitioned (early_first (λ (o : Outer). o.time) c.args.time c.args.lines.now c.requires)
    (λ a r f' k. search rules)

pub returns : goal.returns
returns c =
    let test = early (λ (o : Outer). o.time) c.args.time in
    let lines = c.args.lines.now in
    let count = c.partition_point.result in
    let bound = c.partition_point.ensures.bound in
    record {
      count_within = bound;
      front = front_passes test lines count bound (point c);
      rest = rest_fails test lines count bound (point c);
    }
