use Rattle.std.proofs.Common.{◌≡◌, true, false, rules}
use Rattle.std.specs.List.Sorted.{IsPartitionPoint}
use Rattle.std.proofs.lemmas.List.Sorted.{IsPartitionPoint-from_clause}
use Rattle.dv_bag.specs.declared.entry.Entry.{Entry}
use Rattle.dv_merge.proofs.Searching.{early, early_first, front_passes, rest_fails}
use Rattle.dv_merge.proofs.indices.entries_before.Given.{Over}
use Rattle.dv_merge.proofs.indices.entries_before.Goals as goal

-- what is before the time is in front of the point
point : (g : Over) (c : goal.After-partition_point g) → let test = early (λ (e : Entry). e.time) c.args.time in
    IsPartitionPoint (λ e. test e ≡ true) (λ e. test e ≡ false) c.args.entries.now c.partition_point.result
point g c =
    IsPartitionPoint-from_clause (early (λ (e : Entry). e.time) c.args.time) c.args.entries.now c.partition_point.result
    c.partition_point.ensures.partitioned (early_first (λ (e : Entry). e.time) c.args.time c.args.entries.now c.requires)
    (λ a r f' k. search rules)

pub returns : goal.returns
returns g c =
    let test = early (λ (e : Entry). e.time) c.args.time in
    let entries = c.args.entries.now in
    let count = c.partition_point.result in
    let bound = c.partition_point.ensures.bound in
    record {
      count_within = bound;
      front = front_passes test entries count bound (point g c);
      rest = rest_fails test entries count bound (point g c);
    }
