use Rattle.std.proofs.Common.{ltb, arith, rules, ◌∙◌, ap, get_or}
use Rattle.std.proofs.lemmas.Bool.{ltb-false, ltb-true}
use Rattle.std.proofs.lemmas.Option.{get_or_from_slice_get, slice_get-get_or, slice_get_within}
use Rattle.std.proofs.lemmas.List.Sorted.{IsPartitionPoint-from_clause, IsPartitionedBy-ltb}
use Rattle.dv_share.specs.declared.tables.Member.{Member}
use Rattle.dv_share.proofs.Order.{never_falls, nowhere}
use Rattle.dv_share.proofs.tables.searched_index.Goals.{else-index-members-via-then-index-members+else-members-index}
use Rattle.dv_share.proofs.tables.searched_index.Goals.{else-index-members-via-else-index-members}
use Rattle.dv_share.proofs.tables.searched_index.Goals as goal

pub returns-else-index-members : goal.returns-else-index-members
returns-else-index-members c =
    let v = c.args.number in
    let xs = c.args.members.now in
    let parted = IsPartitionedBy-ltb (λ (m : Member). m.number) xs v (never_falls (λ (m : Member). m.number) xs c.requires) in
    let point = IsPartitionPoint-from_clause (λ (m : Member). ltb m.number v) _ _ c.partition_point-index.ensures.partitioned parted
    (λ a r q k. search rules) in
    λ p m at e.
    nowhere (λ (m : Member). m.number) v c.partition_point-index.result xs c.requires
    (λ k d lt within. ltb-true _ _ (point.0 k d (omega arith) lt))
    (λ k d le lt. ltb-false _ _ (point.1 k d le lt))
    (λ d lt e. elim c.else-index-members.branch [
      | else-index-members-via-then-index-members+else-members-index w ↦
          absurd
          (w.if-members-index.false
          (ap (λ (x : Member). x.number) (get_or_from_slice_get xs c.partition_point-index.result
          (get_or xs c.partition_point-index.result d) w.index-members-index.result
          (slice_get-get_or xs c.partition_point-index.result d lt)) ∙ e))
      | else-index-members-via-else-index-members w ↦ absurd (omega (arith, lt, w.if-index-members.false))
    ])
    p m (slice_get_within xs p m at) (ap (λ (m : Member). m.number) (get_or_from_slice_get xs p m m at) ∙ e)
