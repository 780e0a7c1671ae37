use Rattle.std.proofs.Common.{leb, ltb, inl, inr, arith, rules}
use Rattle.std.proofs.lemmas.Bool.{cases_lt, leb-false, leb-true, ltb-false, ltb-true}
use Rattle.std.proofs.lemmas.List.Sorted.{IsPartitionPoint-from_clause, IsPartitionedBy-leb, IsPartitionedBy-ltb}
use Rattle.dv_bag.proofs.SendingOrder.{rise_by_port}
use Rattle.dv_bag.proofs.Sendings.{no_sending}
use Rattle.dv_bag.proofs.sent.indices_of.Goals as goal

pub returns-clause-before : goal.returns-clause-before
returns-clause-before c =
    let parted = IsPartitionedBy-ltb (λ s. s.port) _ c.args.port (rise_by_port _ c.requires) in
    let point = IsPartitionPoint-from_clause (λ s. ltb s.port c.args.port) _ _ c.partition_point-first.ensures.partitioned
    parted (λ a r q k. search rules) in
    λ k d le lt. ltb-true _ _ (point.0 k d le lt)

pub returns-clause-there : goal.returns-clause-there
returns-clause-there c =
    let rise = rise_by_port _ c.requires in
    let first = IsPartitionPoint-from_clause (λ s. ltb s.port c.args.port) _ _ c.partition_point-first.ensures.partitioned
    (IsPartitionedBy-ltb (λ s. s.port) _ c.args.port rise) (λ a r q k. search rules) in
    let end = IsPartitionPoint-from_clause (λ s. leb s.port c.args.port) _ _ c.partition_point-end.ensures.partitioned
    (IsPartitionedBy-leb (λ s. s.port) _ c.args.port rise) (λ a r q k. search rules) in
    λ k d le lt. omega (
      arith,
      ltb-false _ _ (first.1 k d le (omega (arith, lt, c.partition_point-end.ensures.bound))),
      leb-true
          _ _ (end.0 k d (omega arith) lt),
    )

pub returns-clause-behind : goal.returns-clause-behind
returns-clause-behind c =
    let parted = IsPartitionedBy-leb (λ s. s.port) _ c.args.port (rise_by_port _ c.requires) in
    let point = IsPartitionPoint-from_clause (λ s. leb s.port c.args.port) _ _ c.partition_point-end.ensures.partitioned parted
    (λ a r q k. search rules) in
    λ k d le lt. leb-false _ _ (point.1 k d le lt)

-- what stands behind the end would stand before the first
pub returns-clause-order : goal.returns-clause-order
returns-clause-order c = elim (cases_lt c.partition_point-end.result c.partition_point-first.result) [
  | inr ge ↦ ge
  | inl lt ↦
      let end = c.partition_point-end.result in
      let before = returns-clause-before c end no_sending (omega arith) lt in
      let behind = returns-clause-behind c end no_sending (omega arith)
      (omega (arith, lt, c.partition_point-first.ensures.bound)) in
      absurd (omega (arith, before, behind))
]
