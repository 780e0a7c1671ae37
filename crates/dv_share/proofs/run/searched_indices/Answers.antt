use Rattle.std.proofs.Common.{ℕ, ◌<◌, inl, inr, List, [], ◌∷◌, length, leb, ltb, arith, rules}
use Rattle.std.proofs.lemmas.Bool.{cases_lt, leb-false, leb-true, ltb-false, ltb-true}
use Rattle.std.proofs.lemmas.List.Sorted.{IsPartitionPoint-from_clause, IsPartitionedBy-leb, IsPartitionedBy-ltb}
use Rattle.dv_share.proofs.run.searched_indices.Goals as goal

pub returns-clause-before : goal.returns-clause-before
returns-clause-before g c =
    let n = g.T.Numbered.number in
    let parted = IsPartitionedBy-ltb n _ c.args.number c.requires in
    let point = IsPartitionPoint-from_clause (λ s. ltb (n s) c.args.number) _ _ c.partition_point-first.ensures.partitioned
    parted (λ a r q k. search rules) in
    λ k d le lt. ltb-true _ _ (point.0 k d le lt)

pub returns-clause-there : goal.returns-clause-there
returns-clause-there g c =
    let n = g.T.Numbered.number in
    let first = IsPartitionPoint-from_clause (λ s. ltb (n s) c.args.number) _ _ c.partition_point-first.ensures.partitioned
    (IsPartitionedBy-ltb n _ c.args.number c.requires) (λ a r q k. search rules) in
    let end = IsPartitionPoint-from_clause (λ s. leb (n s) c.args.number) _ _ c.partition_point-end.ensures.partitioned
    (IsPartitionedBy-leb n _ c.args.number c.requires) (λ a r q k. search rules) in
    λ k d le lt. omega (
      arith,
      ltb-false _ _ (first.1 k d le (omega (arith, lt, c.partition_point-end.ensures.bound))),
      leb-true _ _ (end.0 k d (omega arith) lt),
    )

pub returns-clause-behind : goal.returns-clause-behind
returns-clause-behind g c =
    let n = g.T.Numbered.number in
    let point = IsPartitionPoint-from_clause (λ s. leb (n s) c.args.number) _ _ c.partition_point-end.ensures.partitioned
    (IsPartitionedBy-leb n _ c.args.number c.requires) (λ a r q k. search rules) in
    λ k d le lt. leb-false _ _ (point.1 k d le lt)

some_item : {X : Type 0} (xs : List X) (i : ℕ) → i < length xs → X
some_item [] i lt = absurd (omega arith)
some_item (x ∷ xs) i lt = x

-- what stands behind the end would stand before the first
pub returns-clause-order : goal.returns-clause-order
returns-clause-order g c = elim (cases_lt c.partition_point-end.result c.partition_point-first.result) [
  | inr ge ↦ ge
  | inl lt ↦
      let end = c.partition_point-end.result in
      let within : end < length c.args.items.now = omega (arith, lt, c.partition_point-first.ensures.bound) in
      let item = some_item c.args.items.now end within in
      let before = returns-clause-before g c end item (omega arith) lt in
      let behind = returns-clause-behind g c end item (omega arith) within in
      absurd (omega (arith, before, behind))
]
