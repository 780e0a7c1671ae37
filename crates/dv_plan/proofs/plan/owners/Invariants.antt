use Rattle.std.proofs.Common.{◌≡◌, ◌++◌, drop, map}
use Rattle.dv_partition.specs.Groups.{owner_of}
use Rattle.dv_share.specs.declared.tables.Member.{Member}
use Rattle.dv_plan.proofs.plan.owners.Given as goal

abbrev pub invariant-loop-member : goal.invariant-loop-member
invariant-loop-member l =
    l.owners.items ++ map (λ (m : Member). owner_of l.groups m.number) (drop l.member-index l.members)
    ≡ map (λ (m : Member). owner_of l.groups m.number) l.members
