use Rattle.std.proofs.Common.{ℕ, ◌<◌, ◌≤◌, ap, subst, sym, ◌∙◌}
use Rattle.dv_partition.specs.Groups.{Grouping, owner_of}
use Rattle.dv_plan.proofs.Between.{nothing_beyond}
use Rattle.dv_plan.proofs.share.links_to.Goals as goal

pub returns-else-index-processes : goal.returns-else-index-processes
returns-else-index-processes c =
    let cut = c.args.cut.now in
    sym (nothing_beyond cut c.args.source c.args.target
    (subst (λ (n : ℕ). n ≤ c.args.target) (c.processes.ensures.exact ∙ ap (λ (v : Grouping). v.processes) c.groups.ensures)
    c.if-index-processes.false)
    (λ k.
    subst (λ (v : Grouping). owner_of v k < v.processes) c.groups.ensures
    (subst (λ (n : ℕ). owner_of c.groups.result.now k < n) c.processes.ensures.exact (c.processes.ensures.owned k))))
