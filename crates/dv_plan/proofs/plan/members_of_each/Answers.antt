use Rattle.std.proofs.Common.{ℕ, List, length, ap, map, sym, ◌∙◌, arith}
use Rattle.std.specs.List.{range_with_len}
use Rattle.std.proofs.lemmas.List.{length-map}
use Rattle.std.proofs.lemmas.List.FromFn.{length-map-range_with_len}
use Rattle.dv_share.specs.declared.tables.Member.{Member}
use Rattle.dv_partition.specs.Groups.{owner_of}
use Rattle.dv_partition.specs.Steps.{with_key}
use Rattle.dv_partition.proofs.Numbers.{same_map}
use Rattle.dv_plan.specs.Steps.{members_of}
use Rattle.dv_plan.proofs.Lists.{with_key_kept}
use Rattle.dv_plan.proofs.plan.members_of_each.Goals as goal

pub returns-clause-each : goal.returns-clause-each
returns-clause-each c =
    let g = c.args.groups.now in
    let ms = c.args.members.items in
    let key : Member → ℕ = λ (m : Member). owner_of g m.number in
    c.in_ok-lists.ensures
    ∙ ap (λ (ks : List ℕ). map (λ k. with_key k ks ms) (range_with_len 0 c.processes.result))
    (c.deref-2.ensures.value ∙ c.in_ok-owners.ensures ∙ ap (map key) c.deref.ensures.value)
    ∙ same_map (λ k. with_key k (map key ms) ms) (λ p. members_of g p ms) (range_with_len 0 c.processes.result)
    (λ p. with_key_kept key p ms)
    ∙ ap (λ (n : ℕ). map (λ p. members_of g p ms) (range_with_len 0 n)) c.processes.ensures.exact

pub returns-clause-few : goal.returns-clause-few
returns-clause-few c =
    let lists = c.in_ok-lists.lists.items in
    let count = sym (length-map lists (λ list. list.items)) ∙ ap length c.in_ok-lists.ensures
    ∙ length-map-range_with_len (λ k. with_key k c.deref-2.result.now c.args.members.items) 0 c.processes.result in
    omega (arith, count, c.processes.ensures.few)
