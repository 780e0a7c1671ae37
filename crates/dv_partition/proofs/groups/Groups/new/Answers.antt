use Rattle.std.proofs.Common.{◌≡◌, ◌∙◌, ◌<◌, ◌≤◌, ℕ, ap, length, map, subst, sym}
use Rattle.std.specs.List.{AllByRecursion, range_with_len}
use Rattle.std.proofs.lemmas.List.{length-map}
use Rattle.std.proofs.lemmas.List.FromFn.{length-map-range_with_len, length-range_with_len}
use Rattle.dv_partition.specs.Groups.{Grouping, members_in}
use Rattle.dv_partition.specs.Steps.{with_key}
use Rattle.dv_partition.specs.Limits.{greatest_processes}
use Rattle.dv_partition.proofs.Numbers.{members_by_owner, same_map}
use Rattle.dv_partition.proofs.groups.Groups.new.Goals as goal

pub by_key-requires : goal.by_key-requires
by_key-requires c =
    let owners = c.args.owners.items in
    let numbers = c.in_ok-numbers.ensures
    ∙ ap (range_with_len 0) (c.len.ensures ∙ sym c.deref.ensures.len ∙ ap length c.deref.ensures.value) in
    ap length c.deref.ensures.value
    ∙ sym (length-range_with_len 0 (length owners)) ∙ sym (ap length numbers)

pub invariant_of-result : goal.invariant_of-result
invariant_of-result c =
    let owners = c.args.owners.items in
    let n = c.args.processes in
    let numbers = c.in_ok-numbers.ensures
    ∙ ap (range_with_len 0) (c.len.ensures ∙ sym c.deref.ensures.len ∙ ap length c.deref.ensures.value) in
    let long : length c.in_ok-members.members.items ≡ n =
    sym (length-map c.in_ok-members.members.items (λ list. list.items))
    ∙ ap length c.in_ok-members.ensures
    ∙ length-map-range_with_len (λ key. with_key key c.deref.result.now c.in_ok-numbers.numbers.items) 0 n in
    record {
      some = subst (λ k. 0 < k) (sym long) c.requires.some;
      few = subst (λ k. k ≤ greatest_processes) (sym long) c.requires.few;
      owned = subst (λ k. AllByRecursion (λ p. p < k) owners) (sym long) c.requires.owned;
      fit = c.requires.fit;
      lists =
          c.in_ok-members.ensures
          ∙ same_map (λ key. with_key key c.deref.result.now c.in_ok-numbers.numbers.items) (members_in owners) (range_with_len 0 n)
          (λ key.
          ap (λ ks. with_key key ks c.in_ok-numbers.numbers.items) c.deref.ensures.value
          ∙ ap (with_key key owners) numbers ∙ members_by_owner owners key)
          ∙ ap (λ k. map (members_in owners) (range_with_len 0 k)) (sym long);
    }

pub returns : goal.returns
returns c =
    let n = c.args.processes in
    let long : length c.in_ok-members.members.items ≡ n =
    sym (length-map c.in_ok-members.members.items (λ list. list.items))
    ∙ ap length c.in_ok-members.ensures
    ∙ length-map-range_with_len (λ key. with_key key c.deref.result.now c.in_ok-numbers.numbers.items) 0 n in
    let made : ℕ → Grouping = λ k. record { processes = k; owners = c.args.owners.items } in
    ap made long
