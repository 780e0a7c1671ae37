use Rattle.std.proofs.Common.{◌≡◌, ℕ, IsPermutation, List, [], length, replicate, drop, map, ap, refl, sym, subst, take_while, ◌∙◌}
use Rattle.std.proofs.lemmas.Bool.{eqb-true}
use Rattle.std.proofs.lemmas.List.{nil_from_length, take_rest}
use Rattle.std.proofs.lemmas.Result.{IfOk-weaker}
use Rattle.std.proofs.lemmas.Simd.{map-map}
use Rattle.dv_time.specs.Time.{IsOfRun, rank}
use Rattle.dv_time.proofs.Ranks.{time_of-rank}
use Rattle.dv_bag.specs.Inputs.{IsByTime, bags_at, inputs_at, is_at}
use Rattle.dv_bag.specs.declared.inputs.Input.{Input}
use Rattle.dv_bag.proofs.InputLists.{arriving}
use Rattle.dv_conservative.specs.Links.{Delivery as Meant, inbox}
use Rattle.dv_share.specs.Links.{deliveries_of, delivery_of}
use Rattle.dv_share.proofs.Inboxes.{inbox_nothing, inbox_same}
use Rattle.dv_share.proofs.Sums.{moved_delivers}
use Rattle.dv_local.specs.Arrivals.{entered_by}
use Rattle.dv_local.specs.Shares.{AreOfRun}
use Rattle.dv_local.proofs.Entering.{all_entered, entered, entered_bags}
use Rattle.dv_local.proofs.waiting.outside_at.Goals as goal

pub returns-then-is_empty : goal.returns-then-is_empty
returns-then-is_empty c =
    let now = c.args.now in
    let ports = c.args.ports in
    let all = c.as_slice-inputs.result.now in
    let inputs = c.args.inputs.now in
    let none : inputs ≡ [] =
    sym c.as_slice-inputs.ensures.inputs ∙ nil_from_length all (eqb-true (length all) 0 (sym c.is_empty.ensures ∙ c.if-is_empty.true)) in
    let bags : replicate ports [] ≡ bags_at ports inputs now =
    sym (inbox_nothing 0 0 ports) ∙ entered_bags now 0 ports [] ∙ ap (λ (xs : List Input). bags_at ports xs now) (sym none) in
    λ limit run. c.empty.ensures ∙ bags ∙ ap (bags_at ports inputs) (sym (time_of-rank limit now run))

pub returns : goal.returns
returns c =
    let now = c.args.now in
    let ports = c.args.ports in
    let inputs = c.args.inputs.now in
    let all = c.as_slice-inputs.result.now in
    let index = c.inputs_before-index.result in
    let limit = c.requires.0 in
    let entering = c.in_ok-entering.entering.items in
    let sorted = c.deref.result.now in
    let of_run = subst (AreOfRun limit) (sym c.as_slice-inputs.ensures.inputs) c.requires.2 in
    let by_time = subst IsByTime (sym c.as_slice-inputs.ensures.inputs) c.as_slice-inputs.ensures.by_time in
    let front = arriving limit now index all all all (take_while (is_at now) (drop index all)) by_time refl refl
    c.requires.1 (c.inputs_before-index.ensures.index limit of_run) refl in
    let found : deliveries_of entering ≡ all_entered now all =
    ap deliveries_of c.in_ok-entering.ensures
    ∙ ap (λ (xs : List Input). deliveries_of (map entered_by (take_while (is_at now) xs))) (take_rest all index)
    ∙ map-map delivery_of entered_by (take_while (is_at now) (drop index all)) ∙ ap (map entered) front in
    let moved = subst (IsPermutation entering) (sym c.deref.ensures.value) c.sort_unstable.ensures.permutation in
    let bags : inbox 0 (deliveries_of sorted) 0 ports ≡ bags_at ports inputs now =
    inbox_same 0 (deliveries_of sorted) (deliveries_of entering) 0 ports (moved_delivers sorted entering moved 0)
    ∙ ap (λ (ds : List Meant). inbox 0 ds 0 ports) found
    ∙ entered_bags now 0 ports all
    ∙ ap (λ (xs : List Input). bags_at ports xs now) c.as_slice-inputs.ensures.inputs in
    IfOk-weaker c.bags_of.result
    (λ r. r ≡ inbox 0 (deliveries_of sorted) 0 ports)
    (λ r. (limit : ℕ) → IsOfRun limit now → r ≡ inputs_at limit ports inputs (rank limit now))
    (λ r is limit run. is ∙ bags ∙ ap (bags_at ports inputs) (sym (time_of-rank limit now run)))
    c.bags_of.ensures
