use Rattle.std.proofs.Common.{◌≡◌, map, ap, ◌∙◌, subst}
use Rattle.std.specs.Result.{OnOk}
use Rattle.dv_syntax.specs.Trees.{model_of}
use Rattle.dv_check.specs.Cycles.{cycle_refusals_from, same_number}
use Rattle.dv_check.specs.Findings.{with_refusals}
use Rattle.dv_check.specs.Tables.{value_for}
use Rattle.dv_check.proofs.Containment.{is_graph_made, made_by_numbers}
use Rattle.dv_check.proofs.cycles.check_cycles.Goals as goal

pub strong_components-requires : goal.strong_components-requires
strong_components-requires c =
    let models = map model_of c.args.models.now in
    let positions = value_for c.in_ok-positions.positions in
    record { graph = is_graph_made models positions c.in_ok-positions.ensures c.in_ok-graph.graph c.in_ok-graph.ensures }

pub returns : goal.returns
returns c =
    let models = map model_of c.args.models.now in
    let positions = value_for c.in_ok-positions.positions in
    let numbers = c.in_ok-numbers.numbers.items in
    let together = c.in_ok-numbers.ensures.together in
    let told = made_by_numbers models positions c.in_ok-positions.ensures c.in_ok-graph.graph numbers c.in_ok-graph.ensures together in
    subst (λ rs. OnOk c.find_cycles.result (c.find_cycles.new.found ≡ with_refusals c.args.found.now rs))
    (ap (λ ns. cycle_refusals_from (same_number ns) positions 0 models) c.deref.ensures.value ∙ told) c.find_cycles.ensures
