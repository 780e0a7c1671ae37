use Rattle.std.proofs.Common.{true}
use Rattle.std.proofs.lemmas.List.Elements.{recursion_from_All}
use Rattle.dv_eval.specs.Scope.{scope_of}
use Rattle.dv_bound.specs.Response.{external_gotos}
use Rattle.law_sound.proofs.Gos.{all_respond}
use Rattle.law_sound.proofs.sound.holds_where_programs_go_are_not_below_the_response.Goals as goal

pub returns : goal.returns
returns c m compilable =
    let agrees = c.programs_behave_as_rules.ensures.agrees m (λ bags. true) compilable in
    all_respond m agrees.hold (c.generated_programs_go_where_the_tree_goes.ensures.text m)
    (recursion_from_All _ m.rules (c.accepted_names_are_known.ensures.rules m compilable.accepted))
    (recursion_from_All _ (external_gotos m) (c.holds_of_gotos_are_not_below_the_response.ensures m)) (scope_of m).phases
