use Rattle.std.proofs.Common.{◌∙◌}
use Rattle.std.proofs.lemmas.Result.{on_ok_weaker}
use Rattle.dv_syntax.specs.Trees.{atomic_of}
use Rattle.dv_listing.proofs.Models.{model_pushed}
use Rattle.dv_listing.proofs.lines.push_model_in.Goals as goal

pub returns : goal.returns
returns c =
    on_ok_weaker c.push_phases.result
    (λ p. model_pushed c.args.tree.now.names (atomic_of c.args.model.now) c.args.is_first _ _ _ _ _ c.name.result.now
    c.args.scope.now c.phases.result.now c.deref.result.now c.name.ensures c.requires.scope c.phases.ensures
    (c.deref.ensures.value ∙ c.in_ok-code.ensures.phases)
    c.in_ok-push_gap.ensures c.in_ok-writeln.ensures.bytes c.in_ok-push_scope.ensures p) c.push_phases.ensures
