use Rattle.std.proofs.Common.{◌∙◌, ap, unwrap_or}
use Rattle.std.proofs.lemmas.Option.{unwrap_or-slice_get}
use Rattle.dv_eval.specs.Scope.{Scope, phase_name}
use Rattle.dv_plain.proofs.atom.Atom.phase_name.Goals as goal

pub returns : goal.returns
returns c =
    c.unwrap_or.ensures ∙ ap (λ o. unwrap_or o 0) c.phase_name.ensures
    ∙ unwrap_or-slice_get c.args.self.now.scope.now.phases c.args.state.now.phase 0
    ∙ ap (λ (s : Scope). phase_name s c.args.state.now.phase) c.args.self.now.of_model
