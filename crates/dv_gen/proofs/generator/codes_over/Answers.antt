use Rattle.std.proofs.Common.{◌∙◌, ap}
use Rattle.std.proofs.lemmas.Result.{IfOk-weaker}
use Rattle.dv_syntax.specs.Trees.{atomic_of}
use Rattle.dv_gen.proofs.Generators.{codes_are}
use Rattle.dv_gen.proofs.generator.codes_over.Goals as goal

pub returns : goal.returns
returns c =
    let phases = c.phases.ensures ∙ ap (λ s. s.phases) c.requires.scope in
    let same =
    codes_are (atomic_of c.args.model.now) c.in_ok-generator.generator c.in_ok-generator.ensures.model c.phases.result.now phases in
    IfOk-weaker c.phase_codes.result _ _ (λ codes is. is ∙ same) c.phase_codes.ensures
