use Rattle.std.proofs.Common.{sym, subst}
use Rattle.dv_syntax.specs.Trees.{atomic_of}
use Rattle.dv_code.specs.Shape.{AreSmall}
use Rattle.dv_gen.specs.Emission.{HasFewNames}
use Rattle.dv_gen.specs.Resolution.{tables_of}
use Rattle.dv_gen.proofs.FewNames.{accepted_names_are_few}
use Rattle.dv_gen.proofs.generator.generate.Goals as goal

pub tables_of-requires-clause-few : goal.tables_of-requires-clause-few
tables_of-requires-clause-few c =
    subst HasFewNames (sym c.requires.scope) (accepted_names_are_few (atomic_of c.args.model.now) c.requires.compilable.accepted)

pub tables_of-requires-clause-small : goal.tables_of-requires-clause-small
tables_of-requires-clause-small c =
    let small = c.states_fit_the_tables.ensures.small (atomic_of c.args.model.now) c.requires.compilable.accepted in
    subst (λ scope. AreSmall (tables_of scope).slots) (sym c.requires.scope) small
