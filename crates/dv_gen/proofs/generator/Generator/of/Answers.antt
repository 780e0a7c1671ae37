use Rattle.std.proofs.Common.{◌∙◌, ap, sym, subst}
use Rattle.dv_syntax.specs.Trees.{atomic_of}
use Rattle.dv_code.specs.Shape.{AreSmall}
use Rattle.dv_gen.specs.Emission.{HasFewNames}
use Rattle.dv_gen.specs.Resolution.{tables_of}
use Rattle.dv_gen.proofs.FewNames.{accepted_names_are_few}
use Rattle.dv_gen.proofs.Found.{found_bodies, found_ticks}
use Rattle.dv_gen.proofs.Generators.{is_ready}
use Rattle.dv_gen.proofs.generator.Generator.of.Goals as goal

pub of-requires : goal.of-requires
of-requires c =
    subst HasFewNames (sym c.requires.scope) (accepted_names_are_few (atomic_of c.args.model.now) c.requires.compilable.accepted)

pub returns-clause-ready : goal.returns-clause-ready
returns-clause-ready c =
    let m = atomic_of c.args.model.now in
    let compilable = c.requires.compilable in
    let laws = c.accepted_rules_are_well_typed.ensures in
    is_ready m _ (record { names = c.of.ensures ∙ c.requires.scope; rules = c.in_ok-of.ensures.rules; holds = c.in_ok-of.ensures.holds })
    (c.requires.tables ∙ ap tables_of (sym c.of.ensures))
    (subst (λ scope. AreSmall (tables_of scope).slots) (sym c.of.ensures) c.requires.small)
    (found_bodies m (laws.rules m compilable.accepted) compilable.shallow)
    (found_ticks m (laws.holds m compilable.accepted))
