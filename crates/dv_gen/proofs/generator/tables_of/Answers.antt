use Rattle.std.proofs.Common.{◌∙◌, ap, map, sym, subst}
use Rattle.std.proofs.lemmas.Simd.{map-map}
use Rattle.dv_code.specs.Shape.{AreSmall}
use Rattle.dv_gen.specs.Resolution.{slot_of}
use Rattle.dv_gen.proofs.Generators.{tables_made}
use Rattle.dv_gen.proofs.generator.tables_of.Goals as goal

pub new-requires : goal.new-requires
new-requires c =
    let slots = c.in_ok-slots.ensures ∙ ap (map slot_of) c.domains.ensures ∙ map-map slot_of (λ v. v.1) c.args.scope.now.variables in
    subst AreSmall (sym slots) c.requires.small

pub returns : goal.returns
returns c =
    let slots = c.in_ok-slots.ensures ∙ ap (map slot_of) c.domains.ensures ∙ map-map slot_of (λ v. v.1) c.args.scope.now.variables in
    c.new.ensures
    ∙ tables_made c.args.scope.now c.in_ok-slots.slots.items c.inputs.result.now c.outputs.result.now c.phases.result.now
    slots c.inputs.ensures c.outputs.ensures c.phases.ensures
