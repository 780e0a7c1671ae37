use Rattle.std.proofs.Common.{◌∙◌, ap, map, arith}
use Rattle.std.proofs.lemmas.List.{take_all}
use Rattle.std.proofs.lemmas.Simd.{map-map}
use Rattle.dv_eval.specs.Scope.{start_datum}
use Rattle.dv_eval.proofs.model.start_data.Goals as goal

pub returns : goal.returns
returns c =
    c.loop-domain.invariant
    ∙ ap (map start_datum)
    (take_all c.loop-domain.domain-index c.domains-domain-items.result.now (omega arith) ∙ c.domains-domain-items.ensures)
    ∙ map-map start_datum (λ v. v.1) c.args.scope.now.variables
