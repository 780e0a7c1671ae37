use Rattle.dv_conservative.specs.Links.{Link as Meant, is_between}
use Rattle.dv_plan.specs.Cuts.{owned_by}
use Rattle.dv_plan.proofs.Rising.{kept_by_port, kept_by_source}
use Rattle.dv_plan.proofs.laws.cuts_rise.Goals as goal

pub returns-clause-between : goal.returns-clause-between
returns-clause-between c = λ cut p q rise.
    kept_by_source (is_between (owned_by cut.grouping p) (owned_by cut.grouping q)) cut.direct rise

pub returns-clause-entrances : goal.returns-clause-entrances
returns-clause-entrances c = λ cut p rise.
    kept_by_port (λ (l : Meant). owned_by cut.grouping p l.to) cut.entrances rise

pub returns-clause-exits : goal.returns-clause-exits
returns-clause-exits c = λ cut p rise.
    kept_by_source (λ (l : Meant). owned_by cut.grouping p l.from) cut.exits rise
