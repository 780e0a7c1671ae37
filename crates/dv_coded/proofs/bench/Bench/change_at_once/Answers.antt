use Rattle.std.proofs.Common.{ℕ, subst}
use Rattle.dv_code.specs.Outcomes.{effect_by}
use Rattle.law_compiled.specs.Behaviours.{arriving, change_of as change_of_effect}
use Rattle.dv_react.specs.Given.{GivesAs, change_to}
use Rattle.dv_coded.proofs.bench.Bench.change_at_once.Goals as goal

pub returns-clause-given : goal.returns-clause-given
returns-clause-given c =
    let p = c.args.program.now in
    let received = c.args.arrivals.now.received in
    subst (λ (n : ℕ). GivesAs (change_to c.change.new.state) c.change.result (change_of_effect
    (effect_by p (arriving received n) c.args.state.now)))
    c.requires.at_once c.change.ensures.given
