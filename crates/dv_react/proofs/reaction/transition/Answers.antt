use Rattle.std.proofs.Common.{ap, sym, ◌∙◌, subst}
use Rattle.dv_devs.specs.Behaviour.{Continues, external_of}
use Rattle.dv_bag.specs.Arrivals.{Arrivals}
use Rattle.dv_react.specs.Components.{component_of}
use Rattle.dv_react.specs.Given.{GivesAs, held_to}
use Rattle.dv_react.proofs.Reactions.{external-given}
use Rattle.dv_react.proofs.reaction.transition.Goals as goal

pub returns-in-External-clause-given : goal.returns-in-External-clause-given
returns-in-External-clause-given g c =
    let limit = c.args.instant.now.limit in
    let time = c.args.instant.now.time in
    let b = g.A.Atomic.behaviour c.args.atomic.now in
    let before = component_of limit c.args.component.now in
    let received = c.args.received.now in
    let meant =
    external-given limit b time before received c.args.instant.now.of_run (sym c.requires.kind ∙ c.in-External.is)
    ∙ ap (λ elapsed. external_of b elapsed received (before.state, Continues)) (sym c.saturating_sub-elapsed.ensures)
    ∙ ap (λ (a : Arrivals). external_of b a.elapsed a.received (before.state, Continues)) (sym c.new-arrivals.ensures) in
    subst (GivesAs (held_to _) c.external_transition.result) (sym meant) c.external_transition.ensures.given
