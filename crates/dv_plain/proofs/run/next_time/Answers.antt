use Rattle.std.proofs.Common.{map}
use Rattle.dv_time.specs.Time.{next_rank}
use Rattle.dv_devs.specs.NextTimes.{least_next}
use Rattle.dv_react.specs.Components.{component_of}
use Rattle.dv_plain.proofs.Least.{least-all, least-step}
use Rattle.dv_plain.proofs.Steps.{wait-at}
use Rattle.dv_plain.proofs.run.next_time.Goals as goal

pub loop-component-preserved : goal.loop-component-preserved
loop-component-preserved c =
    let rs = c.args.components.now in
    let k = c.loop-component.component-index in
    let r = c.component-item.result in
    record {
      least = λ limit waits.
          least-step limit rs k r (next_rank limit c.loop-component.next) (next_rank limit c.sooner-next.result)
          (least_next (map (component_of limit) rs)) c.loop-component-test.true c.component-item.is
          (c.sooner-next.ensures.least limit (c.loop-component.invariant.of_run limit waits)
          (wait-at limit rs k r c.loop-component-test.true c.component-item.is waits))
          (c.loop-component.invariant.least limit waits);
      of_run =
          λ limit waits. c.sooner-next.ensures.of_run limit (c.loop-component.invariant.of_run limit waits)
          (wait-at limit rs k r c.loop-component-test.true c.component-item.is waits);
    }

pub returns-clause-least : goal.returns-clause-least
returns-clause-least c = λ limit waits.
    least-all limit c.args.components.now c.loop-component.component-index (next_rank limit c.loop-component.next)
    (least_next (map (component_of limit) c.args.components.now)) c.loop-component-test.false
    (c.loop-component.invariant.least limit waits)
