use Rattle.std.proofs.Common.{List, ap, ◌∙◌}
use Rattle.dv_bag.specs.Inputs.{time_at}
use Rattle.dv_bag.specs.declared.inputs.Input.{Input}
use Rattle.dv_bag.proofs.InputWalks.{next_at_index}
use Rattle.dv_bag.proofs.inputs.Inputs.next_time.Goals as goal

pub returns-clause-next : goal.returns-clause-next
returns-clause-next c limit t at =
    c.time_at.ensures
    ∙ ap (λ (inputs : List Input). time_at inputs c.args.index) (c.as_slice.ensures.value ∙ c.self.view_is)
    ∙ ap (time_at c.args.self.now) at
    ∙ next_at_index limit t c.args.self.now
