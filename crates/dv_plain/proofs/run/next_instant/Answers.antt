use Rattle.std.proofs.Common.{◌≡◌, Some, ap, sym, subst, ◌∙◌}
use Rattle.dv_time.specs.Time.{IsOfRun, earlier, next_rank, rank}
use Rattle.dv_bag.specs.Inputs.{time_at}
use Rattle.dv_devs.specs.NextTimes.{least_next}
use Rattle.dv_plain.specs.InputTimes.{rank_if}
use Rattle.dv_react.specs.Components.{IsNextOfRun, components_of}
use Rattle.dv_plain.proofs.Least.{earlier-none}
use Rattle.dv_plain.proofs.run.next_instant.Goals as goal

pub returns-in-At-clause-least : goal.returns-in-At-clause-least
returns-in-At-clause-least c = λ limit waits coming.
    let run : IsOfRun limit c.in-At.time = subst (IsNextOfRun limit) c.in-At.is (c.next_input.ensures.of_run limit coming) in
    let comes : Some (rank limit c.in-At.time) ≡ rank_if limit (time_at c.args.inputs.now c.args.index) =
    sym (ap (next_rank limit) c.in-At.is) ∙ c.next_input.ensures.rank limit in
    c.earlier.ensures.least limit (c.next_time-next.ensures.of_run limit waits) run
    ∙ ap (λ n. earlier n (Some (rank limit c.in-At.time))) (c.next_time-next.ensures.least limit waits)
    ∙ ap (earlier (least_next (components_of limit c.args.components.now))) comes

pub returns-in-At-clause-of_run : goal.returns-in-At-clause-of_run
returns-in-At-clause-of_run c = λ limit waits coming.
    c.earlier.ensures.of_run limit (c.next_time-next.ensures.of_run limit waits)
    (subst (IsNextOfRun limit) c.in-At.is (c.next_input.ensures.of_run limit coming))

pub returns-in-Never-clause-least : goal.returns-in-Never-clause-least
returns-in-Never-clause-least c = λ limit waits coming.
    let none = sym (ap (next_rank limit) c.in-Never.is) ∙ c.next_input.ensures.rank limit in
    c.next_time-next.ensures.least limit waits
    ∙ sym (earlier-none (least_next (components_of limit c.args.components.now)))
    ∙ ap (earlier (least_next (components_of limit c.args.components.now))) none
