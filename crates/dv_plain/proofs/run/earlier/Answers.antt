use Rattle.std.proofs.Common.{Some, ◌∙◌, ap, sym, subst}
use Rattle.std.proofs.lemmas.Bool.{ltb-true, ltb-false}
use Rattle.dv_time.specs.Time.{IsOfRun, earlier, next_rank, rank}
use Rattle.dv_react.specs.Components.{IsNextOfRun}
use Rattle.dv_plain.proofs.Least.{earlier-first, earlier-second}
use Rattle.dv_plain.proofs.run.earlier.Goals as goal

pub returns-then-is_before-clause-least : goal.returns-then-is_before-clause-least
returns-then-is_before-clause-least c = λ limit next time.
    let other : IsOfRun limit c.in-At.other = subst (IsNextOfRun limit) c.in-At.is next in
    let before =
    ltb-true (rank limit c.in-At.other) (rank limit c.args.time)
    (sym (c.is_before.ensures.rank limit other time) ∙ c.if-is_before.true) in
    earlier-first (rank limit c.in-At.other) (rank limit c.args.time) before
    ∙ ap (λ n. earlier (next_rank limit n) (Some (rank limit c.args.time))) (sym c.in-At.is)

pub returns-else-is_before-clause-least : goal.returns-else-is_before-clause-least
returns-else-is_before-clause-least c = λ limit next time.
    let other : IsOfRun limit c.in-At.other = subst (IsNextOfRun limit) c.in-At.is next in
    let after =
    ltb-false (rank limit c.in-At.other) (rank limit c.args.time)
    (sym (c.is_before.ensures.rank limit other time) ∙ c.if-is_before.false) in
    earlier-second (rank limit c.in-At.other) (rank limit c.args.time) after
    ∙ ap (λ n. earlier (next_rank limit n) (Some (rank limit c.args.time))) (sym c.in-At.is)
