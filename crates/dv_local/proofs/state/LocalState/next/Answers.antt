use Rattle.std.proofs.Common.{List, Option, sym, ap, subst, ◌∙◌}
use Rattle.dv_time.specs.declared.time.Time.{Time}
use Rattle.dv_agenda.specs.Waits.{first_of}
use Rattle.dv_proc.specs.Foreseeing.{IsOfRunIf, rank_if}
use Rattle.dv_local.proofs.Waits.{first_is_least, first_of_run}
use Rattle.dv_local.proofs.state.LocalState.next.Goals as goal

pub returns-clause-least : goal.returns-clause-least
returns-clause-least g c =
    let limit = c.args.self.now.share.tables.limit in
    ap (λ (o : Option Time). rank_if limit o) (c.first.ensures ∙ ap (λ (ws : List (Option Time)). first_of ws) c.requires.agenda)
    ∙ first_is_least limit c.args.self.now.components.running c.requires.components.waits

pub returns-clause-of_run : goal.returns-clause-of_run
returns-clause-of_run g c =
    let limit = c.args.self.now.share.tables.limit in
    subst (λ (o : Option Time). IsOfRunIf limit o) (sym (c.first.ensures ∙ ap (λ (ws : List (Option Time)). first_of ws) c.requires.agenda))
    (first_of_run limit c.args.self.now.components.running c.requires.components.waits)
