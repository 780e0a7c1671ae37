use Rattle.std.proofs.Common.{rules, ap, arith, suc, subst, ◌≡◌, ◌∙◌, true, false, sym, Some, refl}
use Rattle.dv_bag.specs.Responses.{ticks_of}
use Rattle.dv_proc.specs.Foreseeing.{IsOfRunIf, rank_if}
use Rattle.dv_time.specs.Time.{earlier, rank}
use Rattle.dv_devs.specs.Behaviour.{is_at}
use Rattle.dv_conservative.specs.Promise.{reach}
use Rattle.dv_proc.proofs.Earliest.{earliest_of_run, earliest_rank}
use Rattle.dv_proc.proofs.Foreseen.{foreseen_else, foreseen_now}
use Rattle.dv_proc.proofs.promise.foreseen.Goals as goal

pub returns-clause-foreseen : goal.returns-clause-foreseen
returns-clause-foreseen c cs least =
    let later : is_at (rank c.args.limit c.args.now) (rank_if c.args.limit c.args.next) ≡ false = cc in
    let both : rank_if c.args.limit c.earliest.result
    ≡ earlier (rank_if c.args.limit c.args.next) (reach c.args.limit (rank c.args.limit c.args.known) (ticks_of c.args.response))
    = ap (rank_if c.args.limit) c.earliest.ensures
    ∙ earliest_rank c.args.limit c.args.next c.reach.result c.requires.next c.reach.ensures.of_run ∙ ap (earlier (rank_if c.args.limit c.args.next)) c.reach.ensures.reach in
    both ∙ foreseen_else c.args.limit (rank c.args.limit c.args.now) (rank_if c.args.limit c.args.next) cs
    (rank c.args.limit c.args.known) (ticks_of c.args.response) later least

pub returns-clause-of_run : goal.returns-clause-of_run
returns-clause-of_run c =
    subst (IsOfRunIf c.args.limit) (sym c.earliest.ensures)
    (earliest_of_run c.args.limit c.args.next c.reach.result c.requires.next c.reach.ensures.of_run)
