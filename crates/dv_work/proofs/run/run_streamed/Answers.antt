use Rattle.std.proofs.Common.{◌≡◌, ◌↔◌, ℕ, sym, subst}
use Rattle.std.specs.Prelude.{IfOk, Some, is_some, slice_get}
use Rattle.dv_board.specs.declared.posts.Piece.{Piece}
use Rattle.dv_conservative.specs.World.{Job}
use Rattle.dv_core.specs.Worlds.{end_time}
use Rattle.dv_work.specs.Crews.{IsCrewFor}
use Rattle.dv_work.specs.Endings.{EndsFor}
use Rattle.dv_work.specs.declared.report.Ended.TheVariants.{Whole}
use Rattle.dv_work.proofs.Endings.{cancelled_if_ok}
use Rattle.dv_work.proofs.run.run_streamed.Goals as goal

pub run_job-requires-clause-crew : goal.run_job-requires-clause-crew
run_job-requires-clause-crew g c κs _ =
    subst (λ (job : Job). IsCrewFor job g.P.LogicalProcess.state g.P.LogicalProcess.handed g.P.LogicalProcess.valid c.args.crew)
    (sym c.requires.job) c.requires.crew

pub returns-clause-whole : goal.returns-clause-whole
returns-clause-whole g c =
    subst (λ (job : Job). IfOk c.report_of.result (λ r. (r.ended ≡ Whole)
    ↔ ((p : ℕ) (x : Piece g.row.N.Denot) → slice_get r.rest.pieces p ≡ Some x → x.clock ≡ end_time job)))
    c.requires.job c.report_of.ensures.whole

pub returns-clause-cancelled : goal.returns-clause-cancelled
returns-clause-cancelled g c = cancelled_if_ok g.N.OfJob.job c.report_of.result c.report_of.ensures.ended

pub returns-clause-ended : goal.returns-clause-ended
returns-clause-ended g c =
    subst (λ (job : Job). IfOk c.report_of.result (λ r. EndsFor job r.halts.items (is_some r.stopped) r.rest.pieces r.ended))
    c.requires.job c.report_of.ensures.ended
