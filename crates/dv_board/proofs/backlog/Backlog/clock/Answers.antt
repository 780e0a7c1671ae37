use Rattle.std.proofs.Common.{◌≡◌, ◌<◌, length, Some, sym, ap, subst, ◌∙◌, arith}
use Rattle.std.proofs.lemmas.Option.{slice_get-get_or}
use Rattle.dv_time.specs.Time.{IsOfRun}
use Rattle.dv_board.specs.Backlogs.{BacklogOf, clock_of}
use Rattle.dv_board.proofs.Indices.{clock_read}
use Rattle.dv_board.proofs.backlog.Backlog.clock.Goals as goal

pub returns-clause-kept : goal.returns-clause-kept
returns-clause-kept g c =
    let held = c.self.inside.held.items in
    let p = c.args.process in
    let h = c.index.result.now in
    let many = c.self.invariant.many in
    let within : p < length held = omega (arith, many, c.requires) in
    c.clock.ensures ∙ sym (subst (λ (b : BacklogOf). clock_of b p ≡ h.clock) c.self.view_is
    (clock_read held p h within c.index.ensures))

pub returns-clause-of_run : goal.returns-clause-of_run
returns-clause-of_run g c =
    let held = c.self.inside.held.items in
    let p = c.args.process in
    let h = c.index.result.now in
    let many = c.self.invariant.many in
    let within : p < length held = omega (arith, many, c.requires) in
    subst (IsOfRun g.N.OfJob.job.limit) (sym c.clock.ensures)
    (c.self.invariant.each p h (slice_get-get_or held p h within ∙ ap Some (sym c.index.ensures))).of_run
