use Rattle.std.proofs.Common.{◌∙◌, sym, arith}
use Rattle.std.proofs.lemmas.Bool.{false≢true}
use Rattle.dv_work.specs.Seats.{HasEvents, IsNull}
use Rattle.dv_work.proofs.Keeping.{kept_at_all, kept_further, rest_further}
use Rattle.dv_work.proofs.worker.put_all.Goals as goal
use Rattle.dv_work.proofs.worker.put_all.Goals.{then-put_next, else-put_next}

pub loop-index-preserved : goal.loop-index-preserved
loop-index-preserved g c =
    let state = g.P.LogicalProcess.state in
    let first = c.args.seat.now in
    let before = c.loop-index.seat in
    let after = c.put_next.new.seat in
    let index = c.loop-index.index in
    let so_far = c.loop-index.invariant in
    let did = c.put_next.ensures in (
      did.sits,
      did.ends ∙ so_far.1,
      λ due still. elim c.if-put_next.branch [
        | then-put_next w ↦ absurd (false≢true (sym still ∙ w.moved-is))
        | else-put_next w ↦ did.told due w.if-put_next.false (so_far.2 due (sym w.moved-is ∙ still))
      ],
      rest_further first before after index so_far.3 did.others,
      λ due. kept_further state IsNull first before after index (so_far.4 due) so_far.3 did.others did.standing (did.nulls due),
      kept_further state HasEvents first before after index so_far.5 so_far.3 did.others did.standing did.events,
    )

pub returns-clause-nulls : goal.returns-clause-nulls
returns-clause-nulls g c = λ due.
    kept_at_all g.P.LogicalProcess.state IsNull c.args.seat.now c.loop-index.seat c.loop-index.index (omega (arith))
    (c.loop-index.invariant.4 due)

pub returns-clause-events : goal.returns-clause-events
returns-clause-events g c =
    kept_at_all g.P.LogicalProcess.state HasEvents c.args.seat.now c.loop-index.seat c.loop-index.index (omega (arith))
    c.loop-index.invariant.5
