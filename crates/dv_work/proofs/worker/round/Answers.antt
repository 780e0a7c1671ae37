use Rattle.std.proofs.Common.{◌<◌, length, arith}
use Rattle.std.proofs.lemmas.Option.{slice_get-get_or}
use Rattle.std.proofs.lemmas.List.Elements.{All-set, All-weaker}
use Rattle.dv_work.specs.Seats.{HasEvents, HasToldAll, HoldsNone, IsNull, Reports, Sits}
use Rattle.dv_work.specs.declared.seat.Seat.{Seat}
use Rattle.dv_work.proofs.Keeping.{each_further, each_of_all, items_further}
use Rattle.dv_work.proofs.Lists.{first_more}
use Rattle.dv_work.proofs.Sitting.{reports}
use Rattle.dv_work.proofs.worker.round.Goals as goal

pub returns-in-Err-clause-all : goal.returns-in-Err-clause-all
returns-in-Err-clause-all g c =
    let S : Seat g.row.P.Denot → Type 0
    = λ s. Sits g.N.OfJob.job g.P.LogicalProcess.state g.P.LogicalProcess.handed g.P.LogicalProcess.valid c.args.floor.now.links.now s in
    let R : Seat g.row.P.Denot → Type 0
    = λ s. Reports g.N.OfJob.job g.P.LogicalProcess.state g.P.LogicalProcess.handed g.P.LogicalProcess.valid s in
    All-set R c.loop-i.seats c.loop-i.i c.visit.new.seat c.in-Err.ensures.sits.err
    (All-weaker S R
    (λ s sits. reports g.N.OfJob.job g.P.LogicalProcess.state g.P.LogicalProcess.handed g.P.LogicalProcess.valid c.args.floor.now.links.now
    s sits)
    c.loop-i.seats c.loop-i.invariant.0)

pub loop-i-preserved : goal.loop-i-preserved
loop-i-preserved g c =
    let S : Seat g.row.P.Denot → Type 0
    = λ s. Sits g.N.OfJob.job g.P.LogicalProcess.state g.P.LogicalProcess.handed g.P.LogicalProcess.valid c.args.floor.now.links.now s in
    let T : Seat g.row.P.Denot → Type 0 = λ s. HasToldAll g.P.LogicalProcess.state s in
    let H : Seat g.row.P.Denot → Type 0 = λ s. HoldsNone s in
    let within : c.loop-i.i < length c.loop-i.seats = omega (arith, c.loop-i-test.true, c.loop-i.auto.seats, c.loop-i.auto.i-end) in
    let read = slice_get-get_or c.loop-i.seats c.loop-i.i c.index-seats-i.result within in (
      All-set S c.loop-i.seats c.loop-i.i c.visit.new.seat c.in-Ok.ensures.sits.ok c.loop-i.invariant.0,
      λ still.
          let both = c.of_both-all.ensures.still still in
          first_more T c.loop-i.seats c.loop-i.i c.visit.new.seat within (c.loop-i.invariant.1 both.0) (c.in-Ok.ensures.told both.1),
      λ done.
          let both = c.of_both-all.ensures.done.0 done in
          first_more H c.loop-i.seats c.loop-i.i c.visit.new.seat within (c.loop-i.invariant.2 both.0) (c.in-Ok.ensures.done both.1),
      items_further c.args.seats.now c.loop-i.seats c.loop-i.i c.visit.new.seat c.loop-i.invariant.3,
      λ tells. each_further IsNull g.P.LogicalProcess.state c.args.seats.now c.loop-i.seats c.loop-i.i _
          c.visit.new.seat read c.loop-i.invariant.3 (c.loop-i.invariant.4 tells) (c.in-Ok.ensures.nulls tells),
      each_further HasEvents g.P.LogicalProcess.state c.args.seats.now c.loop-i.seats c.loop-i.i _
          c.visit.new.seat read c.loop-i.invariant.3 c.loop-i.invariant.5 c.in-Ok.ensures.events,
    )

pub returns-clause-nulls : goal.returns-clause-nulls
returns-clause-nulls g c = λ tells.
    each_of_all IsNull g.P.LogicalProcess.state c.args.seats.now c.loop-i.seats c.loop-i.i (omega (arith)) (c.loop-i.invariant.4 tells)

pub returns-clause-events : goal.returns-clause-events
returns-clause-events g c =
    each_of_all HasEvents g.P.LogicalProcess.state c.args.seats.now c.loop-i.seats c.loop-i.i (omega (arith)) c.loop-i.invariant.5

pub returns-clause-all : goal.returns-clause-all
returns-clause-all g c =
    let S : Seat g.row.P.Denot → Type 0
    = λ s. Sits g.N.OfJob.job g.P.LogicalProcess.state g.P.LogicalProcess.handed g.P.LogicalProcess.valid c.args.floor.now.links.now s in
    let R : Seat g.row.P.Denot → Type 0
    = λ s. Reports g.N.OfJob.job g.P.LogicalProcess.state g.P.LogicalProcess.handed g.P.LogicalProcess.valid s in
    All-weaker S R
    (λ s sits. reports g.N.OfJob.job g.P.LogicalProcess.state g.P.LogicalProcess.handed g.P.LogicalProcess.valid c.args.floor.now.links.now
    s sits)
    c.loop-i.seats c.loop-i.invariant.0
