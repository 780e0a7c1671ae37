use Rattle.std.proofs.Common.{List, subst, arith}
use Rattle.std.specs.List.{All}
use Rattle.std.proofs.lemmas.List.Elements.{All-rest, All-same}
use Rattle.std.specs.Vec.Iter.{into_iter_items}
use Rattle.dv_work.specs.Seats.{Reports}
use Rattle.dv_work.specs.declared.seat.Seat.{Seat}
use Rattle.dv_work.proofs.report.enter_all.Goals as goal

pub loop-seat-init : goal.loop-seat-init
loop-seat-init g c =
    let R : Seat g.row.P.Denot → Type 0
    = λ s. Reports g.N.OfJob.job g.P.LogicalProcess.state g.P.LogicalProcess.handed g.P.LogicalProcess.valid s in (
      All-same R (into_iter_items c.into_iter-seat-iterator.result) c.args.seats.items c.into_iter-seat-iterator.ensures.into_iter_gives.0
          c.requires.seats,
      c.requires.rest,
    )

pub enter-requires-clause-seat : goal.enter-requires-clause-seat
enter-requires-clause-seat g c =
    let R : Seat g.row.P.Denot → Type 0
    = λ s. Reports g.N.OfJob.job g.P.LogicalProcess.state g.P.LogicalProcess.handed g.P.LogicalProcess.valid s in
    let rest = subst (λ (l : List (Seat g.row.P.Denot)). All R l) c.in-Some.ensures.steps.0 c.loop-seat.invariant.0 in
    rest 0 c.in-Some.seat (omega arith)

pub loop-seat-preserved : goal.loop-seat-preserved
loop-seat-preserved g c =
    let R : Seat g.row.P.Denot → Type 0
    = λ s. Reports g.N.OfJob.job g.P.LogicalProcess.state g.P.LogicalProcess.handed g.P.LogicalProcess.valid s in (
      All-rest R c.in-Some.seat (into_iter_items c.next.new.self) (into_iter_items c.loop-seat.seat-iterator)
          c.in-Some.ensures.steps.0 c.loop-seat.invariant.0,
      c.enter.ensures,
    )
