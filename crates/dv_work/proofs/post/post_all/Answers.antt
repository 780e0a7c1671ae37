use Rattle.std.proofs.Common.{◌<◌, length, arith}
use Rattle.std.proofs.lemmas.List.Elements.{All-set}
use Rattle.dv_work.specs.Seats.{HasToldAll, HoldsNone, Sits}
use Rattle.dv_work.specs.declared.seat.Seat.{Seat}
use Rattle.dv_work.proofs.post.post_all.Goals as goal

pub returns-in_err-has_posted : goal.returns-in_err-has_posted
returns-in_err-has_posted g c =
    let S : Seat g.row.P.Denot → Type 0
    = λ s. Sits g.N.OfJob.job g.P.LogicalProcess.state g.P.LogicalProcess.handed g.P.LogicalProcess.valid c.args.floor.now.links.now s in
    let T : Seat g.row.P.Denot → Type 0 = λ s. HasToldAll g.P.LogicalProcess.state s in
    let H : Seat g.row.P.Denot → Type 0 = λ s. HoldsNone s in
    let within : c.loop-i.i < length c.loop-i.seats = omega (arith, c.loop-i-test.true, c.loop-i.auto.seats, c.loop-i.auto.i-end) in
    let is = c.loop-i.invariant in record {
      sits = All-set S c.loop-i.seats c.loop-i.i c.post.new.seat c.in_err-has_posted.ensures.sits is.sits;
      told = λ all.
          let before = is.told all in
          All-set T c.loop-i.seats c.loop-i.i c.post.new.seat (c.in_err-has_posted.ensures.told (before c.loop-i.i _ within)) before;
      put = λ all.
          let before = is.put all in
          All-set H c.loop-i.seats c.loop-i.i c.post.new.seat (c.in_err-has_posted.ensures.put (before c.loop-i.i _ within)) before;
    }

pub loop-i-preserved : goal.loop-i-preserved
loop-i-preserved g c =
    let S : Seat g.row.P.Denot → Type 0
    = λ s. Sits g.N.OfJob.job g.P.LogicalProcess.state g.P.LogicalProcess.handed g.P.LogicalProcess.valid c.args.floor.now.links.now s in
    let T : Seat g.row.P.Denot → Type 0 = λ s. HasToldAll g.P.LogicalProcess.state s in
    let H : Seat g.row.P.Denot → Type 0 = λ s. HoldsNone s in
    let within : c.loop-i.i < length c.loop-i.seats = omega (arith, c.loop-i-test.true, c.loop-i.auto.seats, c.loop-i.auto.i-end) in
    let is = c.loop-i.invariant in record {
      sits = All-set S c.loop-i.seats c.loop-i.i c.post.new.seat c.in_ok-has_posted.ensures.sits is.sits;
      told = λ all.
          let before = is.told all in
          All-set T c.loop-i.seats c.loop-i.i c.post.new.seat (c.in_ok-has_posted.ensures.told (before c.loop-i.i _ within)) before;
      put = λ all.
          let before = is.put all in
          All-set H c.loop-i.seats c.loop-i.i c.post.new.seat (c.in_ok-has_posted.ensures.put (before c.loop-i.i _ within)) before;
    }
