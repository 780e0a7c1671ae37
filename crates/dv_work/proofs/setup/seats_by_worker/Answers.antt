use Rattle.std.proofs.Common.{◌<◌, ◌%◌, List, length, refl, sym, ◌∙◌, subst, arith}
use Rattle.std.specs.List.{All}
use Rattle.std.proofs.lemmas.List.{length-set}
use Rattle.std.proofs.lemmas.List.Elements.{All-rest, All-set}
use Rattle.std.specs.Vec.Iter.{into_iter_items}
use Rattle.std.specs.declared.alloc.Global.{Global}
use Rattle.std.specs.declared.vec.Vec.{Vec}
use Rattle.dv_work.specs.Workers.{Seated}
use Rattle.dv_work.specs.Seats.{Sits}
use Rattle.dv_work.specs.declared.seat.Seat.{Seat}
use Rattle.std.proofs.lemmas.Option.{slice_get_read}
use Rattle.dv_work.proofs.ByWorker.{seat_more}
use Rattle.dv_work.proofs.setup.seats_by_worker.Goals as goal

pub index_mut-requires : goal.index_mut-requires
index_mut-requires g c =
    let count = c.loop-seat.invariant.count in
    omega (arith, count, c.requires.workers, c.loop-seat.by_worker.ok.0)

pub add_seat-requires-clause-seats : goal.add_seat-requires-clause-seats
add_seat-requires-clause-seats g c =
    let C : Vec (Seat g.row.P.Denot) Global → Type 0
    = λ v. Seated g.N.OfJob.job g.P.LogicalProcess.state g.P.LogicalProcess.handed g.P.LogicalProcess.valid
    c.args.links.now v in
    let is = c.loop-seat.invariant in
    let i = c.in-Some.seat.number % c.args.workers in
    let below : i < length c.loop-seat.by_worker.items = (let l = is.count in let w = c.requires.workers in omega arith) in
    subst C (sym c.index_mut.ensures.value) (is.seated i c.index_mut.result.now below)

pub add_seat-requires-clause-seat : goal.add_seat-requires-clause-seat
add_seat-requires-clause-seat g c =
    let S : Seat g.row.P.Denot → Type 0
    = λ s. Sits g.N.OfJob.job g.P.LogicalProcess.state g.P.LogicalProcess.handed g.P.LogicalProcess.valid c.args.links.now s in
    let rest = subst (λ (l : List (Seat g.row.P.Denot)). All S l) c.in-Some.ensures.steps.0 c.loop-seat.invariant.rest in
    rest 0 c.in-Some.seat (omega arith)

pub loop-seat-preserved : goal.loop-seat-preserved
loop-seat-preserved g c =
    let S : Seat g.row.P.Denot → Type 0
    = λ s. Sits g.N.OfJob.job g.P.LogicalProcess.state g.P.LogicalProcess.handed g.P.LogicalProcess.valid c.args.links.now s in
    let C : Vec (Seat g.row.P.Denot) Global → Type 0
    = λ v. Seated g.N.OfJob.job g.P.LogicalProcess.state g.P.LogicalProcess.handed g.P.LogicalProcess.valid
    c.args.links.now v in
    let is = c.loop-seat.invariant in
    let by_worker = c.loop-seat.by_worker.items in
    let w = c.in-Some.seat.number % c.args.workers in
    let below : w < length by_worker = (let l = is.count in let n = c.requires.workers in omega arith) in
    let there = slice_get_read by_worker (length by_worker) w c.index_mut.result.now refl below c.index_mut.ensures.value in record {
      rest = All-rest S c.in-Some.seat (into_iter_items c.next.new.self) (into_iter_items c.loop-seat.seat-iterator)
          c.in-Some.ensures.steps.0 is.rest;
      count = length-set c.loop-seat.by_worker.items _ _ ∙ is.count;
      workers = seat_more c.args.workers by_worker w c.index_mut.result.now c.add_seat.new.seats c.in-Some.seat there
          c.in_ok-add_seat.ensures.items refl is.workers;
      seated = All-set C c.loop-seat.by_worker.items _ _ c.in_ok-add_seat.ensures.seats is.seated;
    }
