use Rattle.std.proofs.Common.{◌≡◌, [], ◌∷◌, ◌++◌, length, ap, subst, sym, arith, length-append}
use Rattle.std.specs.List.{All}
use Rattle.std.specs.declared.alloc.Global.{Global}
use Rattle.std.specs.declared.vec.Vec.{Vec}
use Rattle.std.proofs.lemmas.List.Elements.{All-same, All-push}
use Rattle.dv_work.specs.Workers.{Seated}
use Rattle.dv_work.specs.Seats.{Sits}
use Rattle.dv_work.specs.declared.seat.Seat.{Seat}
use Rattle.dv_work.proofs.ByWorker.{nobody_more}
use Rattle.dv_work.proofs.setup.empty_seats.Goals as goal

pub loop-worker-preserved : goal.loop-worker-preserved
loop-worker-preserved g c =
    let S : Seat g.row.P.Denot → Type 0
    = λ s. Sits g.N.OfJob.job g.P.LogicalProcess.state g.P.LogicalProcess.handed g.P.LogicalProcess.valid c.args.links.now s in
    let C : Vec (Seat g.row.P.Denot) Global → Type 0
    = λ v. Seated g.N.OfJob.job g.P.LogicalProcess.state g.P.LogicalProcess.handed g.P.LogicalProcess.valid
    c.args.links.now v in
    let xs = c.loop-worker.by_worker.items in
    let is : c.push.new.self.items ≡ xs ++ c.new.result ∷ [] = c.in_ok-push.ensures.items in
    let none : All S c.new.result.items = subst (λ l. All S l) (sym c.new.ensures.items) (λ k d lt. absurd (omega arith)) in (
      (let e = ap length is in let l = length-append xs (c.new.result ∷ []) in let h = c.loop-worker.invariant.0 in omega arith),
      All-same C c.push.new.self.items _ is (All-push C xs c.new.result c.loop-worker.invariant.1 (record { sits = none })),
      nobody_more c.args.workers xs c.push.new.self.items c.new.result is c.new.ensures.items c.loop-worker.invariant.2,
    )
