use Rattle.std.proofs.Common.{◌≡◌, List, sym, subst, ◌∙◌}
use Rattle.std.specs.List.{All}
use Rattle.dv_link.specs.declared.link.Link.{Link}
use Rattle.dv_work.specs.Workers.{Seated}
use Rattle.dv_work.specs.Seats.{Sits}
use Rattle.std.specs.declared.alloc.Global.{Global}
use Rattle.std.specs.declared.vec.Vec.{Vec}
use Rattle.dv_work.specs.declared.seat.Seat.{Seat}
use Rattle.dv_bag.specs.Part.{nothing}
use Rattle.dv_work.proofs.Lists.{at_index}
use Rattle.dv_work.proofs.Making.{all_sit}
use Rattle.dv_work.proofs.run.run_job.Goals as goal

pub seats_of-requires : goal.seats_of-requires
seats_of-requires g c =
    let made = c.requires.crew.made in record {
      valid = made.valid;
      fits = made.fits;
      sound = made.sound;
      count = made.count;
      few = made.few.0;
      shares = made.shares;
      kept = λ p x at. at_index (λ z. (g.P.LogicalProcess.handed z).past ≡ nothing) c.args.crew.processes.items p x c.requires.crew.kept at;
    }

pub seats_by_worker-requires-clause-seats : goal.seats_by_worker-requires-clause-seats
seats_by_worker-requires-clause-seats g c =
    let job = g.N.OfJob.job in
    let are = c.in_ok-links.ensures.seated in
    subst (λ (ls : List (Link g.row.N.Denot)).
    All (λ (s : Seat g.row.P.Denot). Sits job g.P.LogicalProcess.state g.P.LogicalProcess.handed g.P.LogicalProcess.valid ls s)
    c.connect.new.seats.items)
    (sym c.deref-2.ensures.value)
    (all_sit job g.P.LogicalProcess.state g.P.LogicalProcess.handed g.P.LogicalProcess.valid c.in_ok-links.links.items are.0 are.0
    c.connect.new.seats.items are.1)

pub run_all-requires-clause-seated : goal.run_all-requires-clause-seated
run_all-requires-clause-seated g c κs _ =
    let job = g.N.OfJob.job in
    subst (λ (ls : List (Link g.row.N.Denot)).
    All (λ (v : Vec (Seat g.row.P.Denot) Global). Seated job g.P.LogicalProcess.state g.P.LogicalProcess.handed g.P.LogicalProcess.valid ls
    v)
    c.in_ok-by_worker.by_worker.items)
    (c.deref-2.ensures.value ∙ sym c.deref-3.ensures.value) c.in_ok-by_worker.ensures.seated
