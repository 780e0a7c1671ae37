use Rattle.std.proofs.Common.{◌≡◌, length}
use Rattle.std.specs.List.{All}
use Rattle.dv_link.specs.Ends.{capacity}
use Rattle.dv_link.specs.declared.link.Link.{Link}
use Rattle.dv_work.specs.Making.{AreSeated, NamesWorkers}
use Rattle.dv_work.proofs.setup.connect.Given as goal

abbrev pub invariant-loop-channel : goal.invariant-loop-channel
invariant-loop-channel g l =
    (length l.links.items ≡ l.channel-index)
    × AreSeated g.N.OfJob.job g.P.LogicalProcess.state g.P.LogicalProcess.handed g.P.LogicalProcess.valid l.links.items l.channel-index
    l.channel-index l.seats.items
    × All (λ (link : Link g.row.N.Denot). capacity link ≡ l.capacity) l.links.items
    × All (NamesWorkers g.N.OfJob.job l.workers) l.seats.items
