use Rattle.std.proofs.Common.{◌≡◌, ◌≢◌, ℕ, ◌<◌, true}
use Rattle.std.specs.List.{All, slice_index_or}
use Rattle.dv_proc.specs.declared.process.Turned.TheVariants.{Done, Moved}
use Rattle.dv_work.specs.Seats.{HasEvents, HasToldAll, HoldsNone, IsNull, Sits}
use Rattle.dv_work.specs.declared.seat.Seat.{Seat}
use Rattle.dv_work.proofs.Keeping.{EachAtFirst, ItemsStay}
use Rattle.dv_work.proofs.worker.round.Given as goal

abbrev pub invariant-loop-i : goal.invariant-loop-i
invariant-loop-i g l =
    All (Sits g.N.OfJob.job g.P.LogicalProcess.state g.P.LogicalProcess.handed g.P.LogicalProcess.valid l.floor.links.now) l.seats
    × (l.all ≢ Moved → (k : ℕ) (s : Seat g.row.P.Denot) → k < l.i → HasToldAll g.P.LogicalProcess.state (slice_index_or l.seats k s))
    × (l.all ≡ Done → (k : ℕ) (s : Seat g.row.P.Denot) → k < l.i → HoldsNone (slice_index_or l.seats k s))
    × ItemsStay l.i l.fn.seats l.seats
    × (l.tells ≡ true → EachAtFirst IsNull g.P.LogicalProcess.state l.i l.fn.seats l.seats)
    × EachAtFirst HasEvents g.P.LogicalProcess.state l.i l.fn.seats l.seats
