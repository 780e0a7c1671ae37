use Rattle.std.proofs.Common.{◌≡◌, ℕ, Some, length, slice_get}
use Rattle.dv_work.specs.Making.{IsSeat, no_links}
use Rattle.dv_work.specs.declared.seat.Seat.{Seat}
use Rattle.dv_work.proofs.setup.seats_of.Given as goal

abbrev pub invariant-loop-process : goal.invariant-loop-process
invariant-loop-process g l = record {
  count : length l.seats.items ≡ length l.yielded;
  numbers : (p : ℕ) (s : Seat g.row.P.Denot) → slice_get l.seats.items p ≡ Some s → s.number ≡ p;
  each : (p : ℕ) (s : Seat g.row.P.Denot) → slice_get l.seats.items p ≡ Some s
      → IsSeat g.N.OfJob.job g.P.LogicalProcess.state g.P.LogicalProcess.handed g.P.LogicalProcess.valid (no_links {N = g.row.N.Denot}) 0 0
      s;
}
