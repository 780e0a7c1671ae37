use Rattle.std.proofs.Common.{refl, ap}
use Rattle.dv_record.specs.Told.{Handed}
use Rattle.dv_work.proofs.Posting.{rest_is_piece}
use Rattle.dv_work.proofs.seat.Seat.piece.Goals as goal

pub returns-clause-piece : goal.returns-clause-piece
returns-clause-piece g c =
    let s = c.args.self.now in
    let reports = c.requires in
    rest_is_piece g.N.OfJob.job s.number (g.P.LogicalProcess.state s.process) (g.P.LogicalProcess.handed s.process) s.posted
    reports.posted reports.part c.hand_over.result c.hand_over.ensures.part reports.there reports.within c.clock-clock.result
    c.clock-clock.ensures

pub returns-clause-moved : goal.returns-clause-moved
returns-clause-moved g c = record {
  valid = c.hand_over.ensures.valid;
  number = refl;
  outs = refl;
  ins = refl;
  state_is = c.hand_over.ensures.state;
  posted = c.clock-clock.ensures;
  past = ap (λ (h : Handed). h.past) c.hand_over.ensures.handed;
}
