use Rattle.std.proofs.Common.{sym, subst}
use Rattle.dv_board.specs.Stretches.{AreByTime}
use Rattle.dv_board.proofs.held.Held.between.Goals as goal

pub ended_between-requires : goal.ended_between-requires
ended_between-requires g c = (subst AreByTime (sym c.self.view_is) c.requires).0

pub append_between-requires : goal.append_between-requires
append_between-requires g c = (subst AreByTime (sym c.self.view_is) c.requires).1
