use Rattle.std.proofs.Common.{sym, subst}
use Rattle.dv_board.specs.Stretches.{AreByTime, HeldOf}
use Rattle.dv_board.proofs.backlog.pieces_between.Goals as goal

pub between-requires : goal.between-requires
between-requires g c =
    subst (λ (h : HeldOf g.row.N.Denot). AreByTime h) (sym c.kept-item.is)
    (c.requires c.loop-kept.kept-index c.kept-item.result c.loop-kept-test.true)
