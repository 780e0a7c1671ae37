use Rattle.std.proofs.Common.{refl, arith}
use Rattle.dv_share.proofs.Starts.{one_link_more}
use Rattle.dv_share.proofs.routes.starts_of.Goals as goal

pub loop-index-preserved : goal.loop-index-preserved
loop-index-preserved c =
    let at = c.loop-index in
    let made = c.in_ok-begin_up_to.ensures in
    one_link_more c.args.links.now c.requires at.starts.items at.index at.invariant _ (omega (arith, c.loop-index-test.true))
    c.begin_up_to.new.starts.items at.index refl made.kept made.grown made.same made.begun
