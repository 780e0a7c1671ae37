use Rattle.std.proofs.Common.{ap, sym, subst}
use Rattle.std.specs.List.{All}
use Rattle.dv_board.specs.Posts.{IsPiece}
use Rattle.dv_board.proofs.posts.Posts.take.Goals as goal

pub returns-clause-each : goal.returns-clause-each
returns-clause-each g c =
    subst (All (IsPiece g.N.OfJob.job)) (sym (ap (λ v. v.items) c.replace.ensures.value)) c.self.invariant.0
