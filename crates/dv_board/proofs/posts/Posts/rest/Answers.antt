use Rattle.std.proofs.Common.{◌∙◌, List, ap, map, sym, subst}
use Rattle.std.specs.List.{All}
use Rattle.dv_time.specs.declared.time.Time.{Time}
use Rattle.dv_board.specs.Posts.{IsPiece, without_gap}
use Rattle.dv_board.proofs.Ends.{pieces_without_gaps}
use Rattle.dv_board.proofs.posts.Posts.rest.Goals as goal

pub invariant_of-result : goal.invariant_of-result
invariant_of-result g c =
    let job = g.N.OfJob.job in
    let pieces = c.args.pieces.items in
    let is = c.close_gaps.ensures ∙ ap (λ (ends : List Time). map (without_gap ends) pieces) c.deref.ensures.value in
    subst (All (IsPiece job)) (sym is) (pieces_without_gaps job c.self.inside.ends.items pieces c.self.invariant.1 c.requires)

pub returns-clause-each : goal.returns-clause-each
returns-clause-each g c =
    let job = g.N.OfJob.job in
    let pieces = c.args.pieces.items in
    let is = c.close_gaps.ensures ∙ ap (λ (ends : List Time). map (without_gap ends) pieces) c.deref.ensures.value in
    subst (All (IsPiece job)) (sym is) (pieces_without_gaps job c.self.inside.ends.items pieces c.self.invariant.1 c.requires)
