use Rattle.std.proofs.Common.{◌∙◌, List, ap, sym, subst}
use Rattle.std.proofs.Math.ListN.{set}
use Rattle.std.specs.List.{All}
use Rattle.std.proofs.lemmas.List.Elements.{All-push}
use Rattle.dv_time.specs.declared.time.Time.{Time}
use Rattle.dv_board.specs.Posts.{AreEnds, IsPiece, end_in}
use Rattle.dv_board.proofs.Ends.{ends_after}
use Rattle.dv_board.proofs.posts.Posts.post.Goals as goal

pub invariant_of-self : goal.invariant_of-self
invariant_of-self g c =
    (subst (All (IsPiece g.N.OfJob.job)) (sym c.in_err-push.ensures.items) c.self.invariant.0, c.self.invariant.1)

pub invariant_of-self-then-not-is_before : goal.invariant_of-self-then-not-is_before
invariant_of-self-then-not-is_before g c =
    let job = g.N.OfJob.job in
    let s = c.self.inside in (
      subst (All (IsPiece job)) (sym c.in_ok-push.ensures.items)
          (All-push (IsPiece job) s.pieces.items c.args.piece c.self.invariant.0 c.requires),
      subst (λ (t : Time). AreEnds job (set s.ends.items c.args.piece.process t)) (sym c.later.ensures)
          (ends_after job s.ends.items c.args.piece c.end_in-end.result c.self.invariant.1 c.requires
          (c.end_in-end.ensures ∙ ap (λ (ends : List Time). end_in ends c.args.piece.process) c.deref.ensures.value)),
    )

pub invariant_of-self-else-not-is_before : goal.invariant_of-self-else-not-is_before
invariant_of-self-else-not-is_before g c =
    let job = g.N.OfJob.job in (
      subst (All (IsPiece job)) (sym c.in_ok-push.ensures.items)
          (All-push (IsPiece job) c.self.inside.pieces.items c.args.piece c.self.invariant.0 c.requires),
      c.self.invariant.1,
    )
