use Rattle.std.proofs.Common.{◌≡◌, List, [], ◌∷◌, ◌++◌, map, sym, subst, ◌∙◌}
use Rattle.std.specs.List.{All}
use Rattle.std.proofs.lemmas.Iterator.Adapters.{YieldsList-from_vec}
use Rattle.std.proofs.lemmas.Iterator.Consumers.{YieldsList-turn}
use Rattle.std.proofs.lemmas.List.{map-append}
use Rattle.std.proofs.lemmas.List.Elements.{All-push}
use Rattle.dv_conservative.specs.Process.{Share}
use Rattle.dv_local.specs.Shares.{share_by}
use Rattle.dv_local.specs.States.{settled_by, view_by}
use Rattle.dv_record.specs.Told.{no_text}
use Rattle.dv_plan.specs.Beginning.{AllBegun, CanBegin}
use Rattle.dv_plan.proofs.Beginning.{begun_after, holds_at}
use Rattle.dv_plan.proofs.processes.begin_each.Goals as goal

pub begin_one-requires-clause-begin : goal.begin_one-requires-clause-begin
begin_one-requires-clause-begin g c =
    let gives = c.into_iter-share-iterator.ensures.into_iter_gives in
    let all = YieldsList-from_vec c.args.shares.items gives.0 (gives.1 ∙ c.args.shares.ok.0) in
    let turn = YieldsList-turn all c.loop-share.yielded c.loop-share.share-iterator c.loop-share.yielded_by c.next.result c.next.new.self
    c.in-Some.share c.in-Some.is c.next.ensures.steps in
    holds_at (CanBegin g.A.Atomic.behaviour g.A.Atomic.fits) c.args.shares.items _ c.in-Some.share c.requires.begin turn

pub loop-share-preserved : goal.loop-share-preserved
loop-share-preserved g c =
    let behaviour = g.A.Atomic.behaviour in
    let view = view_by behaviour g.R.Record.told in
    let settled = settled_by behaviour g.R.Record.settled in
    let begun = c.loop-share.yielded in
    let share = c.in-Some.share in
    let old = c.loop-share.processes.items in
    let one = c.in_ok-begin_one.field-0 in
    let items = sym c.in_ok-push.ensures.items in
    record {
      begun = subst (AllBegun view settled (map (share_by behaviour) (begun ++ share ∷ []))) items
          (subst (λ (ss : List Share). AllBegun view settled ss (old ++ one ∷ []))
          (sym (map-append (share_by behaviour) begun (share ∷ [])))
          (begun_after view settled (map (share_by behaviour) begun) old (share_by behaviour share) one c.loop-share.invariant.begun
          c.in_ok-begin_one.ensures.begun));
      handed = subst (All (λ p. g.R.Record.handed p.local.record ≡ no_text)) items
          (All-push (λ p. g.R.Record.handed p.local.record ≡ no_text) old one c.loop-share.invariant.handed
          c.in_ok-begin_one.ensures.handed);
    }
