use Rattle.std.proofs.Common.{◌≡◌, ◌∙◌, List, map, sym, ap, subst}
use Rattle.dv_conservative.specs.Flat.{network}
use Rattle.dv_conservative.specs.Links.{Delivery, delivered}
use Rattle.dv_conservative.specs.Process.{Outgoing, Share}
use Rattle.dv_devs.specs.Behaviour.{Component}
use Rattle.dv_devs.specs.NextTimes.{IsFrom, least_next}
use Rattle.dv_proc.specs.Arriving.{AreApart}
use Rattle.dv_proc.specs.Standing.{IsBegun}
use Rattle.dv_react.specs.Components.{components_of}
use Rattle.dv_share.specs.Share.{starts_of}
use Rattle.dv_share.specs.declared.tables.Member.{Member}
use Rattle.dv_local.specs.Shares.{numbers_of_ways, share_by}
use Rattle.dv_local.specs.States.{view_by}
use Rattle.dv_local.specs.declared.share.Way.{Way}
use Rattle.dv_local.specs.declared.state.LocalState.{LocalState}
use Rattle.dv_local.proofs.Starts.{away_numbers, starts_are}
use Rattle.dv_local.proofs.beginning.begin.Goals as goal

pub new-requires-3-clause-begun : goal.new-requires-3-clause-begun
new-requires-3-clause-begun g c =
    let b = g.A.Atomic.behaviour in
    let told = g.R.Record.told in
    let t = c.args.share.tables in
    let x = c.in_ok-state.state in
    let share : (view_by b told x).share ≡ share_by b c.args.share = c.in_ok-state.ensures.share in
    let running : c.in_ok-running.running.items ≡ starts_of t.members.items =
    c.in_ok-running.ensures ∙ ap (λ (ms : List Member). starts_of ms) c.as_slice-3.ensures.value in
    let components : (view_by b told x).components ≡ components_of t.limit (starts_of t.members.items) =
    c.in_ok-state.ensures.components ∙ ap (components_of t.limit) running in
    subst (λ (y : LocalState _ _). IsBegun (view_by b told y)) (sym c.new-2.ensures)
    (record {
      components = components ∙ starts_are b t.limit t.models.items t.members.items ∙ ap (λ (s : Share). (network s.flat).start)
          (sym share);
      committed = c.in_ok-state.ensures.committed;
      held = λ n k port bag. ap (λ (ds : List Delivery). delivered k port ds bag) (c.in_ok-state.ensures.held n);
      later = subst (λ (cs : List Component). IsFrom 1 (least_next cs)) (sym components) c.requires.later;
    })

pub new-requires-3-clause-unvisited : goal.new-requires-3-clause-unvisited
new-requires-3-clause-unvisited g c = ap (λ (y : LocalState _ _). y.components.visits) c.new-2.ensures ∙ c.in_ok-state.ensures.visits

pub new-requires-3-clause-linked : goal.new-requires-3-clause-linked
new-requires-3-clause-linked g c =
    let b = g.A.Atomic.behaviour in
    let told = g.R.Record.told in
    ap (λ (y : LocalState _ _). (view_by b told y).share.incoming) c.new-2.ensures
    ∙ ap (λ (s : Share). s.incoming) c.in_ok-state.ensures.share
    ∙ sym (c.deref.ensures.value ∙ c.in_ok-sources.ensures.items ∙ c.as_slice.ensures.value)

pub new-requires-3-clause-away : goal.new-requires-3-clause-away
new-requires-3-clause-away g c =
    let b = g.A.Atomic.behaviour in
    let told = g.R.Record.told in
    ap (λ (y : LocalState _ _). map (λ (o : Outgoing). o.number) (view_by b told y).share.outgoing) c.new-2.ensures
    ∙ ap (λ (s : Share). map (λ (o : Outgoing). o.number) s.outgoing) c.in_ok-state.ensures.share
    ∙ away_numbers c.args.share.ways.items
    ∙ sym (c.deref-2.ensures.value ∙ c.in_ok-ways.ensures ∙ ap (λ (ws : List Way). numbers_of_ways ws) c.as_slice-2.ensures.value)

pub new-requires-3-clause-apart_in : goal.new-requires-3-clause-apart_in
new-requires-3-clause-apart_in g c =
    subst AreApart (sym (c.deref.ensures.value ∙ c.in_ok-sources.ensures.items ∙ c.as_slice.ensures.value)) c.requires.apart_in
