use Rattle.std.proofs.Common.{◌≡◌, ◌<◌, ℕ, List, ◌++◌, length, map, Some, Result, Ok, Err, IfOk, OnOk, sym, ap, subst, ◌∙◌, arith}
use Rattle.std.specs.List.{slice_get}
use Rattle.std.proofs.lemmas.Option.{slice_get-get_or}
use Rattle.dv_conservative.specs.Events.{event_of, in_order}
use Rattle.dv_conservative.specs.Links.{Delivery as Meant, carried, sent_of as sent_from}
use Rattle.dv_conservative.specs.Process.{Outgoing}
use Rattle.dv_proc.specs.Local.{carried_away}
use Rattle.dv_proc.specs.Packets.{meant_events}
use Rattle.dv_share.specs.Links.{deliveries_of}
use Rattle.dv_share.specs.Share.{sent_in, sents_by}
use Rattle.dv_share.specs.declared.link.Delivery.{Delivery}
use Rattle.dv_share.specs.declared.index.Indexed.{Indexed}
use Rattle.dv_share.specs.declared.tables.Member.{Member}
use Rattle.dv_local.specs.States.{sent_of, view_by}
use Rattle.dv_local.specs.declared.share.Way.{Way}
use Rattle.dv_local.proofs.Sending.{same_numbers, way_at}
use Rattle.dv_local.proofs.state.LocalState.send.Goals as goal

where_ok : {T E : Type 0} (r : Result T E) (Q P : Type 0) → IfOk r (λ _. Q) → (Q → P) → OnOk r P
where_ok (Ok x) Q P h f = f h
where_ok (Err x) Q P h f = tt

pub returns : goal.returns
returns g c =
    let x = c.args.self.now in
    let t = x.share.tables in
    let b = g.A.Atomic.behaviour in
    let w = c.index-ways-index.result in
    let ws = c.as_slice-ways.result.now in
    let p = c.args.index in
    let ms = c.as_slice-members.result.now in
    let es = c.as_slice-emitted.result.now in
    let within : p < length ws = omega arith in
    let there : slice_get x.share.ways.items p ≡ Some w =
    subst (λ (vs : List Way). slice_get vs p ≡ Some w) c.as_slice-ways.ensures.value (slice_get-get_or ws p w within
    ∙ ap Some (sym c.index-ways-index.is)) in
    let led : deliveries_of c.deref.result.now ≡ in_order (carried w.links (sent_in ms es)) =
    ap (λ (ds : List Delivery). deliveries_of ds) c.deref.ensures.value ∙ c.in_ok-deliveries.ensures
    ∙ ap (λ (v : Way). in_order (carried v.links (sent_in ms es))) (sym c.index-ways-index.is) in
    let here : in_order (carried w.links (sent_in ms es)) ≡ carried_away (view_by b g.R.Record.told x) w.links (sent_of x) =
    ap (λ (ns : List Member). in_order (carried w.links (sent_in ns es))) c.as_slice-members.ensures.value
    ∙ ap (λ (fs : List (Indexed _)). in_order (carried w.links (sent_in t.members.items fs))) c.as_slice-emitted.ensures
    ∙ ap (λ (ks : List ℕ). in_order (carried w.links (sent_from ks (sents_by 0 t.members.items x.emitted))))
    (sym (same_numbers b t.limit t.models.items t.members.items)) in
    where_ok c.add_events.result _ _ c.add_events.ensures
    (λ added out at.
    added
    ∙ ap (λ (ds : List Meant). meant_events c.args.into.now.items ++ map (event_of c.args.now) ds)
    (led ∙ here
    ∙ ap (λ (o : Outgoing). carried_away (view_by b g.R.Record.told x) o.links (sent_of x))
    (sym (way_at x.share.ways.items p w out there at))))
