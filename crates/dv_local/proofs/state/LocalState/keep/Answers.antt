use Rattle.std.proofs.Common.{◌≡◌, true, List, ◌++◌, filter, Option, None, Result, Ok, Err, OnOk, OnErr, sym, ap, subst, ◌∙◌}
use Rattle.dv_time.specs.Time.{time_of}
use Rattle.dv_time.specs.declared.time.Time.{Time}
use Rattle.dv_conservative.specs.Events.{deliveries_at}
use Rattle.dv_local.specs.Arrivals.{Arrivals, arrivals_at, brings, coming_at}
use Rattle.dv_proc.specs.Local.{DeliverAlike, View, are_for_ports}
use Rattle.dv_proc.specs.Packets.{meant_events}
use Rattle.dv_proc.specs.declared.packet.Event.{Event}
use Rattle.dv_local.specs.Shares.{share_by}
use Rattle.dv_local.specs.States.{AllArrive, held_by, settled_by, view_by}
use Rattle.dv_local.specs.Undoing.{arrivals_but}
use Rattle.dv_local.proofs.Keeping.{kept_alike, kept_arrive}
use Rattle.dv_local.proofs.state.LocalState.keep.Goals as goal

on_ok : {T E : Type 0} (r : Result T E) (P Q : Type 0) → OnOk r Q → (Q → P) → OnOk r P
on_ok (Ok x) P Q h f = f h
on_ok (Err x) P Q h f = h

either_way : {T E : Type 0} (r : Result T E) (Q R P : Type 0) → OnOk r Q → OnErr r R → (Q → P) → (R → P) → P
either_way (Ok x) Q R P q r f g = f q
either_way (Err x) Q R P q r f g = g r

pub returns-clause-is_kept : goal.returns-clause-is_kept
returns-clause-is_kept g c =
    let s = c.settle.new.self in
    let k = c.settle.ensures.kept in
    let t = s.share.tables in
    let es = c.args.events.now in
    let old : Arrivals = s.inbox in
    let new : Arrivals = c.add_all.new.self in
    let brought : c.deref.result.now ≡ filter (brings s.share.tables.limit) es = c.deref.ensures.value
    ∙ c.in_ok-brought.ensures in
    let here : are_for_ports (view_by g.A.Atomic.behaviour g.R.Record.told s).share (meant_events es) ≡ true =
    subst (λ (v : View). are_for_ports v.share (meant_events es) ≡ true) (sym c.settle.ensures.view) c.requires.ports in
    record {
      share = k.share;
      all_come = k.all_come;
      components = k.components;
      agenda = k.agenda;
      arrive = either_way c.add_all.result
          ((u : Time) → arrivals_at u new ≡ arrivals_at u old ++ coming_at u c.deref.result.now) (new ≡ old)
          (AllArrive t.limit t.members.items new)
          c.add_all.ensures.added c.add_all.ensures.err
          (λ added. kept_arrive g.A.Atomic.behaviour t.models.items t.limit t.members.items old new es
          (λ u. added u ∙ ap (λ (cs : List Event). arrivals_at u old ++ coming_at u cs) brought) here k.arrive)
          (λ same. subst (λ (a : Arrivals). AllArrive t.limit t.members.items a) (sym same) k.arrive);
      within = k.within;
      before = k.before;
      emitted = k.emitted;
      still = k.still;
    }

pub returns-clause-kept : goal.returns-clause-kept
returns-clause-kept g c =
    let s = c.settle.new.self in
    let b = g.A.Atomic.behaviour in
    let told = g.R.Record.told in
    let limit = s.share.tables.limit in
    let es = c.args.events.now in
    let old : Arrivals = s.inbox in
    let new : Arrivals = c.add_all.new.self in
    let brought : c.deref.result.now ≡ filter (brings s.share.tables.limit) es = c.deref.ensures.value
    ∙ c.in_ok-brought.ensures in
    let view : view_by b told s ≡ view_by b told c.args.self.now = c.settle.ensures.view in
    on_ok c.add_all.result _ ((u : Time) → arrivals_at u new ≡ arrivals_at u old ++ coming_at u c.deref.result.now) c.add_all.ensures.added
    (λ added. record {
      share = ap (λ (v : View). v.share) view;
      components = ap (λ (v : View). v.components) view;
      committed = ap (λ (v : View). v.committed) view;
      held = λ n.
          let u = time_of limit n in
          let e : arrivals_but s.undo.taken u new ≡ arrivals_but s.undo.taken u old ++ coming_at u
          (filter (brings s.share.tables.limit) es) =
          subst (λ (o : Option Time). arrivals_but o u new
          ≡ arrivals_but o u old ++ coming_at u (filter (brings s.share.tables.limit) es))
          (sym c.settle.ensures.at_rest.taken)
          (added u ∙ ap (λ (cs : List Event). arrivals_at u old ++ coming_at u cs) brought) in
          subst (λ (v : View). DeliverAlike (held_by limit s.undo.taken new n)
          (v.held n ++ deliveries_at v.share.limit (meant_events es) n)) view
          (kept_alike limit n (arrivals_but s.undo.taken u old) (arrivals_but s.undo.taken u new) es e);
    })

pub returns-clause-settled : goal.returns-clause-settled
returns-clause-settled g c =
    let s = c.settle.new.self in
    let b = g.A.Atomic.behaviour in
    let told = g.R.Record.told in
    let limit = s.share.tables.limit in
    let new : Arrivals = c.add_all.new.self in
    let same : settled_by b g.R.Record.settled s ≡ view_by b told s = c.settle.ensures.settled ∙ sym c.settle.ensures.view in
    ap (λ (v : View).
    let w : View = record {
      share = share_by b s.share;
      components = v.components;
      committed = v.committed;
      held = held_by limit None new;
    } in w) same
    ∙ ap (λ (o : Option Time).
    let w : View = record {
      share = share_by b s.share;
      components = (view_by b told s).components;
      committed = (view_by b told s).committed;
      held = held_by limit o new;
    } in w)
    (sym c.settle.ensures.at_rest.taken)
