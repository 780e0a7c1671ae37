use Rattle.std.proofs.Common.{◌≡◌, ◌+◌, ◌<◌, ◌++◌, [], List, Option, Some, Result, length, filter, get_or, slice_get, drop}
use Rattle.std.proofs.Common.{refl, sym, ap, ◌∙◌, subst, arith}
use Rattle.std.proofs.lemmas.Option.{slice_get-get_or}
use Rattle.dv_bag.specs.Bag.{Counts}
use Rattle.dv_bag.specs.declared.fault.Fault.{Fault}
use Rattle.dv_react.specs.Outcomes.{sent_of}
use Rattle.dv_conservative.specs.Links.{Delivery as Meant, Link, carried}
use Rattle.dv_share.specs.Links.{leads_from}
use Rattle.dv_share.specs.Received.{HasTaken, IsReady}
use Rattle.dv_share.specs.Rows.{number_of, rows}
use Rattle.dv_share.specs.declared.index.Indexed.{Indexed}
use Rattle.dv_share.specs.declared.tables.Member.{Member}
use Rattle.std.proofs.lemmas.List.{drop_all}
use Rattle.dv_share.proofs.Carrying.{drop_next}
use Rattle.dv_share.proofs.Senders.{carried_none}
use Rattle.dv_share.proofs.Taking.{ready_after, taken_both, taken_none}
use Rattle.dv_share.proofs.received.Received.deliver_rows.Goals.{in-Ok+in_ok-deliver_row, in_default}
use Rattle.dv_share.proofs.received.Received.deliver_rows.Goals as goal

pub loop-emission-preserved : goal.loop-emission-preserved
loop-emission-preserved c =
    let es = c.args.emitted.now in
    let ms = c.args.members.now in
    let links = c.args.links.now in
    let i = c.loop-emission.emission-index in
    let e = c.emission-item.result in
    let old = c.loop-emission.self in
    let rest = rows ms links (drop (i + 1) es) in
    let early : i < length es = omega arith in
    let within : e.index < length ms = subst (λ x. x.index < length ms) (sym c.emission-item.is) (c.requires.emitted.within i e early) in
    let next = ap (rows ms links) (drop_next es i e early c.emission-item.is) in
    elim c.match-emission.branch [
      | in-Ok+in_ok-deliver_row w ↦
          let m = get_or ms e.index w.index-members-emission.result in
          let at : slice_get ms e.index ≡ Some m = slice_get-get_or ms e.index w.index-members-emission.result within in
          let row = carried (filter (leads_from m.number) links) (λ k. w.in-Ok.sent) in
          let new = c.match-emission.self in
          let one : HasTaken ms row old new =
          subst (λ v. HasTaken ms row old v) (sym w.self-is)
          (subst (λ (ls : List Link). HasTaken ms (carried ls (λ k. w.in-Ok.sent)) old w.deliver_row.new.self)
          w.of_component.ensures.links w.in_ok-deliver_row.ensures) in
          let whole : rows ms links (drop i es) ≡ row ++ rest =
          next ∙ ap (λ (o : Option Member). carried (filter (leads_from (number_of o)) links) (λ k. sent_of e.what) ++ rest) at
          ∙ ap (λ (r : Result (List Counts) Fault). carried (filter (leads_from m.number) links) (λ k. sent_of r) ++ rest) w.in-Ok.is in
          record {
            ready = ready_after ms row old new one c.loop-emission.invariant.ready;
            rest = λ r h.
                c.loop-emission.invariant.rest r
                (subst (λ (ds : List Meant). HasTaken ms ds old r) (sym whole) (taken_both ms row rest old new r one h));
          }
      | in_default w ↦
          let row = filter (leads_from (number_of (slice_get ms e.index))) links in
          let whole : rows ms links (drop i es) ≡ rest =
          next ∙ ap (λ (r : Result (List Counts) Fault). carried row (λ k. sent_of r) ++ rest) w.in_default.is
          ∙ ap (λ (ds : List Meant). ds ++ rest) (carried_none row (λ k. []) (λ k. refl)) in
          record {
            ready = subst (λ v. IsReady ms v) (sym w.self-is) c.loop-emission.invariant.ready;
            rest = λ r h.
                c.loop-emission.invariant.rest r
                (subst (λ (ds : List Meant). HasTaken ms ds old r) (sym whole)
                (subst (λ v. HasTaken ms rest v r) w.self-is h));
          }
    ]

pub returns : goal.returns
returns c =
    let ms = c.args.members.now in
    let xs = c.args.emitted.now in
    let self = c.loop-emission.self in
    c.loop-emission.invariant.rest self
    (subst (λ (xs : List (Indexed (Result (List Counts) Fault))). HasTaken ms (rows ms c.args.links.now xs) self self)
    (sym (drop_all c.loop-emission.emission-index xs c.loop-emission-test.false)) (taken_none ms self))
