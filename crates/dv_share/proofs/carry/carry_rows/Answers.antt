use Rattle.std.proofs.Common.{◌≡◌, ◌+◌, ◌<◌, ◌++◌, [], List, Option, Some, Result, length, filter, get_or, slice_get, drop}
use Rattle.std.proofs.Common.{refl, sym, ap, ◌∙◌, subst, arith}
use Rattle.std.proofs.lemmas.Option.{slice_get-get_or}
use Rattle.dv_bag.specs.Bag.{Counts}
use Rattle.dv_bag.specs.declared.fault.Fault.{Fault}
use Rattle.dv_react.specs.Outcomes.{sent_of}
use Rattle.dv_conservative.specs.Links.{Delivery as Meant, Link, carried}
use Rattle.dv_share.specs.Links.{deliveries_of, leads_from}
use Rattle.dv_share.specs.Rows.{number_of, rows}
use Rattle.dv_share.specs.declared.tables.Member.{Member}
use Rattle.dv_share.proofs.Carrying.{carry_more, drop_next}
use Rattle.dv_share.proofs.Senders.{carried_none}
use Rattle.dv_share.proofs.carry.carry_rows.Goals.{in-Ok+in_ok-carry_row, in_default}
use Rattle.dv_share.proofs.carry.carry_rows.Goals as goal

pub loop-emission-preserved : goal.loop-emission-preserved
loop-emission-preserved c =
    let es = c.args.emitted.now in
    let ms = c.args.members.now in
    let links = c.args.links.now in
    let i = c.loop-emission.emission-index in
    let e = c.emission-item.result in
    let old = c.loop-emission.deliveries.items in
    let all = deliveries_of c.args.deliveries.now.items ++ rows ms links es in
    let rest = rows ms links (drop (i + 1) es) in
    let early : i < length es = omega arith in
    let within : e.index < length ms = subst (λ x. x.index < length ms) (sym c.emission-item.is) (c.requires.emitted.within i e early) in
    let next = ap (rows ms links) (drop_next es i e early c.emission-item.is) in
    elim c.match-emission.branch [
      | in-Ok+in_ok-carry_row w ↦
          let m = get_or ms e.index w.index-members-emission.result in
          let at : slice_get ms e.index ≡ Some m = slice_get-get_or ms e.index w.index-members-emission.result within in
          carry_more c.match-emission.deliveries.items old (carried (filter (leads_from m.number) links) (λ k. w.in-Ok.sent)) rest all
          (ap (λ v. deliveries_of v.items) w.deliveries-is ∙ w.in_ok-carry_row.ensures
          ∙ ap (λ (ls : List Link). deliveries_of old ++ carried ls (λ k. w.in-Ok.sent)) w.of_component.ensures.links)
          (ap (λ (ds : List Meant). deliveries_of old ++ ds)
          (sym
          (next ∙ ap (λ (o : Option Member). carried (filter (leads_from (number_of o)) links) (λ k. sent_of e.what) ++ rest) at
          ∙ ap (λ (r : Result (List Counts) Fault). carried (filter (leads_from m.number) links) (λ k. sent_of r) ++ rest) w.in-Ok.is))
          ∙ c.loop-emission.invariant)
      | in_default w ↦
          let row = filter (leads_from (number_of (slice_get ms e.index))) links in
          ap (λ v. deliveries_of v.items ++ rest) w.deliveries-is
          ∙ ap (λ (ds : List Meant). deliveries_of old ++ ds)
          (sym
          (next ∙ ap (λ (r : Result (List Counts) Fault). carried row (λ k. sent_of r) ++ rest) w.in_default.is
          ∙ ap (λ (ds : List Meant). ds ++ rest) (carried_none row (λ k. []) (λ k. refl))))
          ∙ c.loop-emission.invariant
    ]
