use Rattle.std.proofs.Common.{◌≡◌, ◌∙◌, ◌++◌, [], List, ap, sym, arith}
use Rattle.std.specs.Vec.{vec_len}
use Rattle.std.proofs.lemmas.Bool.{eqb-true}
use Rattle.std.proofs.lemmas.List.{append-nil, nil_from_length}
use Rattle.std.proofs.lemmas.Result.{on_ok_weaker}
use Rattle.dv_bag.specs.declared.entry.Outer.{Outer}
use Rattle.dv_devs.specs.Network.{outer_from}
use Rattle.dv_react.specs.Components.{rank_of}
use Rattle.dv_bag.specs.Part.{PartOf}
use Rattle.dv_record.specs.Told.{with_lines}
use Rattle.dv_conservative.specs.Links.{Delivery as Meant, carried, inbox}
use Rattle.dv_share.specs.Links.{deliveries_of}
use Rattle.dv_share.specs.Share.{sent_in}
use Rattle.dv_share.specs.declared.link.Delivery.{Delivery}
use Rattle.dv_share.specs.declared.tables.Member.{Member}
use Rattle.dv_share.proofs.Inboxes.{no_lines}
use Rattle.dv_share.proofs.leaving.outer.Goals as goal

no_more_lines : (p : PartOf) → with_lines [] p ≡ p
no_more_lines p = ap (λ (os : List Outer). record { entries = p.entries; outer = os }) (append-nil p.outer)

pub returns-then-is_empty-clause-told : goal.returns-then-is_empty-clause-told
returns-then-is_empty-clause-told g c =
    let told = g.R.Record.told in
    let t = c.args.tables.now in
    let es = c.args.emitted.now in
    let limit = c.args.instant.now.limit in
    let now = rank_of c.args.instant.now in
    let all = c.carry_emitted.new.deliveries.items in
    let led : deliveries_of all ≡ carried t.exits (sent_in t.members.items es) =
    c.in_ok-carry_emitted.ensures
    ∙ ap (λ (ds : List Delivery). deliveries_of ds ++ carried t.exits (sent_in c.deref.result.now es))
    c.clear.ensures.items
    ∙ ap (λ (ms : List Member). carried t.exits (sent_in ms es)) c.deref.ensures.value in
    let count = eqb-true (vec_len c.carry_emitted.new.deliveries) 0 (sym c.is_empty.ensures ∙ c.if-is_empty.true) in
    let none = nil_from_length all (omega (arith, count)) in
    let lines = ap (λ (ds : List Meant). outer_from limit now 0 (inbox 0 ds 0 t.outputs)) (sym led ∙ ap deliveries_of none)
    ∙ no_lines limit now 0 0 t.outputs in
    sym (ap (λ (os : List Outer). with_lines os (told c.args.to.now)) lines ∙ no_more_lines (told c.args.to.now))

pub returns-clause-told : goal.returns-clause-told
returns-clause-told g c =
    let told = g.R.Record.told in
    let t = c.args.tables.now in
    let es = c.args.emitted.now in
    let limit = c.args.instant.now.limit in
    let now = rank_of c.args.instant.now in
    let all = c.carry_emitted.new.deliveries.items in
    let led : deliveries_of all ≡ carried t.exits (sent_in t.members.items es) =
    c.in_ok-carry_emitted.ensures
    ∙ ap (λ (ds : List Delivery). deliveries_of ds ++ carried t.exits (sent_in c.deref.result.now es))
    c.clear.ensures.items
    ∙ ap (λ (ms : List Member). carried t.exits (sent_in ms es)) c.deref.ensures.value in
    let lines = ap (λ (ds : List Meant). outer_from limit now 0 (inbox 0 ds 0 t.outputs))
    (ap deliveries_of c.deref_mut.ensures.value ∙ led) in
    on_ok_weaker c.tell_lines.result
    (λ h. h ∙ ap (λ (os : List Outer). with_lines os (told c.args.to.now)) lines) c.tell_lines.ensures.told
