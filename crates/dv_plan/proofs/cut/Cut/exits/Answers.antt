use Rattle.std.proofs.Common.{◌∙◌, ◌<◌, [], ap, get_or, length, map, refl, subst, sym}
use Rattle.std.proofs.lemmas.List.{length-map}
use Rattle.dv_conservative.specs.Links.{Link as Meant}
use Rattle.dv_plan.specs.Cuts.{exits_from, owned_by}
use Rattle.dv_plan.specs.Keys.{sender_key}
use Rattle.dv_share.specs.Links.{links_of}
use Rattle.dv_plan.proofs.Kept.{kept_links, list_at, lists_long}
use Rattle.dv_plan.proofs.cut.Cut.exits.Goals as goal

pub list_at-requires : goal.list_at-requires
list_at-requires c =
    let g = c.self.inside.groups.now in
    let p = c.args.process in
    let all = sym (ap (λ v. v.grouping.processes) c.self.view_is) in
    let long =
    ap length c.deref.ensures.value
    ∙ sym (length-map c.self.inside.exits.items (λ list. list.items))
    ∙ ap length c.self.invariant.exits
    ∙ lists_long (sender_key g) g.processes c.self.inside.links.exits.items in
    subst (λ k. p < k) (all ∙ sym long) c.requires

pub returns : goal.returns
returns c =
    let g = c.self.inside.groups.now in
    let p = c.args.process in
    let links = c.self.inside.links.exits.items in
    let lp = subst (λ k. p < k) (sym (ap (λ v. v.grouping.processes) c.self.view_is)) c.requires in
    ap links_of c.list_at.ensures
    ∙ ap (λ ls. links_of (get_or ls p [])) (ap (map (λ list. list.items)) c.deref.ensures.value ∙ c.self.invariant.exits)
    ∙ ap links_of (list_at (sender_key g) g.processes p links lp)
    ∙ kept_links (sender_key g) p (λ (m : Meant). owned_by g p m.from) (λ l. refl) links
    ∙ ap (λ v. exits_from v p) c.self.view_is
