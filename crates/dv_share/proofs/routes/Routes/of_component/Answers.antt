use Rattle.std.proofs.Common.{List, ◌-◌, nat_eq, filter, subst, sym, ap, take, drop, ◌∙◌}
use Rattle.dv_share.specs.Links.{RiseByPort, leads_from, link_of, links_of}
use Rattle.dv_share.specs.declared.link.Link.{Link}
use Rattle.dv_share.proofs.Ranges.{filter_map}
use Rattle.dv_share.proofs.routes.Routes.of_component.Goals as goal

pub returns-clause-links : goal.returns-clause-links
returns-clause-links c =
    let first = c.span_of-first.result.0 in
    let end = c.span_of-first.result.1 in
    ap (λ (ls : List Link). links_of (take (end - first) (drop first ls))) (c.deref-3.ensures.value ∙ sym c.deref.ensures.value)
    ∙ ap links_of c.span_of-first.ensures.part
    ∙ ap (λ (ls : List Link). links_of (filter (λ (l : Link). nat_eq l.from c.args.component) ls)) c.deref.ensures.value
    ∙ sym (filter_map (leads_from c.args.component) link_of c.self.inside.links.items)
    ∙ ap (filter (leads_from c.args.component)) c.self.view_is

pub returns-clause-rise : goal.returns-clause-rise
returns-clause-rise c =
    subst RiseByPort
    (ap (filter (leads_from c.args.component)) c.self.view_is ∙ sym (returns-clause-links c))
    (c.self.invariant.0.ports c.args.component)
