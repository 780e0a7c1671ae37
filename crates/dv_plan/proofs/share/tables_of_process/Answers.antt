use Rattle.std.proofs.Common.{List, ap, subst, sym, ◌∙◌}
use Rattle.dv_conservative.specs.Links.{Link, is_between}
use Rattle.dv_share.specs.Links.{RiseByPort, RiseBySource, links_of}
use Rattle.dv_share.specs.declared.link.Link.{Link as CodeLink}
use Rattle.dv_plan.specs.Cuts.{owned_by}
use Rattle.dv_plan.proofs.Rising.{kept_by_port, kept_by_source}
use Rattle.dv_plan.proofs.share.tables_of_process.Goals as goal

pub routes-requires : goal.routes-requires
routes-requires g c =
    let cut = c.args.common.now.cut.now in
    let own = owned_by cut.grouping c.args.process in
    subst RiseBySource (sym c.between.ensures) (kept_by_source (is_between own own) cut.direct c.requires.rises.direct)

pub new-requires : goal.new-requires
new-requires g c =
    let cut = c.args.common.now.cut.now in
    subst (λ (ls : List CodeLink). RiseByPort (links_of ls)) (sym c.in_ok-copies.ensures)
    (subst RiseByPort (sym c.entrances.ensures)
    (kept_by_port (λ (l : Link). owned_by cut.grouping c.args.process l.to) cut.entrances c.requires.rises.entrances))

pub routes-requires-2 : goal.routes-requires-2
routes-requires-2 g c =
    let cut = c.args.common.now.cut.now in
    subst RiseBySource (sym c.exits.ensures)
    (kept_by_source (λ (l : Link). owned_by cut.grouping c.args.process l.from) cut.exits c.requires.rises.exits)

pub returns-clause-links : goal.returns-clause-links
returns-clause-links g c = c.in_ok-routes.ensures ∙ c.between.ensures

pub returns-clause-entrances : goal.returns-clause-entrances
returns-clause-entrances g c =
    c.new.ensures ∙ ap (λ (ls : List CodeLink). links_of ls) c.in_ok-copies.ensures ∙ c.entrances.ensures

pub returns-clause-exits : goal.returns-clause-exits
returns-clause-exits g c = c.in_ok-routes-2.ensures ∙ c.exits.ensures
