use Rattle.std.proofs.Common.{map, nat_eq, sym, ap, ◌∙◌}
use Rattle.dv_conservative.specs.Links.{Link as Meant}
use Rattle.dv_share.specs.Links.{link_of}
use Rattle.dv_share.proofs.Ranges.{filter_map}
use Rattle.dv_share.proofs.Rising.{rises_before}
use Rattle.dv_share.proofs.routes.links_at.Goals as goal

pub run_of-requires : goal.run_of-requires
run_of-requires c = rises_before link_of (λ (l : Meant). l.from_port) c.args.links.now c.requires

pub returns : goal.returns
returns c =
    ap (map link_of) c.run_of.ensures
    ∙ sym (filter_map (λ (l : Meant). nat_eq l.from_port c.args.port) link_of c.args.links.now)
